-- The theorems that the product rests on, on the definitions: classes are what reads alike, the blocks are the minimal reachable graph, the chart obeys its
-- rules and reads what the sheet reads, charts are equal just when the behaviour is, and entries tell it. Statements first, then their proofs.
use Rattle.std.specs.Prelude.{◌≡◌, ◌↔◌, true, List, ℕ, ◌≤◌, ◌<◌, T, length}
use Rattle.systems.specs.System.{Reached, reading, Alike, Below}
use Rattle.systems.specs.Alike.{Bisimulation}
use Rattle.exploration.specs.Explored.{Many}
use Rattle.model.specs.Sheet.{Configuration, Sheet, in_box, sheet_system, sheet_reading, Covered}
use Rattle.model.specs.Blocks.{class_of, blocks, block_at, too_many, chart_of}
use Rattle.model.specs.Chart.{chart_system, ChartRules, chart_reading}

-- y is in the class of x just when all sequences, of whatever length, read the same from both.
abbrev pub ClassesExact : Sheet → Type 0
ClassesExact s = (x y : Configuration) → Covered s x → Covered s y
    → T (in_box (class_of s x) y) ↔ ((w : List ℕ) → reading (sheet_system s) w x ≡ reading (sheet_system s) w y)

-- Reading alike is the equivalence of definition 2.2 of source 000: it has properties 1 and 2, and contains every relation that has them.
pub record LargestBisimulation (s : Sheet) : Type 1 where
  pub has_both : Bisimulation (sheet_system s) (sheet_system s) (Alike (sheet_system s) (sheet_system s))
  pub contains_all : (R : Configuration → Configuration → Type 0) → Bisimulation (sheet_system s) (sheet_system s) R
      → (x y : Configuration) → R x y → (w : List ℕ) → reading (sheet_system s) w x ≡ reading (sheet_system s) w y

-- the configuration is in block i
abbrev pub InBlock : Sheet → ℕ → Configuration → Type 0
InBlock s i x = (i < length (blocks s)) × T (in_box (class_of s (block_at s i)) x)

-- The blocks are the minimal reachable graph's (demand 2).
pub record MinimalReachable (s : Sheet) : Type 0 where
  -- block 0 holds the start, and every block holds a reached configuration
  pub start_first : block_at s 0 ≡ s.start
  pub blocks_reached : (i : ℕ) → i < length (blocks s) → Reached (sheet_system s) s.start (block_at s i) × InBlock s i (block_at s i)
  -- with at most 255 blocks every reached configuration is in exactly one
  pub reached_blocks : length (blocks s) ≤ 255 → (x : Configuration) → Reached (sheet_system s) s.start x → (i : ℕ) × InBlock s i x
  pub one_block : (i j : ℕ) (x : Configuration) → InBlock s i x → InBlock s j x → i ≡ j
  -- two configurations of blocks share one just when all sequences read the same from both
  pub shared_block : (i j : ℕ) (x y : Configuration) → InBlock s i x → InBlock s j y
      → (i ≡ j) ↔ ((w : List ℕ) → reading (sheet_system s) w x ≡ reading (sheet_system s) w y)
  -- a block's box holds exactly the configurations of regions that read as its representative does
  pub boxes_exact : (i : ℕ) (x : Configuration) → i < length (blocks s)
      → T (in_box (class_of s (block_at s i)) x) ↔ (Covered s x × ((w : List ℕ) → reading (sheet_system s) w (block_at s i) ≡ reading (sheet_system s) w x))
  -- refusal 9 means 256 reached configurations, no two of which read alike
  pub refused_many : (too_many s ≡ true) ↔ Many (sheet_system s) s.start 256

-- The chart obeys the chart rules, and from block 0 it reads what the sheet reads from its start.
pub record ChartRight (s : Sheet) : Type 0 where
  pub obeys_rules : ChartRules (chart_of s)
  pub reads_alike : (w : List ℕ) → chart_reading (chart_of s) w ≡ sheet_reading s w

-- Charts are equal just when both sheets have as many actions and all sequences of these actions read the same (demand 3).
abbrev pub ChartsTell : Sheet → Sheet → Type 0
ChartsTell s t = (chart_of s ≡ chart_of t) ↔ ((s.actions ≡ t.actions) × ((w : List ℕ) → Below s.actions w → sheet_reading s w ≡ sheet_reading t w))

-- Equal entries are equal readings, of two sheets and of two charts: the entries tell the first barred action.
abbrev pub SheetEntries : Sheet → Sheet → Type 0
SheetEntries s t = (w : List ℕ) (x y : Configuration) → (reading (sheet_system s) w x).entries ≡ (reading (sheet_system t) w y).entries
    → reading (sheet_system s) w x ≡ reading (sheet_system t) w y

abbrev pub ChartEntries : List ℕ → List ℕ → Type 0
ChartEntries c d = (w : List ℕ) (i j : ℕ) → (reading (chart_system c) w i).entries ≡ (reading (chart_system d) w j).entries
    → reading (chart_system c) w i ≡ reading (chart_system d) w j
