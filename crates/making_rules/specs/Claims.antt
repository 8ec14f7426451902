-- What is claimed of the running code (the mission's demands 2 and 3). Statements alone; Proofs.antt has their proofs. Of one making: s has the sheet's bytes,
-- of either version, m is the answer, chart and list are the lent buffers before the call, chart' and list' after it.
use Rattle.std.specs.Prelude.{◌≡◌, ◌↔◌, List, ℕ, ◌+◌, ◌*◌, ◌≤◌, ◌<◌, T, length, get_or, take, Result, Ok, Err}
use Rattle.systems.specs.System.{System, Reached, reading, Below}
use Rattle.exploration.specs.Explored.{Many}
use Rattle.answer_rules.specs.declared.Reason.TheVariants.{Blocks}
use Rattle.answer_rules.specs.declared.Refusal.{Refusal}
use Rattle.answer_rules.specs.Refusal.{at}
use Rattle.model.specs.Sheet.{Configuration, in_box, sheet_system, sheet_reading, Covered}
use Rattle.model.specs.Blocks.{blocks, chart_of, box_list_of}
use Rattle.model.specs.Chart.{chart_system}
use Rattle.model.specs.BoxList.{listed_box}
use Rattle.model.specs.Theorems.{MinimalReachable, ChartRight, SheetEntries}
use Rattle.sheet_rules.specs.Layout.{bound_size, counters_of, actions_of}
use Rattle.sheet_rules.specs.Decode.{decode}
use Rattle.sheet_rules.specs.Check.{sheet_check}
use Rattle.sheet_rules.specs.RunSheet.{sheet_ran, sheet_left}
use Rattle.chart.specs.Check.{chart_check}
use Rattle.chart.specs.RunChart.{chart_ran, chart_left as runLeft}
use Rattle.making_rules.specs.Making.{make_checks, made_by, written_by}

-- what a making answers, and what the chart's buffer then holds
abbrev pub made : List ℕ → List ℕ → List ℕ → Result ℕ Refusal
made s chart list = made_by (make_checks s (length chart) (length list)) (decode s)

abbrev pub chart_left : List ℕ → List ℕ → List ℕ → List ℕ
chart_left s chart list = written_by (make_checks s (length chart) (length list)) (chart_of (decode s)) chart

-- and the list's
abbrev pub list_left : List ℕ → List ℕ → List ℕ → List ℕ
list_left s chart list = written_by (make_checks s (length chart) (length list)) (box_list_of (bound_size s) (decode s)) list

-- the sheet's transition system, and how many blocks it has
abbrev pub system_of : List ℕ → System Configuration
system_of s = sheet_system (decode s)

abbrev pub block_count : List ℕ → ℕ
block_count s = length (blocks (decode s))

-- how many bytes the chart of n blocks takes
abbrev pub chart_length : List ℕ → ℕ → ℕ
chart_length s n = 7 + n * (2 + actions_of s)

-- The buffers suffice for the chart and the list of n blocks.
pub record Suffices (s : List ℕ) (n : ℕ) (chart list : List ℕ) : Type 0 where
  pub chart_room : chart_length s n ≤ length chart
  pub list_room : n * (1 + 2 * bound_size s * counters_of s) ≤ length list

-- a configuration that the sheet reaches from its start
abbrev pub ReachedOf : List ℕ → Configuration → Type 0
ReachedOf s x = Reached (system_of s) (decode s).start x

-- every sequence, however long, reads the same from both
abbrev pub ReadAlike : List ℕ → Configuration → Configuration → Type 0
ReadAlike s x y = (w : List ℕ) → reading (system_of s) w x ≡ reading (system_of s) w y

-- the configuration is in the box that record i of the list holds, as wide as the sheet's bounds
abbrev pub InListed : List ℕ → List ℕ → ℕ → Configuration → Type 0
InListed s list i x = T (in_box (listed_box (bound_size s) (counters_of s) list i) x)

-- The boxes in the n records of a list, as read from its bytes.
pub record BoxesRight (s : List ℕ) (n : ℕ) (chart list : List ℕ) : Type 0 where
  -- each holds a reached configuration,
  pub box_reached : (i : ℕ) → i < n → (y : Configuration) × ReachedOf s y × InListed s list i y
  -- and holds exactly the configurations of regions from which every sequence reads as from that one
  pub box_exact : (i : ℕ) (x y : Configuration) → i < n → ReachedOf s y → InListed s list i y
      → InListed s list i x ↔ (Covered (decode s) x × ReadAlike s x y)
  -- block i of the chart reads so too: record i of the list and record i of the chart speak of one block
  pub box_of_block : (i : ℕ) (y : Configuration) → i < n → ReachedOf s y → InListed s list i y
      → (w : List ℕ) → reading (chart_system (take (chart_length s n) chart)) w i ≡ reading (system_of s) w y
  -- every reached configuration is in exactly one box
  pub one_box : (x : Configuration) → ReachedOf s x
      → (i : ℕ) × (i < n) × InListed s list i x × ((j : ℕ) → j < n → InListed s list j x → j ≡ i)

-- Demand 2: chart and list are those of the minimal reachable graph, and more than 255 blocks are the only ground for refusing an accepted sheet in
-- buffers that suffice.
pub record Demand2 (s : List ℕ) (m : Result ℕ Refusal) (chart list chart' list' : List ℕ) : Type 0 where
  -- the chart that was made is accepted by the chart's check and is the chart of the sheet,
  pub chart_accepted : (n : ℕ) → m ≡ Ok n → chart_check (take (chart_length s n) chart') ≡ Ok tt
  pub chart_right : (n : ℕ) → m ≡ Ok n → ChartRight (decode s) × (take (chart_length s n) chart' ≡ chart_of (decode s))
  -- and a run on it gives what the run on the sheet gives, for every sequence and buffer
  pub runs_alike : (n : ℕ) → m ≡ Ok n → (w entries : List ℕ)
      → (chart_ran (take (chart_length s n) chart') w (length entries) ≡ sheet_ran s w (length entries))
      × (runLeft (take (chart_length s n) chart') w entries ≡ sheet_left s w entries)
  -- the listed boxes are the classes that are reached
  pub boxes_right : (n : ℕ) → m ≡ Ok n → BoxesRight s n chart' list'
  -- readings of an accepted sheet with the same entries are equal: they have the same first barred index, or none
  pub entries_tell : sheet_check s ≡ Ok tt → SheetEntries (decode s) (decode s)
  -- the blocks are those of the minimal reachable graph
  pub blocks_minimal : sheet_check s ≡ Ok tt → MinimalReachable (decode s)
  -- an accepted sheet with at most 255 blocks is made in buffers that suffice for them, and the answer is their number;
  pub made_few : sheet_check s ≡ Ok tt → block_count s ≤ 255 → Suffices s (block_count s) chart list → m ≡ Ok (block_count s)
  -- nothing else is made
  pub made_only : (n : ℕ) → m ≡ Ok n → (n ≡ block_count s) × (sheet_check s ≡ Ok tt) × (block_count s ≤ 255) × Suffices s (block_count s) chart list
  -- an accepted sheet that is refused though the buffers suffice is refused 9, which asks nothing of the buffers, and then there are 256 reached
  -- configurations, no two of which read alike
  pub only_ground : sheet_check s ≡ Ok tt → (block_count s ≤ 255 → Suffices s (block_count s) chart list) → (why : Refusal) → m ≡ Err why
      → (why ≡ at Blocks 0) × Many (system_of s) (decode s).start 256
  -- any refusal leaves both buffers as they were
  pub refused_unchanged : (why : Refusal) → m ≡ Err why → (chart' ≡ chart) × (list' ≡ list)

-- the bytes of a chart of n₁ blocks and of one of n₂, at the front of their buffers, are equal in length and byte by byte
abbrev pub ChartsEqual : List ℕ → ℕ → List ℕ → List ℕ → ℕ → List ℕ → Type 0
ChartsEqual s n₁ chart₁ t n₂ chart₂ = (chart_length s n₁ ≡ chart_length t n₂) × ((k : ℕ) → k < chart_length s n₁ → get_or chart₁ k 0 ≡ get_or chart₂ k 0)

-- both sheets have as many actions, and every sequence of these actions, however long, reads the same from the two starts: the same entries in the same order
abbrev pub SameBehaviour : List ℕ → List ℕ → Type 0
SameBehaviour s t = (actions_of s ≡ actions_of t) × ((w : List ℕ) → Below (actions_of s) w → (sheet_reading (decode s) w).entries ≡ (sheet_reading (decode t) w).entries)

-- every sequence of the actions has the same first barred index from the two starts, or none from both
abbrev pub SameBarred : List ℕ → List ℕ → Type 0
SameBarred s t = (w : List ℕ) → Below (actions_of s) w → (sheet_reading (decode s) w).barred ≡ (sheet_reading (decode t) w).barred

-- Demand 3, of two makings: accepted sheets of either version, or one of each, with at most 255 blocks each, in buffers that suffice, whatever these held,
-- are both made, and the chart bytes are equal just when the sheets behave alike. Accepted sheets that behave alike have the same actions barred first.
pub record Demand3 (s t : List ℕ) (m₁ m₂ : Result ℕ Refusal) (chart₁ list₁ chart₂ list₂ chart₁' chart₂' : List ℕ) : Type 0 where
  pub equal_charts : sheet_check s ≡ Ok tt → sheet_check t ≡ Ok tt
      → block_count s ≤ 255 → block_count t ≤ 255
      → Suffices s (block_count s) chart₁ list₁ → Suffices t (block_count t) chart₂ list₂
      → (m₁ ≡ Ok (block_count s)) × (m₂ ≡ Ok (block_count t)) × (ChartsEqual s (block_count s) chart₁' t (block_count t) chart₂' ↔ SameBehaviour s t)
  pub equal_barred : sheet_check s ≡ Ok tt → sheet_check t ≡ Ok tt → SameBehaviour s t → SameBarred s t
