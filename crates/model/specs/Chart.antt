-- A chart as bytes: its fields, what is read on it, the chart rules of document 01 and rounds of refinement. Definitions only.
use Rattle.std.specs.Prelude.{◌≡◌, ◌↔◌, ◌⊎◌, Bool, true, false, not, ◌&&◌, List, ℕ, zero, suc, ◌+◌, ◌*◌, ◌≤◌, ◌<◌, eqb, ltb, length, get_or, take, Option, Some, None}
use Rattle.integers.specs.LittleEndian.{unsigned_at}
use Rattle.systems.specs.Search.{all, least}
use Rattle.systems.specs.System.{System, Reading, reading, Below}
use Rattle.model.specs.Blocks.{chart_mark}

-- number of actions, number of blocks
abbrev pub actions_of : List ℕ → ℕ
actions_of c = get_or c 5 0

abbrev pub blocks_of : List ℕ → ℕ
blocks_of c = get_or c 6 0

-- where the record of block i begins
unfoldable pub record_at : List ℕ → ℕ → ℕ
record_at c i = 7 + i * (2 + actions_of c)

unfoldable pub label_of : List ℕ → ℕ → ℕ
label_of c i = unsigned_at 2 c (record_at c i)

-- the byte of the target of action a in block i: a block number, or 255 for barred
unfoldable pub target_of : List ℕ → ℕ → ℕ → ℕ
target_of c i a = get_or c (record_at c i + 2 + a) 0

-- the block that a target byte names, if it names one
unfoldable pub block_named : ℕ → Option ℕ
block_named t = elim (eqb t 255) [ true ↦ None | false ↦ Some t ]

-- an action past the chart's number is barred
unfoldable pub chart_step : List ℕ → ℕ → ℕ → Option ℕ
chart_step c a i = elim (ltb a (actions_of c)) [ true ↦ block_named (target_of c i a) | false ↦ None ]

-- The chart's transition system: its configurations are the block numbers.
unfoldable pub chart_system : List ℕ → System ℕ
chart_system c = record { label = label_of c; step = chart_step c }

-- the reading of an action sequence from block 0
unfoldable pub chart_reading : List ℕ → List ℕ → Reading
chart_reading c w = reading (chart_system c) w 0

-- the next unnamed number after a target, if it was m before
unfoldable pub next_after : ℕ → ℕ → ℕ
next_after m t = elim (eqb t 255) [ true ↦ m | false ↦ elim (eqb t m) [ true ↦ suc m | false ↦ m ] ]

-- the next unnamed number after the first n targets of block i, if it was m before them
unfoldable pub next_in : List ℕ → ℕ → ℕ → ℕ → ℕ
next_in c i m zero = m
next_in c i m (suc n) = next_after (next_in c i m n) (target_of c i n)

-- the next unnamed number after the first n records. Block 0 needs no name.
unfoldable pub next_unnamed : List ℕ → ℕ → ℕ
next_unnamed c zero = 1
next_unnamed c (suc n) = next_in c n (next_unnamed c n) (actions_of c)

-- A sequence of the chart's actions that reads differently from two blocks.
pub record ToldApart (c : List ℕ) (i j : ℕ) : Type 0 where
  pub sequence : List ℕ
  pub of_actions : Below (actions_of c) sequence
  pub differs : reading (chart_system c) sequence i ≡ reading (chart_system c) sequence j → ⊥

-- The chart rules.
pub record ChartRules (c : List ℕ) : Type 0 where
  pub mark : take 5 c ≡ chart_mark
  pub actions_some : 1 ≤ actions_of c
  pub actions_few : actions_of c ≤ 8
  pub blocks_some : 1 ≤ blocks_of c
  pub blocks_few : blocks_of c ≤ 255
  pub length_right : length c ≡ record_at c (blocks_of c)
  -- a label is not 65,535, which a reading has in the place of a label where an action is barred
  pub labels_right : (i : ℕ) → i < blocks_of c → label_of c i < 65535
  pub targets_right : (i a : ℕ) → i < blocks_of c → a < actions_of c → (target_of c i a < blocks_of c) ⊎ (target_of c i a ≡ 255)
  pub named_in_order : (i a : ℕ) → i < blocks_of c → a < actions_of c
      → (target_of c i a ≡ 255) ⊎ (target_of c i a ≤ next_in c i (next_unnamed c i) a)
  pub named_before : (i : ℕ) → 1 ≤ i → i < blocks_of c → i < next_unnamed c i
  pub bars_alike : (i j a : ℕ) → i < j → j < blocks_of c → a < actions_of c → label_of c i ≡ label_of c j
      → (target_of c i a ≡ 255) ↔ (target_of c j a ≡ 255)
  pub told_apart : (i j : ℕ) → i < j → j < blocks_of c → ToldApart c i j

-- two targets agree: both are barred, or neither is and f gives the same for both
unfoldable pub same_target : (ℕ → ℕ) → ℕ → ℕ → Bool
same_target f t u = elim (eqb t 255) [ true ↦ eqb u 255 | false ↦ not (eqb u 255) && eqb (f t) (f u) ]

-- A round of refinement: blocks that agree in f and, action by action, in f of their targets.
unfoldable pub refines : List ℕ → (ℕ → ℕ) → ℕ → ℕ → Bool
refines c f i j = eqb (f j) (f i) && all (λ a. same_target f (target_of c j a) (target_of c i a)) (actions_of c)

-- The class of a block after k rounds, as the least block in it: by labels first, then by rounds of refinement.
unfoldable pub round_class : List ℕ → ℕ → ℕ → ℕ
round_class c zero i = least (λ j. eqb (label_of c j) (label_of c i)) (blocks_of c)
round_class c (suc k) i = least (refines c (round_class c k) i) (blocks_of c)
