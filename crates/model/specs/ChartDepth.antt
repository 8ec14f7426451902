-- The settling depth of a chart (document 02, U6), in the field the degree of distinguishability of its blocks: how long a sequence must be to
-- tell them apart. Definitions only.
use Rattle.std.specs.Prelude.{◌≡◌, Bool, not, ◌&&◌, List, ℕ, suc, ◌-◌, ◌≤◌, ◌<◌, eqb, length}
use Rattle.systems.specs.Search.{any, count}
use Rattle.systems.specs.System.{reading, Below}
use Rattle.exploration.specs.Counting.{numbers, classes}
use Rattle.model.specs.Chart.{actions_of, blocks_of, label_of, chart_system, round_class}

-- two blocks are in one class after k rounds
abbrev pub same_round : List ℕ → ℕ → ℕ → ℕ → Bool
same_round c k i j = eqb (round_class c k i) (round_class c k j)

-- round k + 1 parts some blocks: two that are in one class after k rounds and no longer after one more
unfoldable pub parts : List ℕ → ℕ → Bool
parts c k = any (λ i. any (λ j. same_round c k i j && not (same_round c (suc k) i j)) (blocks_of c)) (blocks_of c)

-- The settling depth: how many rounds still part some blocks. Grouping by labels comes before the first round and is none. As many rounds as
-- there are blocks are looked at: no later one parts any.
unfoldable pub depth_of : List ℕ → ℕ
depth_of c = count (parts c) (blocks_of c)

-- how many different labels the chart has
unfoldable pub label_count : List ℕ → ℕ
label_count c = classes (λ i j. eqb (label_of c i) (label_of c j)) (numbers (blocks_of c))

-- the greatest depth: the number of blocks less that of different labels
unfoldable pub depth_limit : List ℕ → ℕ
depth_limit c = blocks_of c - label_count c

-- a sequence of at most k of the chart's actions that reads differently from two blocks
pub record ApartIn (c : List ℕ) (k i j : ℕ) : Type 0 where
  pub sequence : List ℕ
  pub of_actions : Below (actions_of c) sequence
  pub short : length sequence ≤ k
  pub differs : reading (chart_system c) sequence i ≡ reading (chart_system c) sequence j → ⊥

-- every two blocks are told apart by a sequence of at most k of the chart's actions
abbrev pub AllApartIn : List ℕ → ℕ → Type 0
AllApartIn c k = (i j : ℕ) → i < j → j < blocks_of c → ApartIn c k i j

-- two blocks that a sequence of at most d actions tells apart and none shorter than d, of whatever actions
pub record NotBefore (c : List ℕ) (d : ℕ) : Type 0 where
  pub one : ℕ
  pub other : ℕ
  pub one_block : one < blocks_of c
  pub other_block : other < blocks_of c
  pub told : ApartIn c d one other
  pub alike_before : (w : List ℕ) → length w < d → reading (chart_system c) w one ≡ reading (chart_system c) w other

-- What is promised of the depth d of an accepted chart.
pub record Settles (c : List ℕ) (d : ℕ) : Type 0 where
  pub within : d ≤ depth_limit c
  pub single : blocks_of c ≡ 1 → d ≡ 0
  pub all_apart : AllApartIn c d
  pub needed : 0 < d → NotBefore c d
  -- d is the least depth that tells all blocks apart
  pub least : (e : ℕ) → AllApartIn c e → d ≤ e
