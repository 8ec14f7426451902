-- Rounds of refinement on a chart: what they tell after each round, when they settle, and sequences that tell blocks apart.
use Rattle.std.specs.Prelude.{◌≡◌, ◌↔◌, ◌⊎◌}
use mathlib.Core.List.{List}
use Prim.Native.Nat.{ℕ, suc, ◌<◌}
use Rattle.systems.specs.Alike.{AlikeTo}
use Rattle.model.specs.Chart.{actions_of, blocks_of, target_of, chart_system, round_class}

-- each target is a block's number or 255
abbrev pub TargetsRight : List ℕ → Type 0
TargetsRight c = (i a : ℕ) → i < blocks_of c → a < actions_of c → (target_of c i a < blocks_of c) ⊎ (target_of c i a ≡ 255)

-- f tells whether two blocks agree to depth k
abbrev pub Tells : List ℕ → ℕ → (ℕ → ℕ) → Type 0
Tells c k f = (i j : ℕ) → i < blocks_of c → j < blocks_of c → (f i ≡ f j) ↔ AlikeTo k (chart_system c) (chart_system c) i j

-- round k + 1 parts nothing that the rounds before it left together
abbrev pub Quiet : List ℕ → ℕ → Type 0
Quiet c k = (i j : ℕ) → i < blocks_of c → j < blocks_of c → round_class c k i ≡ round_class c k j → round_class c (suc k) i ≡ round_class c (suc k) j

-- round k + 1 parts two blocks that the rounds before it left together
pub record Parted (c : List ℕ) (k : ℕ) : Type 0 where
  pub one : ℕ
  pub other : ℕ
  pub one_block : one < blocks_of c
  pub other_block : other < blocks_of c
  pub together : round_class c k one ≡ round_class c k other
  pub apart : round_class c (suc k) one ≡ round_class c (suc k) other → ⊥
