-- Two configurations that run side by side, and what it is for no sequence of at most L actions to tell them apart: a distinguishing sequence is one along
-- which both run through the same regions and then are in different ones.
use Rattle.std.specs.Prelude.{◌≡◌, get_or, drop}
use mathlib.Core.List.{List, [], ◌∷◌, ◌++◌}
use Prim.Native.Nat.{ℕ, zero, suc, ◌+◌, ◌≤◌}
use Rattle.std.proofs.Math.ListN.{length}
use Rattle.model.specs.declared.Rule.{Rule}
use Rattle.model.specs.Sheet.{Configuration, Barred, Open, Sheet, region_number, region_of, landing}

-- x and y run side by side along the moves to x' and y': at each place before the end both are in one region, so that an action does the same move in both.
-- A move is given by its rules.
pub data Beside (s : Sheet) : List (List Rule) → Configuration → Configuration → Configuration → Configuration → Type 0 where
  beside_here : {x y : Configuration} → Beside s [] x y x y
  beside_there : {rules : List Rule} {moves : List (List Rule)} {x y x' y' : Configuration} {target : ℕ} → (a : ℕ) → region_number s x ≡ region_number s y
      → get_or (region_of s x).moves a Barred ≡ Open target rules → Beside s moves (landing target rules x) (landing target rules y) x' y'
      → Beside s (rules ∷ moves) x y x' y'

-- no side by side run of at most L moves ends in two regions
abbrev pub Untold : Sheet → ℕ → Configuration → Configuration → Type 0
Untold s L x y = (moves : List (List Rule)) (x' y' : Configuration) → Beside s moves x y x' y' → length moves ≤ L → region_number s x' ≡ region_number s y'

module _ (s : Sheet) where
  -- where x and y are after k moves
  unfoldable pub left_at : {moves : List (List Rule)} {x y x' y' : Configuration} → Beside s moves x y x' y' → ℕ → Configuration
  left_at (beside_here {x = x}) k = x
  left_at (beside_there {x = x} a e o b) zero = x
  left_at (beside_there a e o b) (suc k) = left_at b k

  unfoldable pub right_at : {moves : List (List Rule)} {x y x' y' : Configuration} → Beside s moves x y x' y' → ℕ → Configuration
  right_at (beside_here {y = y}) k = y
  right_at (beside_there {y = y} a e o b) zero = y
  right_at (beside_there a e o b) (suc k) = right_at b k

  -- the part of a run between two places
  pub record Part {moves : List (List Rule)} {x y x' y' : Configuration} (b : Beside s moves x y x' y') (k l : ℕ) : Type 0 where
    pub middle : List (List Rule)
    pub runs : Beside s middle (left_at b k) (right_at b k) (left_at b l) (right_at b l)
    pub long : length middle + k ≡ l
    pub after : drop k moves ≡ middle ++ drop l moves
