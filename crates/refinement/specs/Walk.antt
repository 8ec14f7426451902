-- The numbering walk step by step, with an array of row numbers in order and an array of each row's place: the laws that the code's loop invariants
-- are made of.
use Rattle.std.specs.Prelude.{ℕ, ◌≤◌, ◌<◌, ◌≡◌, true, false, List, length, get_or}
use Rattle.std.proofs.Math.Dec.{eqb}
use Rattle.exploration.specs.Exploration.{place, known}
use Rattle.exploration.specs.Explored.{seen}
use Rattle.refinement.specs.Numbering.{target_system}

-- the place of a row number in a list, or 255 where it is not there
unfoldable pub number_of : List ℕ → ℕ → ℕ
number_of l k = elim (known eqb l k) [ true ↦ place eqb l k | false ↦ 255 ]

-- The arrays of the walk hold the list l of c row numbers: `order` the numbers, `number` the place of each row, or 255; at 255 it stays 255.
pub record Numbered (l : List ℕ) (order number : ℕ → ℕ) (c : ℕ) : Type 0 where
  pub count : c ≡ length l
  pub orders : (k : ℕ) → k < c → order k ≡ get_or l k 0
  pub numbers : (k : ℕ) → k ≤ 255 → number k ≡ number_of l k

-- the list at the moment when action a of member m is looked at
unfoldable pub walking : (ℕ → ℕ → ℕ) → ℕ → ℕ → ℕ → List ℕ
walking t actions m a = seen (target_system t actions) eqb actions 0 m a
