-- All configurations of a box and of a sheet, as lists. Definitions only.
use Rattle.std.specs.Prelude.{List, [], ◌∷◌, ◌++◌, map, ℕ, zero, suc, ℤ}
use Rattle.std.proofs.Math.IntN.{suc_ℤ}
use Rattle.integers.specs.declared.Range.{Range}
use Rattle.integers.specs.Range.{size}
use Rattle.model.specs.Sheet.{Configuration, Box, Region, Sheet}

-- z, z + 1, .., n numbers in all
unfoldable pub numbers : ℤ → ℕ → List ℤ
numbers z zero = []
numbers z (suc n) = z ∷ numbers (suc_ℤ z) n

-- the numbers of a range, in order
unfoldable pub numbers_in : Range → List ℤ
numbers_in r = numbers r.low (size r)

-- each of the heads before each of the tails
unfoldable pub prefixed : List ℤ → List (List ℤ) → List (List ℤ)
prefixed [] tails = []
prefixed (z ∷ heads) tails = map (λ l. z ∷ l) tails ++ prefixed heads tails

-- the value lists within the ranges
unfoldable pub values_in : List Range → List (List ℤ)
values_in [] = [] ∷ []
values_in (r ∷ rs) = prefixed (numbers_in r) (values_in rs)

abbrev pub configuration : ℕ → List ℤ → Configuration
configuration p l = record { state = p; values = l }

-- the configurations of a box
unfoldable pub members : Box → List Configuration
members b = map (configuration b.state) (values_in b.ranges)

-- the configurations of regions, region by region
unfoldable pub members_of : List Region → List Configuration
members_of [] = []
members_of (r ∷ rs) = members r.box ++ members_of rs

-- The configurations of a sheet.
unfoldable pub listing : Sheet → List Configuration
listing s = members_of s.regions
