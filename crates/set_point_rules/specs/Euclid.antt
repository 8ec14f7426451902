-- Euclid's division of whole numbers, for a divisor of either sign: a remainder is never negative, and below the divisor without its sign.
use Rattle.std.specs.Prelude.{◌≡◌, suc, ℤ, pos, negsuc, nat_abs, neg_ℤ, ◌+ℤ◌, ◌-ℤ◌, ◌*ℤ◌, ◌≤ℤ◌, ◌<ℤ◌}
use Rattle.integers.specs.Division.{floor_by}

-- x and r divide n by f: n = f * x + r, and r is from 0 to one less than f without its sign
pub record Euclid (n f x r : ℤ) : Type 0 where
  pub sum : n ≡ (f *ℤ x) +ℤ r
  pub from_zero : pos 0 ≤ℤ r
  pub below : r <ℤ pos (nat_abs f)

-- the quotient: n by f without its sign, rounded down, then with the sign of f
unfoldable pub quotient : ℤ → ℤ → ℤ
quotient n (pos m) = floor_by n m
quotient n (negsuc m) = neg_ℤ (floor_by n (suc m))

-- the remainder: what the quotient leaves of n
unfoldable pub remainder : ℤ → ℤ → ℤ
remainder n f = n -ℤ (f *ℤ quotient n f)

-- of all pairs of whole numbers exactly one has P
pub record ExactlyOne (P : ℤ → ℤ → Type 0) : Type 0 where
  pub first : ℤ
  pub second : ℤ
  pub has : P first second
  pub only : (x r : ℤ) → P x r → (x ≡ first) × (r ≡ second)
