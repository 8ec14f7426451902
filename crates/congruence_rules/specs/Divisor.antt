-- The greatest common divisor of m and all increments: its divisors are those that m and the increments have in common.
use Rattle.std.specs.Prelude.{◌↔◌, List, ℕ, ◌<◌, length, get_or}
use Rattle.std.specs.Int.{◌∣◌}

-- d divides m and all increments
pub record Common (d m : ℕ) (xs : List ℕ) : Type 0 where
  pub of_modulus : d ∣ m
  pub of_each : (i : ℕ) → i < length xs → d ∣ get_or xs i 0

-- g has the divisors that m and all increments have in common, and no others
abbrev pub IsDivisor : ℕ → List ℕ → ℕ → Type 0
IsDivisor m xs g = (d : ℕ) → (d ∣ g) ↔ Common d m xs
