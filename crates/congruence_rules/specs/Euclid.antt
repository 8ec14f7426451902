-- Euclid's algorithm, extended: the greatest common divisor g of h and a, and a multiple of a that is equal to g modulo h.
use Rattle.std.specs.Prelude.{◌↔◌, ℕ, ◌*◌}
use Rattle.std.specs.Int.{◌∣◌}
use Rattle.congruence_rules.specs.Modular.{Same}

-- g is the greatest common divisor of h and a, and u * a is equal to it modulo h (Bezout's identity)
pub record IsBezout (h a g u : ℕ) : Type 0 where
  pub common : (d : ℕ) → (d ∣ g) ↔ ((d ∣ h) × (d ∣ a))
  pub multiple : Same h (u * a) g

-- On the way: x and y have the divisors that h and a have in common, and are s and t times a, modulo h.
pub record OnTheWay (h a x s y t : ℕ) : Type 0 where
  pub first : Same h (s * a) x
  pub second : Same h (t * a) y
  pub common : (d : ℕ) → ((d ∣ x) × (d ∣ y)) ↔ ((d ∣ h) × (d ∣ a))

-- it comes to an end
pub record Ends (h a : ℕ) : Type 0 where
  pub divisor : ℕ
  pub factor : ℕ
  pub is : IsBezout h a divisor factor
