-- Least count first: each increment in turn is used the least number of times that leaves a multiple of the greatest common divisor of m and the
-- increments after it.
use Rattle.std.specs.Prelude.{List, [], ◌∷◌, ℕ, ◌+◌, ◌-◌, ◌*◌, ◌%◌, ◌<◌}
use Rattle.systems.specs.Search.{least}
use Rattle.congruence_rules.specs.Congruence.{congruent, divisor}
use Rattle.congruence_rules.specs.Modular.{Same}

-- the least count c below h for which c * a is equal to r modulo h; h where none is
unfoldable pub least_count : ℕ → ℕ → ℕ → ℕ
least_count h a r = least (λ c. congruent h (c * a) r) h

-- what is left of r, modulo m, after an increment a was used c times
abbrev pub remaining : ℕ → ℕ → ℕ → ℕ → ℕ
remaining m a c r = (r + (m - (c * a) % m)) % m

unfoldable pub greedy : ℕ → List ℕ → ℕ → List ℕ
greedy m [] r = []
greedy m (a ∷ xs) r = least_count (divisor m xs) a r ∷ greedy m xs (remaining m a (least_count (divisor m xs) a r) r)

-- what a least count is
pub record IsCount (h a r c : ℕ) : Type 0 where
  pub below : c < h
  pub leaves : Same h (c * a) r
  pub least : (i : ℕ) → i < c → Same h (i * a) r → ⊥
