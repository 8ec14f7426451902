-- Division of whole numbers by a factor of either sign, rounded down and rounded up.
use Rattle.std.specs.Prelude.{ℕ, suc, ◌/◌, ℤ, pos, negsuc, neg_ℤ}

-- n divided by m, not 0, rounded down
unfoldable pub floor_by : ℤ → ℕ → ℤ
floor_by (pos n) m = pos (n / m)
floor_by (negsuc n) m = negsuc (n / m)

-- n divided by f, not 0, rounded down
unfoldable pub floor : ℤ → ℤ → ℤ
floor n (pos m) = floor_by n m
floor n (negsuc m) = floor_by (neg_ℤ n) (suc m)

-- n divided by f, not 0, rounded up
unfoldable pub ceiling : ℤ → ℤ → ℤ
ceiling n f = neg_ℤ (floor (neg_ℤ n) f)
