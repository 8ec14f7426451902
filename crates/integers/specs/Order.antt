-- Linear facts over ℤ for `omega`, which knows only ℕ: an integer z is read as the difference up z - dn z of two naturals.
-- `omega ints` then proves orders and equations of integers; sums, differences and products are listed by the laws below.
use Rattle.std.specs.Prelude.{ℕ, suc, ℤ, pos, negsuc}

-- what an integer has above zero
abbrev pub up : ℤ → ℕ
up (pos n) = n
up (negsuc n) = 0

-- what an integer has below zero
abbrev pub dn : ℤ → ℕ
dn (pos n) = 0
dn (negsuc n) = suc n
