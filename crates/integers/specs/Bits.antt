-- How the code reads numbers from bytes, for the widths of document 01.
use Rattle.std.specs.Prelude.{cond, ℕ, ◌+◌, ltb, ℤ, pos, ◌-ℤ◌}

-- a number below 2 * half, read in two's complement: from half on it is negative
unfoldable pub from_bits : ℕ → ℕ → ℤ
from_bits half u = cond (ltb u half) (pos u) (pos u -ℤ pos (half + half))
