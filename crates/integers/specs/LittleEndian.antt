-- Little-endian numbers in a list of bytes (document 01: "Numbers wider than a byte are little-endian, signed ones in two's complement"):
-- definitions, and the laws that callers use in their place.
use Rattle.std.specs.Prelude.{List, [], ◌∷◌, cond, ℕ, zero, suc, ◌+◌, ◌*◌, ◌-◌, ◌/◌, ◌%◌, ◌^◌, ◌<◌, ltb, get_or, drop, ℤ, pos, negsuc, neg_ℤ, ◌-ℤ◌, ◌≤ℤ◌, ◌<ℤ◌}

-- the number that the first n bytes of a list give, the lowest first
unfoldable pub joined : ℕ → List ℕ → ℕ
joined zero l = 0
joined (suc n) l = get_or l 0 0 + 256 * joined n (drop 1 l)

-- the unsigned number of n bytes at a place
unfoldable pub unsigned_at : ℕ → List ℕ → ℕ → ℕ
unsigned_at n s at = joined n (drop at s)

-- a number below 2 ^ (8 * n), read as n bytes in two's complement: from half of that on it is negative
unfoldable pub signed_of : ℕ → ℕ → ℤ
signed_of n u = cond (ltb u (2 ^ (8 * n - 1))) (pos u) (pos u -ℤ pos (2 ^ (8 * n)))

-- the signed number of n bytes at a place
unfoldable pub signed_at : ℕ → List ℕ → ℕ → ℤ
signed_at n s at = signed_of n (unsigned_at n s at)

-- the n bytes of a number, the lowest first
unfoldable pub split : ℕ → ℕ → List ℕ
split zero u = []
split (suc n) u = (u % 256) ∷ split n (u / 256)

-- a signed number's bits as n bytes hold them, in two's complement
unfoldable pub bits_of : ℕ → ℤ → ℕ
bits_of n (pos u) = u
bits_of n (negsuc u) = 2 ^ (8 * n) - suc u

-- the list holds bytes
abbrev pub Bytes : List ℕ → Type 0
Bytes l = (i : ℕ) → get_or l i 0 < 256

-- n bytes hold z in two's complement
pub record Holds (n : ℕ) (z : ℤ) : Type 0 where
  pub above : neg_ℤ (pos (2 ^ (8 * n - 1))) ≤ℤ z
  pub below : z <ℤ pos (2 ^ (8 * n - 1))
