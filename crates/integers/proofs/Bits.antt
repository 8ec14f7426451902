-- How the code reads numbers from bytes, for the widths of document 01.
use Rattle.std.specs.Prelude.{◌≡◌, refl, List, ℕ, ◌+◌, ◌*◌, ◌<◌, get_or, cond, ltb, pos, ◌-ℤ◌}
use Rattle.std.proofs.Common.{ap, arith, add-zero, add_assoc, get_or-drop, drop-drop, lt-ltb, le-ltb, to_z}
use Rattle.std.specs.Int.{w8, w16, w32}
use Rattle.std.proofs.lemmas.Int.{ints as signed}
use Rattle.std.proofs.Math.Decide.{dec_lt}
use Rattle.integers.specs.LittleEndian.{joined, unsigned_at, signed_of, signed_at}
use Rattle.integers.specs.Bits.{from_bits}

-- the machine's casts read them so
pub cast_one : (u : ℕ) → u < 256 → to_z w8 u ≡ from_bits 128 u
unfolding from_bits
cast_one u h = go (dec_lt u 128)
  where
    go : Dec (u < 128) → to_z w8 u ≡ cond (ltb u 128) (pos u) (pos u -ℤ pos 256)
    go (yes l) = rw (lt-ltb u 128 l) (omega (arith, signed))
    go (no l) = rw (le-ltb u 128 (omega arith)) (omega (arith, signed))

pub cast_two : (u : ℕ) → u < 65536 → to_z w16 u ≡ from_bits 32768 u
unfolding from_bits
cast_two u h = go (dec_lt u 32768)
  where
    go : Dec (u < 32768) → to_z w16 u ≡ cond (ltb u 32768) (pos u) (pos u -ℤ pos 65536)
    go (yes l) = rw (lt-ltb u 32768 l) (omega (arith, signed))
    go (no l) = rw (le-ltb u 32768 (omega arith)) (omega (arith, signed))

pub cast_four : (u : ℕ) → u < 4294967296 → to_z w32 u ≡ from_bits 2147483648 u
unfolding from_bits
cast_four u h = go (dec_lt u 2147483648)
  where
    go : Dec (u < 2147483648) → to_z w32 u ≡ cond (ltb u 2147483648) (pos u) (pos u -ℤ pos 4294967296)
    go (yes l) = rw (lt-ltb u 2147483648 l) (omega (arith, signed))
    go (no l) = rw (le-ltb u 2147483648 (omega arith)) (omega (arith, signed))

-- the numbers of one, two and four bytes
pub one_byte : (s : List ℕ) (at : ℕ) → get_or s at 0 ≡ unsigned_at 1 s at
unfolding unsigned_at joined
one_byte s at = simp (get_or-drop, add-zero) (omega arith)

pub two_bytes : (s : List ℕ) (at a b : ℕ) → a ≡ get_or s at 0 → b ≡ get_or s (at + 1) 0 → a + 256 * b ≡ unsigned_at 2 s at
unfolding unsigned_at joined
two_bytes s at a b p q = simp (drop-drop, get_or-drop, add-zero) (omega arith)

pub four_bytes : (s : List ℕ) (at a b : ℕ) → a ≡ unsigned_at 2 s at → b ≡ unsigned_at 2 s (at + 2) → a + 65536 * b ≡ unsigned_at 4 s at
unfolding unsigned_at joined
four_bytes s at a b p q =
    let u = simp (drop-drop, get_or-drop, add-zero, add_assoc) at p in
    let v = simp (drop-drop, get_or-drop, add-zero, add_assoc) at q in
    simp (drop-drop, get_or-drop, add-zero, add_assoc) (omega arith)

-- two and four bytes as std joins them
pub joined_two : (s : List ℕ) (at : ℕ) → get_or s at 0 + get_or s (at + 1) 0 * 256 ≡ unsigned_at 2 s at
joined_two s at = omega (arith, two_bytes s at (get_or s at 0) (get_or s (at + 1) 0) refl refl)

pub joined_four : (s : List ℕ) (at : ℕ) → get_or s at 0 + get_or s (at + 1) 0 * 256 + get_or s (at + 2) 0 * 65536 + get_or s (at + 3) 0 * 16777216 ≡ unsigned_at 4 s at
joined_four s at =
    let u = joined_two s at in
    let v = two_bytes s (at + 2) (get_or s (at + 2) 0) (get_or s (at + 3) 0) refl (ap (λ (k : ℕ). get_or s k 0) (omega arith)) in
    omega (arith, four_bytes s at (unsigned_at 2 s at) (unsigned_at 2 s (at + 2)) refl refl)

-- the three signed widths
pub signed_one : (s : List ℕ) (at u : ℕ) → u ≡ unsigned_at 1 s at → from_bits 128 u ≡ signed_at 1 s at
unfolding from_bits signed_at signed_of
signed_one s at u e = rw e refl

pub signed_two : (s : List ℕ) (at u : ℕ) → u ≡ unsigned_at 2 s at → from_bits 32768 u ≡ signed_at 2 s at
unfolding from_bits signed_at signed_of
signed_two s at u e = rw e refl

pub signed_four : (s : List ℕ) (at u : ℕ) → u ≡ unsigned_at 4 s at → from_bits 2147483648 u ≡ signed_at 4 s at
unfolding from_bits signed_at signed_of
signed_four s at u e = rw e refl
