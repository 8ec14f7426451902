-- What signed machine numbers of 64 bits give back, and the laws by which code over ranges meets its definitions.
use Rattle.std.specs.Prelude.{◌≡◌, refl, true, false, ℕ, ◌+◌, ◌^◌, ◌≤◌, ◌<◌, T, ℤ, pos, negsuc, nat_abs, ◌+ℤ◌, ◌-ℤ◌}
use Rattle.std.proofs.Common.{sym, arith, SFits}
use Rattle.std.specs.Int.Signed.{le_z, lt_z, non_neg, mag}
use Rattle.std.specs.Int.{w64}
use Rattle.std.specs.Int.{int_min, int_max}
use Rattle.std.proofs.lemmas.Int.{to_z-of_z, ints as signed}
use Rattle.integers.specs.declared.Range.{Range}
use Rattle.integers.specs.Order.{up, dn}
use Rattle.integers.proofs.Order.{ints, fits_out, fits_small, lt_z_false, add_parts, sub_parts}
use Rattle.integers.specs.Range.{smaller, larger, contains, vacant, meet, size, Within, RangeWithin}
use Rattle.integers.proofs.RangeLaws.{size_none, T_true, within_size}
use Rattle.integers.specs.Machine.{back64}

-- it is the number itself where that fits
pub back : (z : ℤ) → mag z < 2 ^ 63 → back64 z ≡ z
back z h = to_z-of_z w64 z (record { sfits = h })

-- a number within a bound fits, and what is read back from its bits is as bounded, being the number itself
pub within_fits : {k : ℕ} {z : ℤ} → Within k z → k < 2 ^ 63 → SFits w64 z
within_fits {k} {z} w h = fits_small z (omega (arith, within_size w))

pub within_read : {k : ℕ} {z : ℤ} → k < 2 ^ 63 → Within k z → back64 z ≡ z
within_read {k} {z} h w = to_z-of_z w64 z (within_fits w h)

pub within_back : {k : ℕ} {z : ℤ} → k < 2 ^ 63 → Within k z → Within k (back64 z)
within_back {k} {z} h w = rw (within_read {k = k} {z = z} h w) w

pub smaller_first : (a b : ℤ) → le_z a b ≡ true → a ≡ smaller a b
unfolding smaller
smaller_first a b e = rw e refl

pub smaller_second : (a b : ℤ) → le_z a b ≡ false → b ≡ smaller a b
unfolding smaller
smaller_second a b e = rw e refl

pub larger_second : (a b : ℤ) → le_z a b ≡ true → b ≡ larger a b
unfolding larger
larger_second a b e = rw e refl

pub larger_first : (a b : ℤ) → le_z a b ≡ false → a ≡ larger a b
unfolding larger
larger_first a b e = rw e refl

-- std's lesser and greater of two
pub min_is : (a b : ℤ) → int_min a b ≡ smaller a b
unfolding smaller
min_is a b = grind (arith, signed)

pub max_is : (a b : ℤ) → int_max a b ≡ larger a b
unfolding larger
max_is a b = grind (arith, signed)

pub contains_yes : (r : Range) (x : ℤ) → le_z r.low x ≡ true → le_z x r.high ≡ contains r x
unfolding contains
contains_yes r x e = rw e refl

pub contains_no : (r : Range) (x : ℤ) → le_z r.low x ≡ false → false ≡ contains r x
unfolding contains
contains_no r x e = rw e refl

-- a range within bounds has a size that fits
module _ (r : Range) (w : RangeWithin 1000000000 r) where
  pub difference_fits : SFits w64 (r.high -ℤ r.low)
  difference_fits = fits_out (r.high -ℤ r.low) (omega (ints, sub_parts r.high r.low))

  pub last_fits : SFits w64 (r.high -ℤ r.low +ℤ pos 1)
  last_fits = fits_out (r.high -ℤ r.low +ℤ pos 1) (omega (ints, sub_parts r.high r.low, add_parts (r.high -ℤ r.low) (pos 1)))

pub meet_parts : (a b : Range) (l h : ℤ) → l ≡ larger a.low b.low → h ≡ smaller a.high b.high → ◌≡◌ {A = Range} (record { low = l; high = h }) (meet a b)
unfolding meet
meet_parts a b l h p q = λ i. record { low = p i; high = q i }

-- the size of a range that is not vacant, as the machine computes it
pub size_machine : (r : Range) → lt_z r.high r.low ≡ false → T (non_neg (r.high -ℤ r.low +ℤ pos 1)) × (nat_abs (r.high -ℤ r.low +ℤ pos 1) ≡ size r)
unfolding size
size_machine r e = go (r.high -ℤ r.low +ℤ pos 1) (add_parts (r.high -ℤ r.low) (pos 1)) (sub_parts r.high r.low) (lt_z_false r.high r.low e)
  where
    go : (z : ℤ) → up z + (dn (r.high -ℤ r.low) + dn (pos 1)) ≡ dn z + (up (r.high -ℤ r.low) + up (pos 1))
        → up (r.high -ℤ r.low) + (dn r.high + up r.low) ≡ dn (r.high -ℤ r.low) + (up r.high + dn r.low)
        → up r.low + dn r.high ≤ up r.high + dn r.low
        → T (non_neg z) × (nat_abs z ≡ up z)
    go (pos n) a b c = (tt, refl)
    go (negsuc n) a b c = absurd (omega arith)

pub size_vacant : (r : Range) → lt_z r.high r.low ≡ true → 0 ≡ size r
unfolding vacant
size_vacant r e = sym (size_none r (T_true (lt_z r.high r.low) e))
