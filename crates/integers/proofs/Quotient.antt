-- The machine's division, rounded toward zero, and its tests and numbers of 64 bits.
use Rattle.std.specs.Prelude.{◌≡◌, refl, Bool, true, false, ℕ, zero, suc, ◌+◌, ◌/◌, ◌^◌, ◌≤◌, ◌<◌, ℤ, pos, negsuc, neg_ℤ, ◌-ℤ◌}
use Rattle.std.proofs.Common.{sym, ap, subst, ◌∙◌, arith, div-le_self, SFits, of_z}
use Rattle.std.specs.Int.Signed.{lt_z, quot_z}
use Rattle.std.specs.Int.{w64}
use Rattle.integers.specs.Order.{up, dn}
use Rattle.integers.proofs.Order.{ints, eq_out, fits_small, sub_size, up_neg, dn_neg, sub_parts, lt_z_true, lt_z_false}
use Rattle.integers.specs.Range.{contains, near, Within}
use Rattle.integers.proofs.RangeLaws.{within_size, within_out}
use Rattle.integers.specs.Quotient.{Natural}

false_true : {A : Type 0} → ◌≡◌ {A = Bool} false true → A
false_true e = let z : ◌≡◌ {A = ℕ} 0 1 = cc in absurd (omega arith)

quot_size : (a b : ℤ) → up (quot_z a b) + dn (quot_z a b) ≤ up a + dn a
quot_size (pos a) (pos b) = omega (arith, div-le_self a b)
quot_size (pos a) (negsuc b) = omega (arith, div-le_self a (suc b), up_neg (pos (a / suc b)), dn_neg (pos (a / suc b)))
quot_size (negsuc a) (pos b) = omega (arith, div-le_self (suc a) b, up_neg (pos (suc a / b)), dn_neg (pos (suc a / b)))
quot_size (negsuc a) (negsuc b) = omega (arith, div-le_self (suc a) (suc b))

pub within_quot : {k : ℕ} {a : ℤ} (b : ℤ) → Within k a → Within k (quot_z a b)
within_quot {k} {a} b w = within_out k (quot_z a b) (omega (arith, quot_size a b, within_size w))

-- the bits of a number that is not 0 are not 0
pub bits_some : (z : ℤ) → SFits w64 z → (z ≡ pos 0 → ⊥) → 0 < of_z w64 z
bits_some (pos zero) h n = absurd (n refl)
bits_some (pos (suc m)) h n = omega ints
bits_some (negsuc m) h n = omega (arith, h.sfits)

-- minus one less a number
pub below_zero : (n : ℕ) → negsuc 0 -ℤ negsuc n ≡ pos n
below_zero n = eq_out (negsuc 0 -ℤ negsuc n) (pos n) (omega (arith, sub_parts (negsuc 0) (negsuc n)))

zero_minus : (z : ℤ) → pos 0 -ℤ z ≡ neg_ℤ z
zero_minus z = eq_out (pos 0 -ℤ z) (neg_ℤ z) (omega (arith, sub_parts (pos 0) z, up_neg z, dn_neg z))

-- a range from minus n to n, as the machine makes it
pub near_by : (n : ℕ) (z : ℤ) {t : Bool} → t ≡ contains (record { low = pos 0 -ℤ pos n; high = pos n }) z → t ≡ near n z
near_by n z h = h ∙ ap (λ (l : ℤ). contains (record { low = l; high = pos n }) z) (zero_minus (pos n))

pub distance_natural : (z : ℤ) → SFits w64 z → lt_z z (pos 0) ≡ true → Natural (negsuc 0 -ℤ z)
distance_natural (pos n) f e = absurd (omega (arith, lt_z_true (pos n) (pos 0) e))
distance_natural (negsuc n) f e = subst Natural (sym (below_zero n)) (record { fits = record { sfits = f.sfits }; natural = tt; small = f.sfits })

pub number_natural : (z : ℤ) → SFits w64 z → lt_z z (pos 0) ≡ false → Natural z
number_natural (pos n) f e = record { fits = f; natural = tt; small = f.sfits }
number_natural (negsuc n) f e = false_true (sym e)

-- a test against both bounds, as the machine makes it
pub tested_within : (n : ℕ) (z : ℤ) → n < 2 ^ 32 → lt_z z (pos 0 -ℤ pos n) ≡ false → lt_z (pos n) z ≡ false → Within n z
tested_within n z h l u =
    within_out n z (go z (lt_z_false z (pos 0 -ℤ pos n) l) (lt_z_false (pos n) z u))
  where
    d : up (pos 0 -ℤ pos n) + (0 + n) ≡ dn (pos 0 -ℤ pos n) + (0 + 0)
    d = sub_parts (pos 0) (pos n)

    go : (y : ℤ) → up (pos 0 -ℤ pos n) + dn y ≤ up y + dn (pos 0 -ℤ pos n) → up y + 0 ≤ n + dn y → up y + dn y ≤ n
    go (pos k) a b = omega arith
    go (negsuc k) a b = omega (arith, low_side (pos 0 -ℤ pos n) d)
      where
        low_side : (v : ℤ) → up v + (0 + n) ≡ dn v + (0 + 0) → dn v ≤ n
        low_side (pos m) e = omega arith
        low_side (negsuc m) e = omega arith

pub minus_number_fits : (n : ℕ) → n < 2 ^ 32 → SFits w64 (pos 0 -ℤ pos n)
minus_number_fits n h = fits_small (pos 0 -ℤ pos n) (omega (arith, sub_size (pos 0) (pos n)))
