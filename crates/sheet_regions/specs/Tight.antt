-- Bounds for the counting of refusal 8: no cut leaves them, and within them nothing overflows.
use Rattle.std.specs.Prelude.{◌≡◌, refl, Bool, true, false, cond, ℕ, zero, suc, ◌+◌, ◌*◌, ◌≤◌, ℤ, pos, negsuc, ◌-ℤ◌}
use Rattle.std.proofs.Common.{sym, ap, ◌∙◌, ⊎_elim, arith, mul-le-mul, mul_assoc, mul-one}
use Rattle.std.specs.Int.Signed.{le_z}
use Rattle.integers.specs.Order.{up, dn}
use Rattle.integers.proofs.Order.{le_z_true, le_z_false, sub_size}
use Rattle.integers.specs.declared.Range.{Range}
use Rattle.integers.specs.Range.{contains, meet, larger, smaller, size, vacant, Within, RangeWithin}
use Rattle.integers.proofs.RangeLaws.{size_some, size_none, vacant_not, contains_le, within_out, within_size}
use Rattle.integers.specs.Division.{floor, ceiling}
use Rattle.integers.proofs.Division.{floor_size, ceiling_size}
use Rattle.integers.specs.Inverse.{inverse}
use Rattle.systems.proofs.Laws.{told, true_is}
use Rattle.model.specs.declared.Rule.{Rule}
use Rattle.model.specs.declared.Rule.TheVariants.{Set, Carry}
use Rattle.model.specs.Sheet.{RuleFits, carry_fits}
use Rattle.model.specs.Blocks.{empty, volume}
use Rattle.sheet_bytes.specs.declared.Ranges.{Ranges}
use Rattle.sheet_bytes.specs.declared.Rules.{Rules}
use Rattle.sheet_bytes.specs.Bounds.{RangesWithin, RulesFit}
use Rattle.sheet_bytes.specs.Cuts.{all_three, narrow_three, empty_three, cut_three, cuts_three}

-- a range that starts no lower than -1,000,000 and ends no higher than 1,000,000
pub record Tight (r : Range) : Type 0 where
  pub low_dn : dn r.low ≤ 1000000
  pub low_up : up r.low ≤ 300000000
  pub high_up : up r.high ≤ 1000000
  pub high_dn : dn r.high ≤ 300000000

pub record TightThree (b : Ranges) : Type 0 where
  pub first_tight : Tight b.first
  pub second_tight : Tight b.second
  pub third_tight : Tight b.third

pub tight_within : {r : Range} → RangeWithin 1000000 r → Tight r
tight_within w =
    let l = within_size w.low_within in
    let h = within_size w.high_within in
    record { low_dn = omega arith; low_up = omega arith; high_up = omega arith; high_dn = omega arith }

pub tight_three : {b : Ranges} → RangesWithin 1000000 b → TightThree b
tight_three w =
    record { first_tight = tight_within w.first_within; second_tight = tight_within w.second_within; third_tight = tight_within w.third_within }

-- a tight range can be counted, and holds at most 2,000,001 numbers
pub tight_countable : {r : Range} → Tight r → RangeWithin 1000000000 r
tight_countable {r} t =
    record { low_within = within_out 1000000000 r.low (omega arith); high_within = within_out 1000000000 r.high (omega arith) }

pub size_tight : {r : Range} → Tight r → size r ≤ 2000001
size_tight {r} t =
    ⊎_elim
    (λ e. omega (arith, size_none r (true_is (vacant r) e)))
    (λ e. let (a, b) = (contains_le r r.low).0 (vacant_not r e) in omega (arith, size_some r b))
    (told (vacant r))

dn_mono : (a b : ℤ) → up a + dn b ≤ up b + dn a → dn b ≤ dn a
dn_mono a (pos n) h = omega arith
dn_mono a (negsuc n) h = omega arith

up_mono : (a b : ℤ) → up a + dn b ≤ up b + dn a → up a ≤ up b
up_mono (pos n) b h = omega arith
up_mono (negsuc n) b h = omega arith

-- the bounds survive a cut by a range that is not too far away
tight_meet : (r q : Range) → Tight r → RangeWithin 300000000 q → Tight (meet r q)
unfolding meet larger smaller
tight_meet r q t w =
    let l = lows (le_z r.low q.low) refl in
    let h = highs (le_z r.high q.high) refl in
    record { low_dn = l.0; low_up = l.1; high_up = h.0; high_dn = h.1 }
  where
    lows : (b : Bool) → le_z r.low q.low ≡ b → (dn (cond b q.low r.low) ≤ 1000000) × (up (cond b q.low r.low) ≤ 300000000)
    lows true e = (omega (arith, dn_mono r.low q.low (le_z_true r.low q.low e), t.low_dn), omega (arith, within_size w.low_within))
    lows false e = (t.low_dn, t.low_up)

    highs : (b : Bool) → le_z r.high q.high ≡ b → (up (cond b r.high q.high) ≤ 1000000) × (dn (cond b r.high q.high) ≤ 300000000)
    highs true e = (t.high_up, t.high_dn)
    highs false e = (
      omega (arith, up_mono q.high r.high (omega (arith, le_z_false r.high q.high e)), t.high_up),
      omega (arith, within_size w.high_within),
    )

inverse_within : (f o : ℤ) (w : Range) → Within 200000000 o → RangeWithin 1000000 w → RangeWithin 300000000 (inverse f o w)
unfolding inverse
inverse_within (pos m) o w b r = ends
  where
    ends : RangeWithin 300000000 (record { low = ceiling (w.low -ℤ o) (pos m); high = floor (w.high -ℤ o) (pos m) })
    ends =
        record {
          low_within = within_out 300000000 (ceiling (w.low -ℤ o) (pos m)) (omega (arith, ceiling_size (w.low -ℤ o) (pos m), sub_size w.low o, within_size b, within_size r.low_within));
          high_within = within_out 300000000 (floor (w.high -ℤ o) (pos m)) (omega (arith, floor_size (w.high -ℤ o) (pos m), sub_size w.high o, within_size b, within_size r.high_within));
        }
inverse_within (negsuc m) o w b r =
    record {
      low_within = within_out 300000000 (ceiling (w.high -ℤ o) (negsuc m)) (omega (arith, ceiling_size (w.high -ℤ o) (negsuc m), sub_size w.high o, within_size b, within_size r.high_within));
      high_within = within_out 300000000 (floor (w.low -ℤ o) (negsuc m)) (omega (arith, floor_size (w.low -ℤ o) (negsuc m), sub_size w.low o, within_size b, within_size r.low_within));
    }

tight_narrow : (k : ℕ) (q : Range) (b : Ranges) → TightThree b → RangeWithin 300000000 q → TightThree (narrow_three k q b)
unfolding narrow_three
tight_narrow zero q b t w = record { first_tight = tight_meet b.first q t.first_tight w; second_tight = t.second_tight; third_tight = t.third_tight }
tight_narrow (suc zero) q b t w =
    record { first_tight = t.first_tight; second_tight = tight_meet b.second q t.second_tight w; third_tight = t.third_tight }
tight_narrow (suc (suc k)) q b t w =
    record { first_tight = t.first_tight; second_tight = t.second_tight; third_tight = tight_meet b.third q t.third_tight w }

tight_empty : Tight empty
tight_empty = record { low_dn = omega arith; low_up = omega arith; high_up = omega arith; high_dn = omega arith }

pub tight_cut : {n : ℕ} (rule : Rule) (w : Range) (b : Ranges) → TightThree b → RuleFits n rule → RangeWithin 1000000 w → TightThree (cut_three rule w b)
unfolding cut_three
tight_cut (Set offset) w b t f r = go (contains w offset)
  where
    go : (k : Bool) → TightThree (cond k b empty_three)
    go true = t
    go false = record { first_tight = tight_empty; second_tight = tight_empty; third_tight = tight_empty }
tight_cut (Carry source factor offset) w b t (carry_fits l n p q) r =
    tight_narrow source (inverse factor offset w) b t (inverse_within factor offset w q r)

pub tight_cuts : (r : Rules) (w b : Ranges) → TightThree b → RulesFit r → RangesWithin 1000000 w → TightThree (cuts_three r w b)
unfolding cuts_three
tight_cuts r w b t f k =
    tight_cut r.third w.third (cut_three r.second w.second (cut_three r.first w.first b))
    (tight_cut r.second w.second (cut_three r.first w.first b) (tight_cut r.first w.first b t f.first_fits k.first_within) f.second_fits k.second_within)
    f.third_fits k.third_within

-- the three sizes, and their product as the code forms it
pub volume_parts : (b : Ranges) (x y z : ℕ) → x ≡ size b.first → y ≡ size b.second → z ≡ size b.third → x * y * z ≡ volume (all_three b)
unfolding volume
volume_parts b x y z e f g =
    let h : x * y * z ≡ size b.first * size b.second * size b.third = cc in
    h ∙ mul_assoc (size b.first) (size b.second) (size b.third) ∙ ap (λ (k : ℕ). size b.first * (size b.second * k)) (sym (mul-one (size b.third)))

pub two_sizes : {b : Ranges} (x y : ℕ) → TightThree b → x ≡ size b.first → y ≡ size b.second → x * y ≤ 4000004000001
two_sizes {b} x y t e f = mul-le-mul {n₁ = x} {m₁ = y} {n₂ = 2000001} {m₂ = 2000001} (omega (arith, size_tight t.first_tight)) (omega (arith, size_tight t.second_tight))

pub three_sizes : {b : Ranges} (x y z : ℕ) → TightThree b → x ≡ size b.first → y ≡ size b.second → z ≡ size b.third → x * y * z ≤ 8000012000006000001
three_sizes {b} x y z t e f g =
    mul-le-mul {n₁ = x * y} {m₁ = z} {n₂ = 4000004000001} {m₂ = 2000001} (two_sizes x y t e f) (omega (arith, size_tight t.third_tight))
