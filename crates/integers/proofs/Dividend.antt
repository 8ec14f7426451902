-- What the ends of an inverse compute on the way from a dividend, and how they read it: the machine's side of the cases.
use Rattle.std.specs.Prelude.{◌≡◌, true, false, ℤ, pos, ◌+ℤ◌, ◌-ℤ◌, ◌≤ℤ◌, ◌<ℤ◌}
use Rattle.std.proofs.Common.{sym, ◌∙◌, lit≤, SFits}
use Rattle.std.specs.Int.Signed.{le_z, lt_z, quot_z}
use Rattle.std.specs.Int.{w64}
use Rattle.std.proofs.lemmas.Int.{to_z-of_z}
use Rattle.integers.proofs.Order.{ints}
use Rattle.integers.specs.Range.{Within}
use Rattle.integers.proofs.RangeLaws.{within_wider, within_add, within_sub}
use Rattle.integers.specs.Machine.{back64}
use Rattle.integers.proofs.Machine.{within_fits, within_read, within_back}
use Rattle.integers.proofs.Quotient.{within_quot}
use Rattle.integers.proofs.Inverse.{by_sign}

-- Everything fits: the dividend, the dividend moved by one small number and by another, and the quotient.
module _ {y b : ℤ} (wy : Within 1000000000 y) (wb : Within 1000000000 b) where
  dividend_within : Within 2000000000 (back64 y -ℤ back64 b)
  dividend_within = within_sub (within_back (lit≤ tt) wy) (within_back (lit≤ tt) wb)

  moved_within : (x : ℤ) → Within 100 x → Within 2000000100 (back64 (back64 y -ℤ back64 b) +ℤ x)
  moved_within x w = within_add (within_back (lit≤ tt) dividend_within) w

  twice_within : (x z : ℤ) → Within 100 x → Within 100 z → Within 2000000200 (back64 (back64 (back64 y -ℤ back64 b) +ℤ x) +ℤ z)
  twice_within x z w v = within_add (within_back (lit≤ tt) (moved_within x w)) v

  pub dividend_fits : SFits w64 (back64 y -ℤ back64 b)
  dividend_fits = within_fits dividend_within (lit≤ tt)

  pub moved_fits : (x : ℤ) → Within 100 x → SFits w64 (back64 (back64 y -ℤ back64 b) +ℤ x)
  moved_fits x w = within_fits (moved_within x w) (lit≤ tt)

  pub twice_fits : (x z : ℤ) → Within 100 x → Within 100 z → SFits w64 (back64 (back64 (back64 y -ℤ back64 b) +ℤ x) +ℤ z)
  twice_fits x z w v = within_fits (twice_within x z w v) (lit≤ tt)

  pub quotient_fits : (f : ℤ) → SFits w64 (quot_z (back64 (back64 y -ℤ back64 b)) f)
  quotient_fits f = within_fits (within_quot f (within_back (lit≤ tt) dividend_within)) (lit≤ tt)

  pub moved_quotient_fits : (x z f : ℤ) → Within 100 x → Within 100 z → SFits w64 (quot_z (back64 (back64 (back64 (back64 y -ℤ back64 b) +ℤ x) +ℤ z)) f)
  moved_quotient_fits x z f w v = within_fits (within_quot f (within_back (lit≤ tt) (twice_within x z w v))) (lit≤ tt)

  -- and what is read back is what was meant
  dividend_read : back64 (back64 y -ℤ back64 b) ≡ y -ℤ b
  dividend_read = rw (within_read (lit≤ tt) wy, within_read (lit≤ tt) wb) (within_read (lit≤ tt) (within_sub wy wb))

  pub quotient_read : {f : ℤ} → Within 100 f → back64 (quot_z (back64 (back64 y -ℤ back64 b)) (back64 f)) ≡ quot_z (y -ℤ b) f
  quotient_read {f} wf = rw (dividend_read, within_read (lit≤ tt) wf) (within_read (lit≤ tt) (within_quot f (within_sub wy wb)))

  pub moved_read : {f : ℤ} (s : ℤ → ℤ) (z : ℤ) → Within 100 f → Within 100 (s f) → Within 100 z
      → back64 (quot_z (back64 (back64 (back64 (back64 y -ℤ back64 b) +ℤ s (back64 f)) +ℤ z)) (back64 f)) ≡ quot_z (y -ℤ b +ℤ s f +ℤ z) f
  moved_read {f} s z wf ws wz =
      let once = within_add (within_sub wy wb) ws in
      let twice = within_add once wz in
      rw
      (dividend_read, within_read (lit≤ tt) wf, within_read (lit≤ tt) once, within_read (lit≤ tt) twice)
      (within_read (lit≤ tt) (within_quot f twice))

  -- the sign of the dividend, by the machine's test
  pub tested_nonneg : le_z (pos 0) (back64 (back64 y -ℤ back64 b)) ≡ true → pos 0 ≤ℤ (y -ℤ b)
  tested_nonneg t = let e = rw dividend_read at t in omega ints

  pub tested_below : le_z (pos 0) (back64 (back64 y -ℤ back64 b)) ≡ false → (y -ℤ b) <ℤ pos 0
  tested_below t = let e = rw dividend_read at t in omega ints

-- the sign of a factor
pub tested_pos : {f : ℤ} → SFits w64 f → lt_z (pos 0) (back64 f) ≡ true → pos 0 <ℤ f
tested_pos h t = let e = simp (to_z-of_z w64) at t in omega ints

pub tested_neg : {f : ℤ} → SFits w64 f → (f ≡ pos 0 → ⊥) → lt_z (pos 0) (back64 f) ≡ false → f <ℤ pos 0
tested_neg {f} h n t = let e = simp (to_z-of_z w64) at t in by_sign f n (λ k. absurd (omega ints)) (λ k. k)

-- the wide range of bounds and offsets is within what the ends take, read back from bits
pub wide_asked : {f b c d : ℤ} → (f ≡ pos 0 → ⊥) × Within 100 f → Within 200000000 b → Within 1000000 c → Within 1000000 d
    → ((back64 f ≡ pos 0 → ⊥) × Within 100 (back64 f)) × (Within 1000000000 (back64 b) × (Within 1000000000 c × Within 1000000000 d))
wide_asked {f} (n, wf) wb wc wd =
    let e = within_read {z = f} (lit≤ tt) wf in
    let b = within_back (lit≤ tt) (within_wider 1000000000 (lit≤ tt) wb) in
    ((λ z. n (sym e ∙ z), within_back (lit≤ tt) wf), (b, (within_wider 1000000000 (lit≤ tt) wc, within_wider 1000000000 (lit≤ tt) wd)))
