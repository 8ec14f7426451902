-- The inverse of a carry rule: the old values x whose new value f * x + b lies in a wanted range c..d
-- (document 01: "the whole x with c ≤ f × x + b ≤ d, rounded inward for either sign of f").
use Rattle.std.specs.Prelude.{◌≡◌, refl, ◌↔◌, zero, suc, T, ℤ, pos, negsuc, ◌+ℤ◌, ◌-ℤ◌, ◌*ℤ◌, ◌≤ℤ◌, ◌<ℤ◌}
use Rattle.std.proofs.Common.{subst, arith}
use Rattle.std.specs.Int.Signed.{≤ℤ_refl}
use Rattle.integers.specs.declared.Range.{Range}
use Rattle.integers.proofs.Order.{ints, le_in, le_out, add_parts, sub_parts}
use Rattle.integers.specs.Range.{contains}
use Rattle.integers.proofs.RangeLaws.{contains_le}
use Rattle.integers.specs.Division.{floor, ceiling}
use Rattle.integers.proofs.Division.{floor_pos, floor_neg, ceiling_pos, ceiling_neg}
use Rattle.integers.specs.Inverse.{carried, inverse, Least, Greatest, LowerEnd, UpperEnd}

-- there is one least number, and one greatest
pub least_one : {P : ℤ → Type 0} {y z : ℤ} → Least P y → Least P z → y ≡ z
least_one {P} {y} {z} p q = let a = p.first z q.has in let b = q.first y p.has in omega ints

pub greatest_one : {P : ℤ → Type 0} {y z : ℤ} → Greatest P y → Greatest P z → y ≡ z
greatest_one {P} {y} {z} p q = let a = p.last z q.has in let b = q.last y p.has in omega ints

-- a bound that tells P from the rest is the least, or the greatest; and so does every least, or greatest, number where there is such a bound
least_bound : {P : ℤ → Type 0} (z : ℤ) → ((x : ℤ) → (z ≤ℤ x) ↔ P x) → Least P z
least_bound z e = record { has = (e z).0 (≤ℤ_refl z); first = λ x k. (e x).1 k }

greatest_bound : {P : ℤ → Type 0} (z : ℤ) → ((x : ℤ) → (x ≤ℤ z) ↔ P x) → Greatest P z
greatest_bound z e = record { has = (e z).0 (≤ℤ_refl z); last = λ x k. (e x).1 k }

least_tells : {P : ℤ → Type 0} (y z : ℤ) → ((x : ℤ) → (z ≤ℤ x) ↔ P x) → Least P y → (x : ℤ) → (y ≤ℤ x) ↔ P x
least_tells {P} y z e p x = subst (λ u. (u ≤ℤ x) ↔ P x) (least_one (least_bound z e) p) (e x)

greatest_tells : {P : ℤ → Type 0} (y z : ℤ) → ((x : ℤ) → (x ≤ℤ z) ↔ P x) → Greatest P y → (x : ℤ) → (x ≤ℤ y) ↔ P x
greatest_tells {P} y z e p x = subst (λ u. (x ≤ℤ u) ↔ P x) (greatest_one (greatest_bound z e) p) (e x)

-- a factor is positive or negative
pub by_sign : {A : Type 0} (f : ℤ) → (f ≡ pos 0 → ⊥) → (pos 0 <ℤ f → A) → (f <ℤ pos 0 → A) → A
by_sign (pos zero) n p q = absurd (n refl)
by_sign (pos (suc m)) n p q = p (omega ints)
by_sign (negsuc m) n p q = q (omega ints)

-- the offset moves over an order
move_low : (c y b : ℤ) → ((c -ℤ b) ≤ℤ y) ↔ (c ≤ℤ (y +ℤ b))
move_low c y b = omega (le_in, le_out, arith, sub_parts c b, add_parts y b)

move_high : (d y b : ℤ) → (y ≤ℤ (d -ℤ b)) ↔ ((y +ℤ b) ≤ℤ d)
move_high d y b = omega (le_in, le_out, arith, sub_parts d b, add_parts y b)

-- Which rounded quotient bounds x, from below or from above, as which side does.
module _ (f b : ℤ) where
  lower_side_pos : (c x : ℤ) → pos 0 <ℤ f → (ceiling (c -ℤ b) f ≤ℤ x) ↔ (c ≤ℤ carried f b x)
  lower_side_pos c x h =
      let e = ceiling_pos (c -ℤ b) f x h in
      let t = move_low c (f *ℤ x) b in
      (λ k. t.0 (e.0 k), λ k. e.1 (t.1 k))

  upper_side_pos : (d x : ℤ) → pos 0 <ℤ f → (x ≤ℤ floor (d -ℤ b) f) ↔ (carried f b x ≤ℤ d)
  upper_side_pos d x h =
      let e = floor_pos (d -ℤ b) f x h in
      let t = move_high d (f *ℤ x) b in
      (λ k. t.0 (e.0 k), λ k. e.1 (t.1 k))

  lower_side_neg : (d x : ℤ) → f <ℤ pos 0 → (ceiling (d -ℤ b) f ≤ℤ x) ↔ (carried f b x ≤ℤ d)
  lower_side_neg d x h =
      let e = ceiling_neg (d -ℤ b) f x h in
      let t = move_high d (f *ℤ x) b in
      (λ k. t.0 (e.0 k), λ k. e.1 (t.1 k))

  upper_side_neg : (c x : ℤ) → f <ℤ pos 0 → (x ≤ℤ floor (c -ℤ b) f) ↔ (c ≤ℤ carried f b x)
  upper_side_neg c x h =
      let e = floor_neg (c -ℤ b) f x h in
      let t = move_low c (f *ℤ x) b in
      (λ k. t.0 (e.0 k), λ k. e.1 (t.1 k))

  -- so it is the least, or the greatest, that meets that side
  pub least_pos : (c : ℤ) → pos 0 <ℤ f → Least (λ x. c ≤ℤ carried f b x) (ceiling (c -ℤ b) f)
  least_pos c h = least_bound (ceiling (c -ℤ b) f) (λ x. lower_side_pos c x h)

  pub greatest_pos : (d : ℤ) → pos 0 <ℤ f → Greatest (λ x. carried f b x ≤ℤ d) (floor (d -ℤ b) f)
  greatest_pos d h = greatest_bound (floor (d -ℤ b) f) (λ x. upper_side_pos d x h)

  pub least_neg : (d : ℤ) → f <ℤ pos 0 → Least (λ x. carried f b x ≤ℤ d) (ceiling (d -ℤ b) f)
  least_neg d h = least_bound (ceiling (d -ℤ b) f) (λ x. lower_side_neg d x h)

  pub greatest_neg : (c : ℤ) → f <ℤ pos 0 → Greatest (λ x. c ≤ℤ carried f b x) (floor (c -ℤ b) f)
  greatest_neg c h = greatest_bound (floor (c -ℤ b) f) (λ x. upper_side_neg c x h)

-- the ends of the inverse are such numbers
pub inverse_lower : (f b : ℤ) (r : Range) → LowerEnd f b r.low r.high (inverse f b r).low
unfolding inverse
inverse_lower (pos m) b r = record { positive = λ h. least_pos (pos m) b r.low h; negative = λ h. absurd (omega ints) }
inverse_lower (negsuc m) b r = record { positive = λ h. absurd h.lt; negative = λ h. least_neg (negsuc m) b r.high h }

pub inverse_upper : (f b : ℤ) (r : Range) → UpperEnd f b r.low r.high (inverse f b r).high
unfolding inverse
inverse_upper (pos m) b r = record { positive = λ h. greatest_pos (pos m) b r.high h; negative = λ h. absurd (omega ints) }
inverse_upper (negsuc m) b r = record { positive = λ h. absurd h.lt; negative = λ h. greatest_neg (negsuc m) b r.low h }

-- Both ends together, however they were found: x lies between them just when c ≤ f * x + b ≤ d.
pub ends_exact : (f b c d l h : ℤ) → (f ≡ pos 0 → ⊥) → LowerEnd f b c d l → UpperEnd f b c d h → (x : ℤ)
    → ((l ≤ℤ x) × (x ≤ℤ h)) ↔ ((c ≤ℤ carried f b x) × (carried f b x ≤ℤ d))
ends_exact f b c d l h n lower upper x =
    by_sign f n
    (λ k.
    let p = least_tells l (ceiling (c -ℤ b) f) (λ y. lower_side_pos f b c y k) (lower.positive k) x in
    let q = greatest_tells h (floor (d -ℤ b) f) (λ y. upper_side_pos f b d y k) (upper.positive k) x in
    (λ t. (p.0 t.0, q.0 t.1), λ t. (p.1 t.0, q.1 t.1)))
    (λ k.
    let p = least_tells l (ceiling (d -ℤ b) f) (λ y. lower_side_neg f b d y k) (lower.negative k) x in
    let q = greatest_tells h (floor (c -ℤ b) f) (λ y. upper_side_neg f b c y k) (upper.negative k) x in
    (λ t. (q.0 t.1, p.0 t.0), λ t. (p.1 t.1, q.1 t.0)))

-- and they are those of the inverse
pub ends_inverse : (f b : ℤ) (r : Range) (l h : ℤ) → (f ≡ pos 0 → ⊥) → LowerEnd f b r.low r.high l → UpperEnd f b r.low r.high h
    → ◌≡◌ {A = Range} (record { low = l; high = h }) (inverse f b r)
ends_inverse f b r l h n lower upper = λ i. record { low = same_low i; high = same_high i }
  where
    same_low : l ≡ (inverse f b r).low
    same_low =
        let z = inverse_lower f b r in
        by_sign f n (λ k. least_one (lower.positive k) (z.positive k)) (λ k. least_one (lower.negative k) (z.negative k))

    same_high : h ≡ (inverse f b r).high
    same_high =
        let z = inverse_upper f b r in
        by_sign f n (λ k. greatest_one (upper.positive k) (z.positive k)) (λ k. greatest_one (upper.negative k) (z.negative k))

-- x is in the inverse just when its new value is in the wanted range, for every whole x and either sign of the factor
pub inverse_exact : (f b : ℤ) (r : Range) (x : ℤ) → (f ≡ pos 0 → ⊥) → T (contains (inverse f b r) x) ↔ T (contains r (carried f b x))
inverse_exact f b r x n =
    let i = inverse f b r in
    let e = ends_exact f b r.low r.high i.low i.high n (inverse_lower f b r) (inverse_upper f b r) x in
    let p = contains_le i x in
    let q = contains_le r (carried f b x) in
    (λ t. q.1 (e.0 (p.0 t)), λ t. p.1 (e.1 (q.0 t)))
