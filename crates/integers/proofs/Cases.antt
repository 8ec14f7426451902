-- The ends of the inverse by cases, as `division.rt` computes them: the factor f positive or negative, the dividend n = c - b or d - b negative or not.
-- `quot_z` is signed division, rounded toward zero.
use Rattle.std.specs.Prelude.{◌≡◌, refl, ℕ, zero, suc, ◌+◌, ◌/◌, ℤ, pos, negsuc, neg_ℤ, ◌+ℤ◌, ◌-ℤ◌, ◌≤ℤ◌, ◌<ℤ◌}
use Rattle.std.proofs.Common.{sym, ◌∙◌, ap, subst, arith, zero-lt-suc}
use Rattle.std.proofs.Math.Nat.{add-div_right, div-eq_of_lt, zero-div}
use Rattle.std.specs.Int.Signed.{quot_z}
use Rattle.integers.proofs.Order.{ints, eq_out, neg_neg, add_parts, sub_parts}
use Rattle.integers.specs.Division.{floor_by, floor, ceiling}
use Rattle.integers.specs.Inverse.{Least, Greatest, LowerEnd, UpperEnd, carried}
use Rattle.integers.proofs.Inverse.{least_pos, greatest_pos, least_neg, greatest_neg}

-- A quotient away from zero: one less than the divisor is added first.
away : (n m : ℕ) → suc (n + m) / suc m ≡ suc (n / suc m)
away n m =
    let e : suc (n + m) ≡ n + suc m = omega arith in
    let q = add-div_right n {k = suc m} (zero-lt-suc m) in
    rw e (omega arith)

away_down : (n m : ℕ) → neg_ℤ (pos (suc (n + m) / suc m)) ≡ floor_by (negsuc n) (suc m)
unfolding floor_by
away_down n m = ap (λ k. neg_ℤ (pos k)) (away n m)

away_from : (n m : ℕ) → neg_ℤ (pos ((n + m) / suc m)) ≡ floor_by (neg_ℤ (pos n)) (suc m)
unfolding floor_by
away_from zero m = let e : (zero + m) / suc m ≡ zero = div-eq_of_lt {n = zero + m} {m = suc m} (omega arith) in rw (e, zero-div (suc m)) refl
away_from (suc n) m = let e : suc n + m ≡ suc (n + m) = omega arith in rw e (away_down n m)

-- The quotients rounded up.
up_pos_nonneg : (n f : ℤ) → pos 0 <ℤ f → pos 0 ≤ℤ n → quot_z (n +ℤ f -ℤ pos 1) f ≡ ceiling n f
unfolding ceiling floor
up_pos_nonneg (pos n) (pos zero) h k = absurd h.lt
up_pos_nonneg (pos n) (pos (suc m)) h k =
    let e = eq_out (pos n +ℤ pos (suc m) -ℤ pos 1) (pos (n + m)) (omega (arith, sub_parts (pos n +ℤ pos (suc m)) (pos 1), add_parts (pos n) (pos (suc m)))) in
    rw e (sym (neg_neg (pos ((n + m) / suc m))) ∙ ap neg_ℤ (away_from n m))
up_pos_nonneg (pos n) (negsuc m) h k = absurd h.lt
up_pos_nonneg (negsuc n) f h k = absurd k.le

up_pos_neg : (n f : ℤ) → pos 0 <ℤ f → n <ℤ pos 0 → quot_z n f ≡ ceiling n f
unfolding ceiling floor floor_by
up_pos_neg (pos n) f h k = absurd (omega ints)
up_pos_neg (negsuc n) (pos m) h k = refl
up_pos_neg (negsuc n) (negsuc m) h k = absurd h.lt

up_neg_nonneg : (n f : ℤ) → f <ℤ pos 0 → pos 0 ≤ℤ n → quot_z n f ≡ ceiling n f
unfolding ceiling floor floor_by
up_neg_nonneg (pos n) (pos m) h k = absurd (omega ints)
up_neg_nonneg (pos n) (negsuc m) h k = rw (neg_neg (pos n)) refl
up_neg_nonneg (negsuc n) f h k = absurd k.le

up_neg_neg : (n f : ℤ) → f <ℤ pos 0 → n <ℤ pos 0 → quot_z (n +ℤ f +ℤ pos 1) f ≡ ceiling n f
unfolding ceiling floor
up_neg_neg (pos n) f h k = absurd (omega ints)
up_neg_neg (negsuc n) (pos m) h k = absurd (omega ints)
up_neg_neg (negsuc n) (negsuc m) h k =
    let e = eq_out (negsuc n +ℤ negsuc m +ℤ pos 1) (negsuc (n + m)) (omega (arith, add_parts (negsuc n +ℤ negsuc m) (pos 1))) in
    rw e (sym (neg_neg (pos (suc (n + m) / suc m))) ∙ ap neg_ℤ (away_down n m))

-- The quotients rounded down.
down_pos_nonneg : (n f : ℤ) → pos 0 <ℤ f → pos 0 ≤ℤ n → quot_z n f ≡ floor n f
unfolding floor floor_by
down_pos_nonneg (pos n) (pos m) h k = refl
down_pos_nonneg (pos n) (negsuc m) h k = absurd h.lt
down_pos_nonneg (negsuc n) f h k = absurd k.le

down_pos_neg : (n f : ℤ) → pos 0 <ℤ f → n <ℤ pos 0 → quot_z (n -ℤ f +ℤ pos 1) f ≡ floor n f
unfolding floor
down_pos_neg (pos n) f h k = absurd (omega ints)
down_pos_neg (negsuc n) (pos zero) h k = absurd h.lt
down_pos_neg (negsuc n) (pos (suc m)) h k =
    let e = eq_out (negsuc n -ℤ pos (suc m) +ℤ pos 1) (negsuc (n + m)) (omega (arith, add_parts (negsuc n -ℤ pos (suc m)) (pos 1))) in
    rw e (away_down n m)
down_pos_neg (negsuc n) (negsuc m) h k = absurd h.lt

down_neg_nonneg : (n f : ℤ) → f <ℤ pos 0 → pos 0 ≤ℤ n → quot_z (n -ℤ f -ℤ pos 1) f ≡ floor n f
unfolding floor
down_neg_nonneg (pos n) (pos m) h k = absurd (omega ints)
down_neg_nonneg (pos n) (negsuc m) h k =
    let e = eq_out (pos n -ℤ negsuc m -ℤ pos 1) (pos (n + m)) (omega (arith, sub_parts (pos n -ℤ negsuc m) (pos 1))) in
    rw e (away_from n m)
down_neg_nonneg (negsuc n) f h k = absurd k.le

down_neg_neg : (n f : ℤ) → f <ℤ pos 0 → n <ℤ pos 0 → quot_z n f ≡ floor n f
unfolding floor floor_by
down_neg_neg (pos n) f h k = absurd (omega ints)
down_neg_neg (negsuc n) (pos m) h k = absurd (omega ints)
down_neg_neg (negsuc n) (negsuc m) h k = refl

-- The lower end: in each case the least whole number that meets its side of c ≤ f * x + b ≤ d.
module _ (f b : ℤ) where
  pub low_pos_nonneg : (c : ℤ) → pos 0 <ℤ f → pos 0 ≤ℤ (c -ℤ b) → Least (λ x. c ≤ℤ carried f b x) (quot_z (c -ℤ b +ℤ f -ℤ pos 1) f)
  low_pos_nonneg c h k = subst (Least (λ x. c ≤ℤ carried f b x)) (sym (up_pos_nonneg (c -ℤ b) f h k)) (least_pos f b c h)

  pub low_pos_neg : (c : ℤ) → pos 0 <ℤ f → (c -ℤ b) <ℤ pos 0 → Least (λ x. c ≤ℤ carried f b x) (quot_z (c -ℤ b) f)
  low_pos_neg c h k = subst (Least (λ x. c ≤ℤ carried f b x)) (sym (up_pos_neg (c -ℤ b) f h k)) (least_pos f b c h)

  pub low_neg_nonneg : (d : ℤ) → f <ℤ pos 0 → pos 0 ≤ℤ (d -ℤ b) → Least (λ x. carried f b x ≤ℤ d) (quot_z (d -ℤ b) f)
  low_neg_nonneg d h k = subst (Least (λ x. carried f b x ≤ℤ d)) (sym (up_neg_nonneg (d -ℤ b) f h k)) (least_neg f b d h)

  pub low_neg_neg : (d : ℤ) → f <ℤ pos 0 → (d -ℤ b) <ℤ pos 0 → Least (λ x. carried f b x ≤ℤ d) (quot_z (d -ℤ b +ℤ f +ℤ pos 1) f)
  low_neg_neg d h k = subst (Least (λ x. carried f b x ≤ℤ d)) (sym (up_neg_neg (d -ℤ b) f h k)) (least_neg f b d h)

-- and so it is the lower end
pub lower_pos : {f b c d l : ℤ} → pos 0 <ℤ f → Least (λ x. c ≤ℤ carried f b x) l → LowerEnd f b c d l
lower_pos h p = record { positive = λ t. p; negative = λ t. absurd (omega ints) }

pub lower_neg : {f b c d l : ℤ} → f <ℤ pos 0 → Least (λ x. carried f b x ≤ℤ d) l → LowerEnd f b c d l
lower_neg h p = record { positive = λ t. absurd (omega ints); negative = λ t. p }

-- The upper end: in each case the greatest whole number that meets the other side.
module _ (f b : ℤ) where
  pub high_pos_nonneg : (d : ℤ) → pos 0 <ℤ f → pos 0 ≤ℤ (d -ℤ b) → Greatest (λ x. carried f b x ≤ℤ d) (quot_z (d -ℤ b) f)
  high_pos_nonneg d h k = subst (Greatest (λ x. carried f b x ≤ℤ d)) (sym (down_pos_nonneg (d -ℤ b) f h k)) (greatest_pos f b d h)

  pub high_pos_neg : (d : ℤ) → pos 0 <ℤ f → (d -ℤ b) <ℤ pos 0 → Greatest (λ x. carried f b x ≤ℤ d) (quot_z (d -ℤ b -ℤ f +ℤ pos 1) f)
  high_pos_neg d h k = subst (Greatest (λ x. carried f b x ≤ℤ d)) (sym (down_pos_neg (d -ℤ b) f h k)) (greatest_pos f b d h)

  pub high_neg_nonneg : (c : ℤ) → f <ℤ pos 0 → pos 0 ≤ℤ (c -ℤ b) → Greatest (λ x. c ≤ℤ carried f b x) (quot_z (c -ℤ b -ℤ f -ℤ pos 1) f)
  high_neg_nonneg c h k = subst (Greatest (λ x. c ≤ℤ carried f b x)) (sym (down_neg_nonneg (c -ℤ b) f h k)) (greatest_neg f b c h)

  pub high_neg_neg : (c : ℤ) → f <ℤ pos 0 → (c -ℤ b) <ℤ pos 0 → Greatest (λ x. c ≤ℤ carried f b x) (quot_z (c -ℤ b) f)
  high_neg_neg c h k = subst (Greatest (λ x. c ≤ℤ carried f b x)) (sym (down_neg_neg (c -ℤ b) f h k)) (greatest_neg f b c h)

-- and so it is the upper end
pub upper_pos : {f b c d h : ℤ} → pos 0 <ℤ f → Greatest (λ x. carried f b x ≤ℤ d) h → UpperEnd f b c d h
upper_pos k p = record { positive = λ t. p; negative = λ t. absurd (omega ints) }

pub upper_neg : {f b c d h : ℤ} → f <ℤ pos 0 → Greatest (λ x. c ≤ℤ carried f b x) h → UpperEnd f b c d h
upper_neg k p = record { positive = λ t. absurd (omega ints); negative = λ t. p }
