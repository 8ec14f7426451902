-- Division of whole numbers by a factor of either sign, rounded down and rounded up.
use Rattle.std.specs.Prelude.{◌↔◌, ℕ, zero, suc, ◌+◌, ◌*◌, ◌≤◌, ◌<◌, ℤ, pos, negsuc, neg_ℤ, ◌*ℤ◌, ◌≤ℤ◌, ◌<ℤ◌}
use Rattle.std.proofs.Common.{arith, le-div_iff_mul-le, div-lt_iff_lt-mul, div-le_self, zero-lt-suc}
use Rattle.integers.specs.Order.{up, dn}
use Rattle.integers.proofs.Order.{ints, up_neg, dn_neg, mul_up, mul_dn, mul_neg, neg_le, le_neg}
use Rattle.integers.specs.Division.{floor_by, floor, ceiling}

-- the quotient rounded down is at least x just when x times the divisor is at most the dividend
pub floor_by_le : (n : ℤ) (m : ℕ) (x : ℤ) → zero < m → (x ≤ℤ floor_by n m) ↔ ((pos m *ℤ x) ≤ℤ n)
unfolding floor_by
floor_by_le (pos n) m (pos x) h =
    let e = le-div_iff_mul-le {k = m} {x = x} {y = n} h in
    (λ k. let g = e.0 (omega ints) in omega ints, λ k. let g = e.1 (omega ints) in omega ints)
floor_by_le (pos n) m (negsuc x) h = omega (ints, up_neg (pos (m * suc x)), dn_neg (pos (m * suc x)))
floor_by_le (negsuc n) m (pos x) h = omega ints
floor_by_le (negsuc n) m (negsuc x) h =
    let u = up_neg (pos (m * suc x)) in
    let d = dn_neg (pos (m * suc x)) in
    let e = div-lt_iff_lt-mul {k = m} {x = n} {y = suc x} h in
    (λ k. let g = e.0 (omega ints) in omega ints, λ k. let g = e.1 (omega ints) in omega ints)

floor_by_size : (n : ℤ) (m : ℕ) → up (floor_by n m) + dn (floor_by n m) ≤ up n + dn n
unfolding floor_by
floor_by_size (pos n) m = omega (arith, div-le_self n m)
floor_by_size (negsuc n) m = omega (arith, div-le_self n m)

-- the same for a divisor of either sign
pub floor_pos : (n f x : ℤ) → pos 0 <ℤ f → (x ≤ℤ floor n f) ↔ ((f *ℤ x) ≤ℤ n)
unfolding floor
floor_pos n (pos m) x h = floor_by_le n m x (omega ints)
floor_pos n (negsuc m) x h = absurd h.lt

pub floor_neg : (n f x : ℤ) → f <ℤ pos 0 → (x ≤ℤ floor n f) ↔ (n ≤ℤ (f *ℤ x))
unfolding floor
floor_neg n (pos m) x h = absurd (omega ints)
floor_neg n (negsuc m) x h =
    let e = floor_by_le (neg_ℤ n) (suc m) x (zero-lt-suc m) in
    let a = mul_up (pos (suc m)) x in
    let b = mul_dn (pos (suc m)) x in
    let c = mul_up (negsuc m) x in
    let d = mul_dn (negsuc m) x in
    let u = up_neg n in
    let v = dn_neg n in
    (λ k. let g = e.0 k in omega ints, λ k. e.1 (omega ints))

pub ceiling_pos : (n f x : ℤ) → pos 0 <ℤ f → (ceiling n f ≤ℤ x) ↔ (n ≤ℤ (f *ℤ x))
unfolding ceiling
ceiling_pos n f x h =
    let e = floor_pos (neg_ℤ n) f (neg_ℤ x) h in
    let t = neg_le (floor (neg_ℤ n) f) x in
    let g = rw (mul_neg f x) at e in
    let k = le_neg (f *ℤ x) n in
    (λ c. k.0 (g.0 (t.0 c)), λ c. t.1 (g.1 (k.1 c)))

pub ceiling_neg : (n f x : ℤ) → f <ℤ pos 0 → (ceiling n f ≤ℤ x) ↔ ((f *ℤ x) ≤ℤ n)
unfolding ceiling
ceiling_neg n f x h =
    let e = floor_neg (neg_ℤ n) f (neg_ℤ x) h in
    let t = neg_le (floor (neg_ℤ n) f) x in
    let g = rw (mul_neg f x) at e in
    let k = le_neg n (f *ℤ x) in
    (λ c. k.0 (g.0 (t.0 c)), λ c. t.1 (g.1 (k.1 c)))

-- a quotient is no further from zero than its dividend
pub floor_size : (n f : ℤ) → up (floor n f) + dn (floor n f) ≤ up n + dn n
unfolding floor
floor_size n (pos m) = floor_by_size n m
floor_size n (negsuc m) = omega (arith, floor_by_size (neg_ℤ n) (suc m), up_neg n, dn_neg n)

pub ceiling_size : (n f : ℤ) → up (ceiling n f) + dn (ceiling n f) ≤ up n + dn n
unfolding ceiling
ceiling_size n f = let q = floor (neg_ℤ n) f in omega (arith, floor_size (neg_ℤ n) f, up_neg q, dn_neg q, up_neg n, dn_neg n)
