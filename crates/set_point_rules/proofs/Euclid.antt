-- Euclid's division of whole numbers, for a divisor of either sign: a remainder is never negative, and below the divisor without its sign.
use Rattle.std.specs.Prelude.{◌≡◌, refl, Bool, true, false, ℕ, zero, suc, ◌+◌, ◌*◌, ◌≤◌, ◌<◌, ℤ, pos, negsuc, neg_ℤ, ◌+ℤ◌, ◌-ℤ◌, ◌*ℤ◌, ◌≤ℤ◌, ◌<ℤ◌}
use Rattle.std.proofs.Common.{sym, ap, subst, ◌∙◌, arith, zero-lt-suc}
use Rattle.std.specs.Int.Signed.{le_z, ≤ℤ_refl}
use Rattle.integers.specs.Order.{up, dn}
use Rattle.integers.proofs.Order.{ints, eq_out, up_neg, dn_neg, neg_neg, add_parts, sub_parts, mul_up, mul_dn}
use Rattle.integers.specs.Division.{floor_by, floor, ceiling}
use Rattle.integers.proofs.Division.{floor_by_le, floor_size}
use Rattle.integers.specs.Range.{Within}
use Rattle.integers.proofs.RangeLaws.{within_size, within_out}
use Rattle.set_point_rules.specs.Euclid.{Euclid, quotient, remainder, ExactlyOne}

-- one more of the divisor
module _ (m : ℕ) (x : ℤ) where
  next : up (pos m *ℤ (x +ℤ pos 1)) + dn (pos m *ℤ x) ≡ dn (pos m *ℤ (x +ℤ pos 1)) + up (pos m *ℤ x) + m
  next =
      let e = ap (λ (k : ℕ). m * k) (add_parts x (pos 1)) in
      omega (arith, e, mul_up (pos m) x, mul_dn (pos m) x, mul_up (pos m) (x +ℤ pos 1), mul_dn (pos m) (x +ℤ pos 1))

-- what is left is what was not taken
left_of : (n p r : ℤ) → n ≡ p +ℤ r → r ≡ n -ℤ p
left_of n p r e = eq_out r (n -ℤ p) (omega (ints, sub_parts n p, add_parts p r))

taken_left : (n p : ℤ) → n ≡ p +ℤ (n -ℤ p)
taken_left n p = eq_out n (p +ℤ (n -ℤ p)) (omega (arith, add_parts p (n -ℤ p), sub_parts n p))

-- a negative divisor divides as the same without its sign, with the quotient's sign turned
turned : (m : ℕ) (x : ℤ) → negsuc m *ℤ x ≡ pos (suc m) *ℤ neg_ℤ x
turned m x =
    let a = mul_up (negsuc m) x in
    let b = mul_dn (negsuc m) x in
    let c = simp (up_neg, dn_neg) at (mul_up (pos (suc m)) (neg_ℤ x)) in
    let d = simp (up_neg, dn_neg) at (mul_dn (pos (suc m)) (neg_ℤ x)) in
    eq_out (negsuc m *ℤ x) (pos (suc m) *ℤ neg_ℤ x) (omega arith)

-- A positive divisor: the quotient rounded down leaves a remainder within its limits, and no other quotient does.
floor_leaves : (n : ℤ) (m : ℕ) → zero < m → Euclid n (pos m) (floor_by n m) (n -ℤ (pos m *ℤ floor_by n m))
floor_leaves n m h =
    let p = pos m *ℤ q in
    let low = (floor_by_le n m q h).0 (≤ℤ_refl q) in
    record {
      sum = taken_left n p;
      from_zero = omega (ints, sub_parts n p);
      below = omega (ints, go (le_z (pos m *ℤ (q +ℤ pos 1)) n) refl);
    }
  where
    q : ℤ
    q = floor_by n m

    go : (t : Bool) → le_z (pos m *ℤ (q +ℤ pos 1)) n ≡ t → (n -ℤ (pos m *ℤ q)) <ℤ pos m
    go true e = let more = (floor_by_le n m (q +ℤ pos 1) h).1 (omega ints) in absurd (omega (ints, add_parts q (pos 1)))
    go false e = omega (ints, next m q, sub_parts n (pos m *ℤ q))

floor_only : (n : ℤ) (m : ℕ) (x r : ℤ) → zero < m → Euclid n (pos m) x r → x ≡ floor_by n m
floor_only n m x r h E = go (le_z (floor_by n m) x) refl
  where
    low : x ≤ℤ floor_by n m
    low = (floor_by_le n m x h).1 (omega (ints, E.sum, E.from_zero, add_parts (pos m *ℤ x) r))

    go : (t : Bool) → le_z (floor_by n m) x ≡ t → x ≡ floor_by n m
    go true e = omega (ints, low)
    go false e =
        let more = (floor_by_le n m (x +ℤ pos 1) h).0 (omega (ints, add_parts x (pos 1))) in
        absurd (omega (ints, E.sum, E.below, add_parts (pos m *ℤ x) r, next m x))

-- quotient and remainder divide n by f
pub divides : (n f : ℤ) → (f ≡ pos 0 → ⊥) → Euclid n f (quotient n f) (remainder n f)
unfolding quotient remainder
divides n (pos zero) h = absurd (h refl)
divides n (pos (suc m)) h = floor_leaves n (suc m) (zero-lt-suc m)
divides n (negsuc m) h =
    let q = floor_by n (suc m) in
    let E = floor_leaves n (suc m) (zero-lt-suc m) in
    let e = sym (turned m (neg_ℤ q) ∙ ap (λ (z : ℤ). pos (suc m) *ℤ z) (neg_neg q)) in
    record {
      sum = taken_left n (negsuc m *ℤ neg_ℤ q);
      from_zero = subst (λ (z : ℤ). pos 0 ≤ℤ (n -ℤ z)) e E.from_zero;
      below = subst (λ (z : ℤ). (n -ℤ z) <ℤ pos (suc m)) e E.below;
    }

-- and nothing else does
pub divides_only : (n f x r : ℤ) → (f ≡ pos 0 → ⊥) → Euclid n f x r → (x ≡ quotient n f) × (r ≡ remainder n f)
unfolding quotient remainder
divides_only n f x r h E = let e = same f h E in (e, left_of n (f *ℤ x) r E.sum ∙ ap (λ (z : ℤ). n -ℤ (f *ℤ z)) e)
  where
    same : (f : ℤ) → (f ≡ pos 0 → ⊥) → Euclid n f x r → x ≡ quotient n f
    same (pos zero) h E = absurd (h refl)
    same (pos (suc m)) h E = floor_only n (suc m) x r (zero-lt-suc m) E
    same (negsuc m) h E =
        let D : Euclid n (pos (suc m)) (neg_ℤ x) r = record { sum = E.sum ∙ ap (λ (z : ℤ). z +ℤ r) (turned m x); from_zero = E.from_zero; below = E.below } in
        sym (neg_neg x) ∙ ap neg_ℤ (floor_only n (suc m) (neg_ℤ x) r (zero-lt-suc m) D)

-- Whatever is divided by a number that is not 0, of either sign each: exactly one quotient and remainder exist.
pub exactly_one : (n f : ℤ) → (f ≡ pos 0 → ⊥) → ExactlyOne (Euclid n f)
exactly_one n f h = record { first = quotient n f; second = remainder n f; has = divides n f h; only = λ x r E. divides_only n f x r h E }

-- the quotient is rounded down for a positive divisor, and up for a negative one
pub quotient_pos : (n f : ℤ) → pos 0 <ℤ f → quotient n f ≡ floor n f
unfolding quotient floor
quotient_pos n (pos m) h = refl
quotient_pos n (negsuc m) h = absurd h.lt

pub quotient_neg : (n f : ℤ) → f <ℤ pos 0 → quotient n f ≡ ceiling n f
unfolding quotient ceiling floor
quotient_neg n (pos m) h = absurd (omega ints)
quotient_neg n (negsuc m) h = ap (λ (z : ℤ). neg_ℤ (floor_by z (suc m))) (sym (neg_neg n))

-- the quotient is no further from zero than what is divided
quotient_size : (n f : ℤ) → up (quotient n f) + dn (quotient n f) ≤ up n + dn n
unfolding quotient floor
quotient_size n (pos m) = floor_size n (pos m)
quotient_size n (negsuc m) = let q = floor_by n (suc m) in omega (arith, floor_size n (pos (suc m)), up_neg q, dn_neg q)

pub quotient_within : {k : ℕ} {n : ℤ} (f : ℤ) → Within k n → Within k (quotient n f)
quotient_within {k} {n} f w = within_out k (quotient n f) (omega (arith, quotient_size n f, within_size w))
