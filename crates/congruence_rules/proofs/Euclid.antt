-- Euclid's algorithm, extended: the greatest common divisor g of h and a, and a multiple of a that is equal to g modulo h.
use Rattle.std.specs.Prelude.{ℕ, zero, suc, ◌+◌, ◌-◌, ◌*◌, ◌/◌, ◌%◌, ◌≤◌, ◌<◌}
use Rattle.std.proofs.Common.{arith, mod-lt}
use Rattle.std.proofs.Math.Nat.{mod-add-div, dvd-zero, dvd-mod_iff}
use Rattle.congruence_rules.specs.Modular.{Same}
use Rattle.congruence_rules.proofs.Modular.{same, same_trans, same_mul, same_sub, rounds_same}
use Rattle.congruence_rules.specs.Euclid.{IsBezout, OnTheWay, Ends}

pub begun : (h a : ℕ) → OnTheWay h a h 0 a 1
begun h a = record {
  first = record { of_first_lem = 1; of_second_lem = 0; meet = omega arith };
  second = same (omega arith);
  common = λ d. (λ p. p, λ p. p);
}

-- a division takes the place of x, and t that of s
pub divided : {h a x s y t : ℕ} → 0 < h → OnTheWay h a x s y t → OnTheWay h a y t (x % y) ((s + (h - (x / y * t) % h)) % h)
divided {h} {a} {x} {s} {y} {t} l E =
    let q = x / y in
    let t' = (s + (h - (q * t) % h)) % h in
    let whole : Same h (a * (t' + q * t)) (a * s) = same_mul a (rounds_same h s (q * t) l) in
    let left : Same h (t' * a + q * (t * a)) (a * (t' + q * t)) = same (omega arith) in
    let right : Same h (a * s) (s * a) = same (omega arith) in
    let end : Same h x (x % y + q * y) = same (omega (arith, mod-add-div x y)) in
    let sum = same_trans left (same_trans whole (same_trans right (same_trans E.first end))) in
    record {
      first = E.second;
      second = same_sub sum (same_mul q E.second);
      common = λ d. (
        λ p. (E.common d).0 ((dvd-mod_iff d p.0).0 p.1, p.0),
        λ p. let c = (E.common d).1 p in (c.1, (dvd-mod_iff d c.1).1 c.0),
      );
    }

-- nothing is left to divide by
pub ended : {h a x s t : ℕ} → OnTheWay h a x s 0 t → IsBezout h a x s
ended E = record { common = λ d. (λ p. (E.common d).0 (p, dvd-zero d), λ p. ((E.common d).1 p).0); multiple = E.first }

ends : {h a : ℕ} (n y : ℕ) {x s t : ℕ} → 0 < h → y ≤ n → OnTheWay h a x s y t → Ends h a
ends zero zero {x = x} {s = s} l b E = record { divisor = x; factor = s; is = ended E }
ends zero (suc y) l b E = absurd (omega arith)
ends (suc n) zero {x = x} {s = s} l b E = record { divisor = x; factor = s; is = ended E }
ends (suc n) (suc y) {x = x} l b E = ends n (x % suc y) l (omega (arith, mod-lt x {m = suc y} (omega arith))) (divided l E)

pub bezout : (h a : ℕ) → 0 < h → Ends h a
bezout h a l = ends a a l (omega arith) (begun h a)
