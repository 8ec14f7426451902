-- Numbers that are equal modulo m, over numbers that are not negative: each is the other after some rounds of m.
use Rattle.std.specs.Prelude.{◌≡◌, refl, ℕ, ◌+◌, ◌-◌, ◌*◌, ◌/◌, ◌%◌, ◌≤◌, ◌<◌}
use Rattle.std.proofs.Common.{sym, ap, subst, ◌∙◌, arith, mod-lt}
use Rattle.std.specs.Int.{◌∣◌}
use Rattle.std.proofs.Math.Nat.{mod-add-div, add-mul-mod_self_left, dvd_refl, dvd-zero, dvd-add, dvd-mul_right, dvd-add_iff_left, mul-div_cancel'}
use Rattle.congruence_rules.specs.Modular.{Same}

module _ {m x y : ℕ} where
  -- they are those of the same remainder
  pub same_mod : Same m x y → x % m ≡ y % m
  same_mod e =
      sym (add-mul-mod_self_left x m e.of_first_lem) ∙ ap (λ (z : ℕ). z % m) e.meet ∙ add-mul-mod_self_left y m e.of_second_lem

  pub mod_same : x % m ≡ y % m → Same m x y
  mod_same e = record { of_first_lem = y / m; of_second_lem = x / m; meet = omega (arith, mod-add-div x m, mod-add-div y m) }

  pub same_sym : Same m x y → Same m y x
  same_sym e = record { of_first_lem = e.of_second_lem; of_second_lem = e.of_first_lem; meet = sym e.meet }

  pub same_mul : (k : ℕ) → Same m x y → Same m (k * x) (k * y)
  same_mul k e =
      let p = ap (λ (z : ℕ). k * z) e.meet in
      record { of_first_lem = k * e.of_first_lem; of_second_lem = k * e.of_second_lem; meet = omega arith }

  -- modulo a divisor of m too
  pub same_down : {d : ℕ} → d ∣ m → Same m x y → Same d x y
  same_down {d} h e =
      let k = m / d in
      let c = mul-div_cancel' d h in
      let p = ap (λ (z : ℕ). z * e.of_first_lem) c in
      let q = ap (λ (z : ℕ). z * e.of_second_lem) c in
      record { of_first_lem = k * e.of_first_lem; of_second_lem = k * e.of_second_lem; meet = omega (arith, e.meet) }

pub same : {m x y : ℕ} → x ≡ y → Same m x y
same {m} e = record { of_first_lem = 0; of_second_lem = 0; meet = omega arith }

module _ {m x y z : ℕ} where
  pub same_trans : Same m x y → Same m y z → Same m x z
  same_trans e f = record { of_first_lem = e.of_first_lem + f.of_first_lem; of_second_lem = e.of_second_lem + f.of_second_lem; meet = omega (arith, e.meet, f.meet) }

module _ {m x y u v : ℕ} where
  pub same_add : Same m x y → Same m u v → Same m (x + u) (y + v)
  same_add e f = record { of_first_lem = e.of_first_lem + f.of_first_lem; of_second_lem = e.of_second_lem + f.of_second_lem; meet = omega (arith, e.meet, f.meet) }

  pub same_sub : Same m (x + u) (y + v) → Same m u v → Same m x y
  same_sub e f = record { of_first_lem = e.of_first_lem + f.of_second_lem; of_second_lem = e.of_second_lem + f.of_first_lem; meet = omega (arith, e.meet, f.meet) }

-- a divisor of m divides both or neither
pub same_divides : (d : ℕ) {m x y : ℕ} → d ∣ m → Same m x y → d ∣ y → d ∣ x
same_divides d {m} {x} {y} h e l =
    let s = same_down h e in
    let t = dvd-add d l (dvd-mul_right d s.of_second_lem) in
    (dvd-add_iff_left d {m = x} (dvd-mul_right d s.of_first_lem)).1 (subst (λ (z : ℕ). d ∣ z) (sym s.meet) t)

-- what m divides is equal to 0, and back
pub divides_same : {m x : ℕ} → m ∣ x → Same m x 0
divides_same {m} {x} h = record { of_first_lem = 0; of_second_lem = x / m; meet = omega (arith, mul-div_cancel' m h) }

pub same_divided : {m x : ℕ} → Same m x 0 → m ∣ x
same_divided {m} {x} e = same_divides m (dvd_refl m) e (dvd-zero m)

-- what is left of one value behind another, going round
pub minus_same : (m x t : ℕ) → t ≤ m → Same m ((x + (m - t)) % m + t) x
minus_same m x t h = record { of_first_lem = (x + (m - t)) / m; of_second_lem = 1; meet = omega (arith, mod-add-div (x + (m - t)) m) }

-- the same for a value that may be m or above
pub rounds_same : (m x t : ℕ) → 0 < m → Same m ((x + (m - t % m)) % m + t) x
rounds_same m x t h =
    let p = minus_same m x (t % m) (omega (arith, mod-lt t h)) in
    same_trans (same_add (same refl) (record { of_first_lem = 0; of_second_lem = t / m; meet = omega (arith, mod-add-div t m) })) p
