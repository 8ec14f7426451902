-- Least count first: each increment in turn is used the least number of times that leaves a multiple of the greatest common divisor of m and the
-- increments after it.
use Rattle.std.specs.Prelude.{◌≡◌, refl, ◌↔◌, ℕ, zero, suc, ◌+◌, ◌-◌, ◌*◌, ◌/◌, ◌%◌, ◌<◌, T}
use Rattle.std.proofs.Common.{sym, ap, subst, arith, mod-lt, mul_comm}
use Rattle.std.specs.Int.{◌∣◌}
use Rattle.std.proofs.Math.Nat.{mod-add-div, mul-div_cancel', dvd_of_mul-dvd-mul_left, le_of_dvd, pos_of_dvd_of_pos, dvd_refl}
use Rattle.systems.proofs.Laws.{eqb_tells, least_is}
use Rattle.congruence_rules.specs.Congruence.{congruent}
use Rattle.congruence_rules.specs.Modular.{Same}
use Rattle.congruence_rules.proofs.Modular.{same, same_sym, same_trans, same_sub, same_mul, same_mod, mod_same, same_divided}
use Rattle.congruence_rules.specs.Euclid.{IsBezout}
use Rattle.congruence_rules.specs.Greedy.{least_count, IsCount}

congruent_same : (m x y : ℕ) → T (congruent m x y) ↔ Same m x y
congruent_same m x y = (λ t. mod_same ((eqb_tells (x % m) (y % m)).0 t), λ e. (eqb_tells (x % m) (y % m)).1 (same_mod e))

pub count_only : {h a r c : ℕ} → IsCount h a r c → least_count h a r ≡ c
unfolding least_count
count_only {h} {a} {r} {c} C =
    let b = C.below in
    least_is (λ c. congruent h (c * a) r) h c (omega arith) (λ l. (congruent_same h (c * a) r).1 C.leaves)
    (λ i l t. C.least i l ((congruent_same h (i * a) r).0 t))

-- the counts of an increment that leave the same come again after h / g, the period
module _ {h a g u : ℕ} (l : 0 < h) (B : IsBezout h a g u) where
  of_modulus : g ∣ h
  of_modulus = ((B.common g).0 (dvd_refl g)).0

  of_increment : g ∣ a
  of_increment = ((B.common g).0 (dvd_refl g)).1

  pub divisor_above : 0 < g
  divisor_above = pos_of_dvd_of_pos of_modulus l

  period : g * (h / g) ≡ h
  period = mul-div_cancel' g of_modulus

  pub period_above : 0 < h / g
  period_above = go (h / g) period
    where
      go : (k : ℕ) → g * k ≡ h → 0 < k
      go zero e = absurd (omega arith)
      go (suc k) e = omega arith

-- Bezout's identity gives the least: r / g times u, modulo the period
module _ {h a g u r : ℕ} (l : 0 < h) (B : IsBezout h a g u) (m : g ∣ r) where
  abbrev count : ℕ
  count = (r / g * u) % (h / g)

  count_leaves : Same h (count * a) r
  count_leaves =
      let q = (r / g * u) / (h / g) in
      let e = mod-add-div (r / g * u) (h / g) in
      let p = ap (λ (z : ℕ). z * a) e in
      let w = ap (λ (z : ℕ). z * (q * (a / g))) (period l B) in
      let v = ap (λ (z : ℕ). z * (h / g * q)) (mul-div_cancel' g (of_increment l B)) in
      let round : Same h (count * a) (r / g * (u * a)) = record { of_first_lem = q * (a / g); of_second_lem = 0; meet = omega arith } in
      same_trans round (same_trans (same_mul (r / g) B.multiple) (same (omega (arith, mul-div_cancel' g m))))

  count_period : count < h / g
  count_period = mod-lt (r / g * u) (period_above l B)

  count_below : count < h
  count_below = go g (divisor_above l B) (period l B)
    where
      go : (k : ℕ) → 0 < k → k * (h / g) ≡ h → count < h
      go zero b e = absurd (omega arith)
      go (suc k) b e = omega (arith, count_period)

  -- two counts that leave the same are a period apart
  count_least : (i : ℕ) → i < count → Same h (i * a) r → ⊥
  count_least i b e =
      let d = count - i in
      let k : d + i ≡ count = omega arith in
      let p = ap (λ (z : ℕ). z * a) k in
      let left : Same h (d * a + i * a) (count * a) = same (omega arith) in
      let right : Same h (i * a) (0 + i * a) = same (omega arith) in
      let z : Same h (d * a + i * a) (0 + i * a) = same_trans left (same_trans count_leaves (same_trans (same_sym e) right)) in
      let n : Same h (d * a) 0 = same_sub z (same refl) in
      let turned : Same h (d * (u * a)) (u * (d * a)) = same (omega arith) in
      let zero : Same h (u * 0) 0 = same (omega arith) in
      let w : Same h (d * g) 0 = same_trans (same_mul d (same_sym B.multiple)) (same_trans turned (same_trans (same_mul u n) zero)) in
      let s : (g * (h / g)) ∣ (g * d) = subst (λ (k : ℕ). k ∣ (g * d)) (sym (period l B)) (subst (λ (k : ℕ). h ∣ k) (mul_comm d g) (same_divided w)) in
      let t = le_of_dvd (omega arith) (dvd_of_mul-dvd-mul_left (h / g) (divisor_above l B) s) in
      omega (arith, count_period)

  pub bezout_count : IsCount h a r count
  bezout_count = record { below = count_below; leaves = count_leaves; least = count_least }

  pub bezout_least : least_count h a r ≡ count
  bezout_least = count_only bezout_count
