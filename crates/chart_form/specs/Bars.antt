-- Refusal 13, each record against the first of its label alone: two records that bar what the first bars agree with one another.
use Rattle.std.specs.Prelude.{◌≡◌, refl, Bool, true, false, not, ◌||◌, List, ℕ, ◌≤◌, ◌<◌, Ok}
use Rattle.std.proofs.Common.{sym, ap, subst, ◌∙◌, ⊎_elim, eq-or-lt_of_le, arith, eq-eqb}
use Rattle.std.proofs.Math.Decide.{dec_le, ℕ_discrete}
use Rattle.std.proofs.Math.Dec.{eqb}
use Rattle.systems.proofs.Laws.{told, eqb_tells, least_le, least_lt, least_least}
use Rattle.answer_rules.specs.declared.Reason.TheVariants.{Bars}
use Rattle.answer_rules.specs.Refusal.{Checked, at}
use Rattle.answer_rules.specs.Stages.{demand, each}
use Rattle.answer_rules.proofs.Stages.{demand_fine, each_first, each_fine, each_all, each_agree}
use Rattle.model.specs.Chart.{blocks_of, record_at, label_of, round_class}
use Rattle.chart_form.specs.Form.{same_bars, bar_check, bars_check}
use Rattle.chart_form.specs.Records.{pair_apart, pair_alike, pair_wrong}
use Rattle.chart_form.specs.Passed.{same_bars_tells}

-- of two blocks of one label the test of their bars decides
same_label_lem : (c : List ℕ) (i j : ℕ) → label_of c i ≡ label_of c j → (not (eqb (label_of c i) (label_of c j)) || same_bars c i j) ≡ same_bars c i j
same_label_lem c i j e = ap (λ (b : Bool). not b || same_bars c i j) (eq-eqb (label_of c i) (label_of c j) e)

pair_passed : (c : List ℕ) (i j : ℕ) → bar_check c j i ≡ Ok tt → label_of c i ≡ label_of c j → same_bars c i j ≡ true
unfolding bar_check
pair_passed c i j e l = sym (same_label_lem c i j l) ∙ demand_fine (not (eqb (label_of c i) (label_of c j)) || same_bars c i j) (at Bars (record_at c j)) e

module _ (c : List ℕ) (j : ℕ) (h : j < blocks_of c) where
  -- the first record of a label
  first_le : round_class c 0 j ≤ j
  unfolding round_class
  first_le = least_le (λ i. eqb (label_of c i) (label_of c j)) (blocks_of c) j ((eqb_tells (label_of c j) (label_of c j)).1 refl)

  first_label : label_of c (round_class c 0 j) ≡ label_of c j
  unfolding round_class
  first_label =
      (eqb_tells (label_of c (round_class c 0 j)) (label_of c j)).0
      ((least_least (λ i. eqb (label_of c i) (label_of c j)) (blocks_of c)).passes
      (least_lt (λ i. eqb (label_of c i) (label_of c j)) (blocks_of c) j h ((eqb_tells (label_of c j) (label_of c j)).1 refl)))

  first_first : (i : ℕ) → i < round_class c 0 j → label_of c i ≡ label_of c j → ⊥
  unfolding round_class
  first_first i l e = (least_least (λ i. eqb (label_of c i) (label_of c j)) (blocks_of c)).first i l ((eqb_tells (label_of c i) (label_of c j)).1 e)

  -- where all records before passed, one that bars what the first of its label bars agrees with each
  agrees_with : each (λ k. each (bar_check c k) k) j ≡ Ok tt → same_bars c (round_class c 0 j) j ≡ true → (i : ℕ) → i < j → Ok tt ≡ bar_check c j i
  agrees_with e t i b = go (ℕ_discrete (label_of c i) (label_of c j))
    where
      between : round_class c 0 j < i → label_of c i ≡ label_of c j → same_bars c i j ≡ true
      between l d =
          let s =
          pair_passed c (round_class c 0 j) i (each_fine (bar_check c i) i (each_fine (λ k. each (bar_check c k) k) j e i b) (round_class c 0 j) l)
          (first_label ∙ sym d) in
          (same_bars_tells c i j).1
          (λ a k.
          let p = (same_bars_tells c (round_class c 0 j) i).0 s a k in
          let q = (same_bars_tells c (round_class c 0 j) j).0 t a k in
          (λ x. q.0 (p.1 x), λ x. p.0 (q.1 x)))

      later : Dec (round_class c 0 j ≤ i) → label_of c i ≡ label_of c j → same_bars c i j ≡ true
      later (yes l) d = ⊎_elim (λ z. subst (λ (k : ℕ). same_bars c k j ≡ true) z t) (λ m. between m d) (eq-or-lt_of_le l)
      later (no l) d = absurd (first_first i (omega arith) d)

      go : Dec (label_of c i ≡ label_of c j) → Ok tt ≡ bar_check c j i
      go (yes d) = pair_alike c j i refl (later (dec_le (round_class c 0 j) i) d)
      go (no n) = pair_apart c j i refl refl n

  -- so the first of its label decides
  first_decides : each (λ k. each (bar_check c k) k) j ≡ Ok tt → each (bar_check c j) j ≡ bar_check c j (round_class c 0 j)
  first_decides e = ⊎_elim alike other (told (same_bars c (round_class c 0 j) j))
    where
      alike : same_bars c (round_class c 0 j) j ≡ true → each (bar_check c j) j ≡ bar_check c j (round_class c 0 j)
      alike t = each_all (bar_check c j) j (λ i b. sym (agrees_with e t i b)) ∙ pair_alike c j (round_class c 0 j) refl t

      other : same_bars c (round_class c 0 j) j ≡ false → each (bar_check c j) j ≡ bar_check c j (round_class c 0 j)
      other t =
          let w = pair_wrong c j (round_class c 0 j) refl refl first_label refl t refl in
          each_first (bar_check c j) (round_class c 0 j) j
          (each_all (bar_check c j) (round_class c 0 j) (λ i b. sym (pair_apart c j i refl refl (first_first i b))))
          (sym w)
          (⊎_elim (λ z. absurd (own z)) (λ l. l) (eq-or-lt_of_le first_le))
          ∙ w
        where
          own : round_class c 0 j ≡ j → ⊥
          own z =
              let s = (same_bars_tells c j j).1 (λ a k. (λ x. x, λ x. x)) in
              let r = subst (λ (k : ℕ). same_bars c k j ≡ false) z t in
              let y : ◌≡◌ {A = ℕ} 0 1 = cc in
              absurd (omega arith)

-- All pairs give what each record gives against the first of its label.
pub bars_first : (c : List ℕ) → each (λ j. bar_check c j (round_class c 0 j)) (blocks_of c) ≡ bars_check c
unfolding bars_check
bars_first c = sym (each_agree (λ j. each (bar_check c j) j) (λ j. bar_check c j (round_class c 0 j)) (blocks_of c) (λ j h e. first_decides c j h e))

-- that, as the code finds it
pub bar_later : (c : List ℕ) (j : ℕ) {first p : ℕ} {b : Bool} {r : Checked} → j < blocks_of c → first ≡ round_class c 0 j → b ≡ same_bars c first j
    → p ≡ record_at c j → r ≡ demand b (at Bars p) → r ≡ bar_check c j (round_class c 0 j)
unfolding bar_check
bar_later c j {first} {p} {b} h e s q k =
    k
    ∙ ap (λ (x : ℕ). demand b (at Bars x)) q
    ∙ ap (λ (x : Bool). demand x (at Bars (record_at c j))) (s ∙ ap (λ (x : ℕ). same_bars c x j) e ∙ sym (same_label_lem c (round_class c 0 j) j (first_label c j h)))
