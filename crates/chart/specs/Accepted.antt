-- A chart is accepted exactly where it obeys the chart rules.
use Rattle.std.specs.Prelude.{◌≡◌, refl, ◌↔◌, true, List, ℕ, ◌≤◌, ◌<◌, eqb, length, get_or, take, Ok}
use Rattle.std.proofs.Common.{sym, ap, ◌∙◌, ⊎_elim, arith, eq-or-lt_of_le, ext_get_or, get_or-take, length-take-le, eqb-true, eq-eqb}
use Rattle.systems.proofs.Laws.{eqb_tells, true_is, is_true, all_true}
use Rattle.answer_rules.specs.declared.Reason.TheVariants.{Unparted}
use Rattle.answer_rules.specs.Refusal.{at}
use Rattle.answer_rules.specs.Stages.{and_then, each}
use Rattle.answer_rules.proofs.Stages.{passed, then_fine, demand_fine, each_fine, each_all}
use Rattle.model.specs.Blocks.{chart_mark}
use Rattle.model.specs.Chart.{blocks_of, record_at, label_of, round_class, ToldApart, ChartRules}
use Rattle.model.specs.Rounds.{TargetsRight}
use Rattle.model.proofs.Rounds.{class_own, rounds_told}
use Rattle.chart_bytes.specs.Header.{marked, length_check, header_check}
use Rattle.chart_bytes.specs.Shape.{Shaped, record_start}
use Rattle.chart_bytes.specs.HeaderLaws.{mark_good, counts_good, length_good, header_passed}
use Rattle.chart_form.specs.Form.{limits_check, numbers_check, bars_check}
use Rattle.chart_form.specs.Passed.{demand_pass, Numbered, BarsAlike, limits_right, numbers_right, bars_right}
use Rattle.chart.specs.Check.{class_check, classes_check, form_check, chart_check}

-- mark and version
mark_take : (c : List ℕ) → 7 ≤ length c → (marked c ≡ true) ↔ (take 5 c ≡ chart_mark)
unfolding marked
mark_take c h = (
  λ e.
      let t = (all_true (λ k. eqb (get_or c k 0) (get_or chart_mark k 0)) 5).0 (true_is (marked c) e) in
      ext_get_or 0 (take 5 c) chart_mark (length-take-le 5 c (omega arith))
      (λ i l.
      let b : i < 5 = omega (arith, length-take-le 5 c (omega arith)) in
      get_or-take 5 c i 0 b ∙ (eqb_tells (get_or c i 0) (get_or chart_mark i 0)).0 (t i b)),
  λ e.
      is_true (marked c)
      ((all_true (λ k. eqb (get_or c k 0) (get_or chart_mark k 0)) 5).1
      (λ i l. (eqb_tells (get_or c i 0) (get_or chart_mark i 0)).1 (sym (get_or-take 5 c i 0 l) ∙ ap (λ (x : List ℕ). get_or x i 0) e))),
)

-- each block is the least of its class exactly where no two are in one class
pub own_apart : (c : List ℕ) → blocks_of c ≤ 255 → TargetsRight c → (k n : ℕ) → n ≤ blocks_of c
    → ((j : ℕ) → j < n → round_class c k j ≡ j) ↔ ((i j : ℕ) → i < j → j < n → round_class c k i ≡ round_class c k j → ⊥)
own_apart c few right k n b = (
  λ f i j h l e. let p = f i (omega arith) in let q = f j l in omega arith,
  λ f j l. let (p, q) = class_own c few right k j (omega arith) in ⊎_elim (λ e. e) (λ h. absurd (f (round_class c k j) j h l q)) (eq-or-lt_of_le p),
)

-- 14
pub classes_own : (c : List ℕ) (n : ℕ) → (each (class_check c (round_class c (blocks_of c))) n ≡ Ok tt) ↔ ((j : ℕ) → j < n → round_class c (blocks_of c) j ≡ j)
unfolding class_check
classes_own c n = (
  λ e j h.
      eqb-true (round_class c (blocks_of c) j) j
      (demand_fine (eqb (round_class c (blocks_of c) j) j) (at Unparted (record_at c j)) (each_fine (class_check c (round_class c (blocks_of c))) n e j h)),
  λ f. each_all (class_check c (round_class c (blocks_of c))) n (λ j h. demand_pass Unparted (record_at c j) (eq-eqb (round_class c (blocks_of c) j) j (f j h))),
)

pub classes_right : (c : List ℕ) → blocks_of c ≤ 255 → TargetsRight c → (classes_check c ≡ Ok tt) ↔ ((i j : ℕ) → i < j → j < blocks_of c → ToldApart c i j)
unfolding classes_check
classes_right c few right = (
  λ e i j h l.
      (rounds_told c few right i j (omega arith) l).1 ((own_apart c few right (blocks_of c) (blocks_of c) (omega arith)).0 ((classes_own c (blocks_of c)).0 e) i j h l),
  λ f.
      (classes_own c (blocks_of c)).1
      ((own_apart c few right (blocks_of c) (blocks_of c) (omega arith)).1 (λ i j h l. (rounds_told c few right i j (omega arith) l).0 (f i j h l))),
)

-- what a chart that passes all before 14 obeys
pub record Formed (c : List ℕ) : Type 0 where
  pub mark : marked c ≡ true
  pub shape : Shaped c
  pub labels : (i : ℕ) → i < blocks_of c → label_of c i < 65535
  pub targets : TargetsRight c
  pub numbers : Numbered c
  pub bars : BarsAlike c

pub form_passed : (c : List ℕ) → form_check c ≡ Ok tt → Formed c
unfolding form_check
form_passed c e =
    let (p, q) = then_fine (header_check c) (and_then (limits_check c) (and_then (numbers_check c) (bars_check c))) e in
    let (r, s) = then_fine (limits_check c) (and_then (numbers_check c) (bars_check c)) q in
    let (t, u) = then_fine (numbers_check c) (bars_check c) s in
    let (m, h) = header_passed c p in
    let l = (limits_right c).0 r in
    record { mark = m; shape = h; labels = l.labels; targets = l.targets; numbers = (numbers_right c).0 t; bars = (bars_right c).0 u }

pub form_passes : (c : List ℕ) → Formed c → form_check c ≡ Ok tt
unfolding form_check header_check
form_passes c f =
    let s = f.shape in
    let k : blocks_of c < 256 = omega (arith, s.blocks_few) in
    let h = passed (sym (mark_good c s.header refl f.mark))
    (passed (sym (counts_good c s.actions_some s.actions_few s.blocks_some k)) (length_right c s)) in
    sym (passed (sym h) (passed ((limits_right c).1 (record { labels = f.labels; targets = f.targets })) (passed ((numbers_right c).1 f.numbers) (sym ((bars_right c).1 f.bars)))))
  where
    length_right : (c : List ℕ) → Shaped c → Ok tt ≡ length_check c
    length_right c s = length_good c (s.length_right ∙ sym (record_start c (blocks_of c)))

-- the chart rules speak of the header too
pub rules_shaped : (c : List ℕ) → ChartRules c → Shaped c
rules_shaped c r =
    record {
      header = omega (arith, r.length_right ∙ sym (record_start c (blocks_of c)));
      actions_some = r.actions_some;
      actions_few = r.actions_few;
      blocks_some = r.blocks_some;
      blocks_few = r.blocks_few;
      length_right = r.length_right;
    }

-- Accepted exactly where the chart rules hold.
pub accepted : (c : List ℕ) → (chart_check c ≡ Ok tt) ↔ ChartRules c
unfolding chart_check
accepted c = (λ e. rules (then_fine (form_check c) (classes_check c) e), back)
  where
    rules : (form_check c ≡ Ok tt) × (classes_check c ≡ Ok tt) → ChartRules c
    rules p =
        let f = form_passed c p.0 in
        let s = f.shape in
        record {
          mark = (mark_take c s.header).0 f.mark;
          actions_some = s.actions_some;
          actions_few = s.actions_few;
          blocks_some = s.blocks_some;
          blocks_few = s.blocks_few;
          length_right = s.length_right;
          labels_right = f.labels;
          targets_right = f.targets;
          named_in_order = f.numbers.in_order;
          named_before = f.numbers.before;
          bars_alike = f.bars;
          told_apart = (classes_right c s.blocks_few f.targets).0 p.1;
        }

    back : ChartRules c → and_then (form_check c) (classes_check c) ≡ Ok tt
    back r =
        let s = rules_shaped c r in
        let f : Formed c =
        record {
          mark = (mark_take c s.header).1 r.mark;
          shape = s;
          labels = r.labels_right;
          targets = r.targets_right;
          numbers = record { in_order = r.named_in_order; before = r.named_before };
          bars = r.bars_alike;
        } in
        sym (passed (form_passes c f) (sym ((classes_right c r.blocks_few r.targets_right).1 r.told_apart)))

-- what the code needs of a chart that passed
pub check_passed : (c : List ℕ) → chart_check c ≡ Ok tt → Formed c
unfolding chart_check
check_passed c e = form_passed c (then_fine (form_check c) (classes_check c) e).0
