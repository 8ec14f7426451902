-- What a chart that passes the refusals 4, 12 and 13 obeys, each way.
use Rattle.std.specs.Prelude.{◌≡◌, refl, ◌↔◌, ◌⊎◌, Bool, true, false, not, ◌||◌, List, ℕ, ◌≤◌, ◌<◌, eqb, ltb, leb, Ok}
use Rattle.std.proofs.Common.{sym, ap, inl, inr, ⊎_elim, arith, ltb-true, leb-true, eqb-true, lt-ltb, le-leb, eq-eqb, ne_eqb}
use Rattle.std.proofs.Math.Decide.{ℕ_discrete}
use Rattle.systems.specs.Search.{all}
use Rattle.systems.proofs.Laws.{true_is, is_true, all_true}
use Rattle.answer_rules.specs.declared.Reason.{Reason}
use Rattle.answer_rules.specs.declared.Reason.TheVariants.{Field, Numbering, Bars}
use Rattle.answer_rules.specs.Refusal.{Checked, at}
use Rattle.answer_rules.specs.Stages.{demand, each}
use Rattle.answer_rules.proofs.Stages.{passed, then_fine, demand_fine, each_fine, each_all}
use Rattle.answer_rules.proofs.Loops.{demand_yes, or_first, or_second}
use Rattle.model.specs.Chart.{actions_of, blocks_of, record_at, label_of, target_of, next_in, next_unnamed}
use Rattle.model.specs.Rounds.{TargetsRight}
use Rattle.chart_bytes.specs.Header.{target_at}
use Rattle.chart_form.specs.Form.{target_check, fields_check, limits_check, record_check, order_check, number_check, numbers_check, same_bar, same_bars, bar_check, bars_check}

or_true : (a b : Bool) → (a || b) ≡ true → (a ≡ true) ⊎ (b ≡ true)
or_true true b e = inl refl
or_true false b e = inr e

-- a demand passes exactly where its test does
pub demand_pass : {t : Bool} (n : Reason) (p : ℕ) → t ≡ true → demand t (at n p) ≡ Ok tt
demand_pass n p e = sym (demand_yes (at n p) e)

-- 4
pub record Limited (c : List ℕ) : Type 0 where
  pub labels : (i : ℕ) → i < blocks_of c → label_of c i < 65535
  pub targets : TargetsRight c

target_right : (c : List ℕ) (i a : ℕ) → (target_check c i a ≡ Ok tt) ↔ ((target_of c i a < blocks_of c) ⊎ (target_of c i a ≡ 255))
unfolding target_check
target_right c i a = (
  λ e.
      ⊎_elim
      (λ q. inr (eqb-true (target_of c i a) 255 q))
      (λ q. inl (ltb-true (target_of c i a) (blocks_of c) q))
      (or_true (eqb (target_of c i a) 255) (ltb (target_of c i a) (blocks_of c))
      (demand_fine (eqb (target_of c i a) 255 || ltb (target_of c i a) (blocks_of c)) (at Field (target_at c i a)) e)),
  λ r.
      demand_pass Field (target_at c i a)
      (⊎_elim
      (λ q. or_second (eqb (target_of c i a) 255) (lt-ltb (target_of c i a) (blocks_of c) q))
      (λ q. or_first (ltb (target_of c i a) (blocks_of c)) (eq-eqb (target_of c i a) 255 q))
      r),
)

pub limits_right : (c : List ℕ) → (limits_check c ≡ Ok tt) ↔ Limited c
unfolding limits_check fields_check
limits_right c = (
  λ e.
      record {
        labels = λ i h. ltb-true (label_of c i) 65535 (demand_fine (ltb (label_of c i) 65535) (at Field (record_at c i)) (parts e i h).0);
        targets = λ i a h b. (target_right c i a).0 (each_fine (target_check c i) (actions_of c) (parts e i h).1 a b);
      },
  λ r.
      each_all (fields_check c) (blocks_of c)
      (λ i h.
      sym
      (passed (demand_pass Field (record_at c i) (lt-ltb (label_of c i) 65535 (r.labels i h)))
      (sym (each_all (target_check c i) (actions_of c) (λ a b. (target_right c i a).1 (r.targets i a h b)))))),
)
  where
    parts : limits_check c ≡ Ok tt → (i : ℕ) → i < blocks_of c
        → (demand (ltb (label_of c i) 65535) (at Field (record_at c i)) ≡ Ok tt) × (each (target_check c i) (actions_of c) ≡ Ok tt)
    parts e i h =
        then_fine (demand (ltb (label_of c i) 65535) (at Field (record_at c i))) (each (target_check c i) (actions_of c)) (each_fine (fields_check c) (blocks_of c) e i h)

-- 12
pub record Numbered (c : List ℕ) : Type 0 where
  pub in_order : (i a : ℕ) → i < blocks_of c → a < actions_of c → (target_of c i a ≡ 255) ⊎ (target_of c i a ≤ next_in c i (next_unnamed c i) a)
  pub before : (i : ℕ) → 1 ≤ i → i < blocks_of c → i < next_unnamed c i

pub numbers_right : (c : List ℕ) → (numbers_check c ≡ Ok tt) ↔ Numbered c
unfolding numbers_check number_check record_check order_check
numbers_right c = (λ e. record { in_order = order e; before = named e }, λ r. each_all (λ i. number_check c i (next_unnamed c i)) (blocks_of c) (λ i hi. back r i hi))
  where
    orders : ℕ → ℕ → Checked
    orders i a = order_check c i a (next_in c i (next_unnamed c i) a)

    parts : numbers_check c ≡ Ok tt → (i : ℕ) → i < blocks_of c → (record_check c i (next_unnamed c i) ≡ Ok tt) × (each (orders i) (actions_of c) ≡ Ok tt)
    parts e i hi =
        then_fine (record_check c i (next_unnamed c i)) (each (orders i) (actions_of c))
        (each_fine (λ i. number_check c i (next_unnamed c i)) (blocks_of c) e i hi)

    order : numbers_check c ≡ Ok tt → (i a : ℕ) → i < blocks_of c → a < actions_of c
        → (target_of c i a ≡ 255) ⊎ (target_of c i a ≤ next_in c i (next_unnamed c i) a)
    order e i a hi ha =
        ⊎_elim
        (λ q. inl (eqb-true (target_of c i a) 255 q))
        (λ q. inr (leb-true (target_of c i a) (next_in c i (next_unnamed c i) a) q))
        (or_true (eqb (target_of c i a) 255) (leb (target_of c i a) (next_in c i (next_unnamed c i) a))
        (demand_fine (eqb (target_of c i a) 255 || leb (target_of c i a) (next_in c i (next_unnamed c i) a)) (at Numbering (target_at c i a))
        (each_fine (orders i) (actions_of c) (parts e i hi).1 a ha)))

    named : numbers_check c ≡ Ok tt → (i : ℕ) → 1 ≤ i → i < blocks_of c → i < next_unnamed c i
    named e i h hi =
        ⊎_elim
        (λ q. let z = eqb-true i 0 q in absurd (omega arith))
        (λ q. ltb-true i (next_unnamed c i) q)
        (or_true (eqb i 0) (ltb i (next_unnamed c i)) (demand_fine (eqb i 0 || ltb i (next_unnamed c i)) (at Numbering (record_at c i)) (parts e i hi).0))

    first : Numbered c → (i : ℕ) → i < blocks_of c → Dec (i ≡ 0) → (eqb i 0 || ltb i (next_unnamed c i)) ≡ true
    first r i hi (yes e) = or_first (ltb i (next_unnamed c i)) (eq-eqb i 0 e)
    first r i hi (no n) = or_second (eqb i 0) (lt-ltb i (next_unnamed c i) (r.before i (omega arith) hi))

    back : Numbered c → (i : ℕ) → i < blocks_of c → number_check c i (next_unnamed c i) ≡ Ok tt
    back r i hi =
        sym
        (passed (demand_pass Numbering (record_at c i) (first r i hi (ℕ_discrete i 0)))
        (sym
        (each_all (orders i) (actions_of c)
        (λ a ha.
        demand_pass Numbering (target_at c i a)
        (⊎_elim
        (λ q. or_first (leb (target_of c i a) (next_in c i (next_unnamed c i) a)) (eq-eqb (target_of c i a) 255 q))
        (λ q. or_second (eqb (target_of c i a) 255) (le-leb (target_of c i a) (next_in c i (next_unnamed c i) a) q))
        (r.in_order i a hi ha))))))

-- 13
same_bar_tells : (t u : ℕ) → (same_bar t u ≡ true) ↔ ((t ≡ 255) ↔ (u ≡ 255))
unfolding same_bar
same_bar_tells t u = go (ℕ_discrete t 255) (ℕ_discrete u 255)
  where
    go : Dec (t ≡ 255) → Dec (u ≡ 255) → (same_bar t u ≡ true) ↔ ((t ≡ 255) ↔ (u ≡ 255))
    go (yes p) (yes q) = rw (eq-eqb t 255 p, eq-eqb u 255 q, same_bar) (λ e. (λ h. q, λ h. p), λ h. refl)
    go (yes p) (no q) =
        rw (eq-eqb t 255 p, ne_eqb u 255 q, same_bar) (λ e. let z : ◌≡◌ {A = ℕ} 0 1 = cc in absurd (omega arith), λ h. absurd (q (h.0 p)))
    go (no p) (yes q) =
        rw (ne_eqb t 255 p, eq-eqb u 255 q, same_bar) (λ e. let z : ◌≡◌ {A = ℕ} 0 1 = cc in absurd (omega arith), λ h. absurd (p (h.1 q)))
    go (no p) (no q) = rw (ne_eqb t 255 p, ne_eqb u 255 q, same_bar) (λ e. (λ h. absurd (p h), λ h. absurd (q h)), λ h. refl)

pub same_bars_tells : (c : List ℕ) (i j : ℕ)
    → (same_bars c i j ≡ true) ↔ ((a : ℕ) → a < actions_of c → (target_of c i a ≡ 255) ↔ (target_of c j a ≡ 255))
unfolding same_bars
same_bars_tells c i j = (
  λ e a h.
      (same_bar_tells (target_of c i a) (target_of c j a)).0
      (is_true (bars a) ((all_true bars (actions_of c)).0 (true_is (all bars (actions_of c)) e) a h)),
  λ f.
      is_true (all bars (actions_of c))
      ((all_true bars (actions_of c)).1 (λ a h. true_is (bars a) ((same_bar_tells (target_of c i a) (target_of c j a)).1 (f a h)))),
)
  where
    bars : ℕ → Bool
    bars a = same_bar (target_of c i a) (target_of c j a)

abbrev pub BarsAlike : List ℕ → Type 0
BarsAlike c = (i j a : ℕ) → i < j → j < blocks_of c → a < actions_of c → label_of c i ≡ label_of c j → (target_of c i a ≡ 255) ↔ (target_of c j a ≡ 255)

pub bars_right : (c : List ℕ) → (bars_check c ≡ Ok tt) ↔ BarsAlike c
unfolding bars_check bar_check
bars_right c = (
  λ e i j a h hj ha l.
      ⊎_elim
      (λ q. let z = ap not (eq-eqb (label_of c i) (label_of c j) l) in let y : ◌≡◌ {A = ℕ} 0 1 = cc in absurd (omega arith))
      (λ q. (same_bars_tells c i j).0 q a ha)
      (or_true (not (eqb (label_of c i) (label_of c j))) (same_bars c i j)
      (demand_fine (not (eqb (label_of c i) (label_of c j)) || same_bars c i j) (at Bars (record_at c j))
      (each_fine (bar_check c j) j (each_fine (λ j. each (bar_check c j) j) (blocks_of c) e j hj) i h))),
  λ r.
      each_all (λ j. each (bar_check c j) j) (blocks_of c)
      (λ j hj. each_all (bar_check c j) j (λ i h. demand_pass Bars (record_at c j) (back r i j h hj (ℕ_discrete (label_of c i) (label_of c j))))),
)
  where
    back : BarsAlike c → (i j : ℕ) → i < j → j < blocks_of c → Dec (label_of c i ≡ label_of c j) → (not (eqb (label_of c i) (label_of c j)) || same_bars c i j) ≡ true
    back r i j h hj (yes l) =
        or_second (not (eqb (label_of c i) (label_of c j))) ((same_bars_tells c i j).1 (λ a ha. r i j a h hj ha l))
    back r i j h hj (no n) = or_first (same_bars c i j) (ap not (ne_eqb (label_of c i) (label_of c j) n))
