-- Refusal 14: exactly where two blocks read alike for every sequence, at the earliest later record.
use Rattle.std.specs.Prelude.{◌≡◌, refl, ◌↔◌, ◌⊎◌, Bool, true, false, List, ℕ, zero, suc, ◌≤◌, ◌<◌, eqb, Ok, Err}
use Rattle.std.proofs.Common.{sym, ap, inl, inr, arith, eq-or-lt_of_le}
use Rattle.std.proofs.Math.Logic.{⊎_elim}
use Rattle.std.proofs.lemmas.Bool.{eqb-false}
use Rattle.systems.specs.Search.{run}
use Rattle.systems.specs.System.{Alike}
use Rattle.answer_rules.specs.declared.Reason.{Reason}
use Rattle.answer_rules.specs.declared.Reason.TheVariants.{Header, Count, Length, Field, Numbering, Bars}
use Rattle.answer_rules.specs.declared.Reason.TheVariants as Reasons
use Rattle.answer_rules.specs.declared.Refusal.{Refusal}
use Rattle.answer_rules.specs.Refusal.{Checked, at, number_of}
use Rattle.answer_rules.specs.Stages.{and_then, demand, each}
use Rattle.answer_rules.proofs.Stages.{passed, each_first}
use Rattle.model.specs.Chart.{actions_of, blocks_of, record_at, next_in, next_unnamed, chart_system, round_class}
use Rattle.model.proofs.Rounds.{class_own, rounds_alike}
use Rattle.chart_bytes.specs.Header.{mark_check, count_check, length_check, header_check}
use Rattle.chart_form.specs.Form.{target_check, fields_check, limits_check, record_check, order_check, number_check, numbers_check, bar_check, bars_check}
use Rattle.chart.specs.Check.{class_check, classes_check, form_check, chart_check}
use Rattle.chart.specs.Apart.{class_shared}
use Rattle.chart.specs.Accepted.{Formed, form_passed, own_apart, classes_own}

-- two blocks read alike for every sequence
abbrev pub SameReadings : List ℕ → ℕ → ℕ → Type 0
SameReadings c i j = Alike (chart_system c) (chart_system c) i j

-- All before 14 passes, and the record at a place is the first that reads like an earlier one.
pub record Unparted (c : List ℕ) (place : ℕ) : Type 0 where
  pub form : form_check c ≡ Ok tt
  pub earlier : ℕ
  pub later : ℕ
  pub order : earlier < later
  pub there : later < blocks_of c
  pub alike : SameReadings c earlier later
  pub first : (i j : ℕ) → i < j → j < later → SameReadings c i j → ⊥
  pub place_right : place ≡ record_at c later

-- a stage's refusals have numbers below 14
abbrev Below14 : Checked → Type 0
Below14 r = (why : Refusal) → r ≡ Err why → number_of why.reason < 14

below_demand : (t : Bool) (n : Reason) (p : ℕ) → number_of n < 14 → Below14 (demand t (at n p))
unfolding demand
below_demand true n p h why e = absurd cc
below_demand false n p h why e = let z : at n p ≡ why = cc in omega (arith, ap (λ (x : Refusal). number_of x.reason) z)

below_then : (a b : Checked) → Below14 a → Below14 b → Below14 (and_then a b)
unfolding and_then
below_then (Ok _) b p q = q
below_then (Err why) b p q = p

below_each : (f : ℕ → Checked) (n : ℕ) → ((i : ℕ) → Below14 (f i)) → Below14 (each f n)
unfolding run
below_each f zero h = λ why e. absurd cc
below_each f (suc n) h = below_then (each f n) (f n) (below_each f n h) (h n)

form_below : (c : List ℕ) → Below14 (form_check c)
unfolding form_check header_check mark_check count_check length_check limits_check fields_check target_check numbers_check number_check record_check order_check bars_check bar_check
form_below c =
    below_then (header_check c) (and_then (limits_check c) (and_then (numbers_check c) (bars_check c)))
    (below_then (mark_check c) (and_then (count_check c) (length_check c))
    (below_demand _ Header 0 (omega arith))
    (below_then (count_check c) (length_check c) (below_then _ _ (below_demand _ Count 5 (omega arith)) (below_demand _ Count 6 (omega arith))) (below_demand _ Length _ (omega arith))))
    (below_then (limits_check c) (and_then (numbers_check c) (bars_check c))
    (below_each (fields_check c) (blocks_of c)
    (λ i.
    below_then _ (each (target_check c i) (actions_of c)) (below_demand _ Field _ (omega arith)) (below_each (target_check c i) (actions_of c) (λ a. below_demand _ Field _ (omega arith)))))
    (below_then (numbers_check c) (bars_check c)
    (below_each (λ i. number_check c i (next_unnamed c i)) (blocks_of c)
    (λ i.
    below_then (record_check c i (next_unnamed c i)) (each (λ a. order_check c i a (next_in c i (next_unnamed c i) a)) (actions_of c))
    (below_demand _ Numbering _ (omega arith))
    (below_each (λ a. order_check c i a (next_in c i (next_unnamed c i) a)) (actions_of c) (λ a. below_demand _ Numbering _ (omega arith)))))
    (below_each (λ j. each (bar_check c j) j) (blocks_of c) (λ j. below_each (bar_check c j) j (λ i. below_demand _ Bars _ (omega arith))))))

-- where a chain is refused
then_where : (a b : Checked) {why : Refusal} → and_then a b ≡ Err why → (a ≡ Err why) ⊎ ((a ≡ Ok tt) × (b ≡ Err why))
unfolding and_then
then_where (Ok _) b e = inr (refl, e)
then_where (Err why') b e = inl e

-- the first stage that refuses
record First (f : ℕ → Checked) (n : ℕ) (why : Refusal) : Type 0 where
  stage : ℕ
  within : stage < n
  before : each f stage ≡ Ok tt
  refuses : f stage ≡ Err why

each_where : (f : ℕ → Checked) (n : ℕ) {why : Refusal} → each f n ≡ Err why → First f n why
unfolding run
each_where f zero e = absurd cc
each_where f (suc n) e =
    ⊎_elim
    (λ q. let r = each_where f n q in record { stage = r.stage; within = omega (arith, r.within); before = r.before; refuses = r.refuses })
    (λ q. record { stage = n; within = omega arith; before = q.0; refuses = q.1 })
    (then_where (each f n) (f n) e)

demand_where : (t : Bool) (n : Reason) (p : ℕ) {m : Reason} {q : ℕ} → demand t (at n p) ≡ Err (at m q) → (t ≡ false) × (q ≡ p)
unfolding demand
demand_where true n p e = absurd cc
demand_where false n p {m} {q} e = let z : at n p ≡ at m q = cc in (refl, sym (ap (λ (x : Refusal). x.returned) z))

module _ (c : List ℕ) where
  -- no two of the first n blocks read alike exactly where each is the least of its class
  parted : Formed c → (n : ℕ) → n ≤ blocks_of c
      → ((j : ℕ) → j < n → round_class c (blocks_of c) j ≡ j) ↔ ((i j : ℕ) → i < j → j < n → SameReadings c i j → ⊥)
  parted f n b = (
    λ g i j h l r. (own_apart c f.shape.blocks_few f.targets (blocks_of c) n b).0 g i j h l ((rounds_alike c f.shape.blocks_few f.targets i j (omega arith) (omega arith)).1 r),
    λ g.
        (own_apart c f.shape.blocks_few f.targets (blocks_of c) n b).1
        (λ i j h l e. g i j h l ((rounds_alike c f.shape.blocks_few f.targets i j (omega arith) (omega arith)).0 e)),
  )

  -- Refused 14 exactly where two blocks read alike for every sequence; the place is the first byte of the earliest later record.
  pub refused_14 : (p : ℕ) → (chart_check c ≡ Err (at Reasons.Unparted p)) ↔ Unparted c p
  unfolding chart_check classes_check class_check
  refused_14 p = (to, from)
    where
      to : and_then (form_check c) (classes_check c) ≡ Err (at Reasons.Unparted p) → Unparted c p
      to e =
          ⊎_elim
          (λ q. let h = form_below c (at Reasons.Unparted p) q in absurd (omega arith))
          (λ q. found q.0 (each_where (class_check c (round_class c (blocks_of c))) (blocks_of c) q.1))
          (then_where (form_check c) (classes_check c) e)
        where
          found : form_check c ≡ Ok tt → First (class_check c (round_class c (blocks_of c))) (blocks_of c) (at Reasons.Unparted p) → Unparted c p
          found q r =
              let f = form_passed c q in
              let j = r.stage in
              let (s, d) = demand_where (eqb (round_class c (blocks_of c) j) j) Reasons.Unparted (record_at c j) r.refuses in
              let (l, o) = class_own c f.shape.blocks_few f.targets (blocks_of c) j r.within in
              let b : round_class c (blocks_of c) j < j = ⊎_elim (λ e. absurd (eqb-false (round_class c (blocks_of c) j) j s e)) (λ h. h) (eq-or-lt_of_le l) in
              record {
                form = q;
                earlier = round_class c (blocks_of c) j;
                later = j;
                order = b;
                there = r.within;
                alike = (rounds_alike c f.shape.blocks_few f.targets (round_class c (blocks_of c) j) j (omega (arith, r.within)) r.within).0 o;
                first = (parted f j (omega (arith, r.within))).0 ((classes_own c j).0 r.before);
                place_right = d;
              }

      from : Unparted c p → and_then (form_check c) (classes_check c) ≡ Err (at Reasons.Unparted p)
      from u =
          let f = form_passed c u.form in
          let i = u.earlier in
          let j = u.later in
          let h : i < blocks_of c = omega (arith, u.order, u.there) in
          let e = (rounds_alike c f.shape.blocks_few f.targets i j h u.there).1 u.alike in
          let l = (class_own c f.shape.blocks_few f.targets (blocks_of c) i h).0 in
          let n : round_class c (blocks_of c) j ≡ j → ⊥ = λ d. let o = u.order in omega arith in
          let b = (classes_own c j).1 ((parted f j (omega (arith, u.there))).1 u.first) in
          sym
          (passed u.form
          (sym
          (each_first (class_check c (round_class c (blocks_of c))) j (blocks_of c) b
          (class_shared c (round_class c (blocks_of c)) j n u.place_right)
          u.there)))
