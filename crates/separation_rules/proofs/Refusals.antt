-- What is refused, and in which order, on the bytes of two charts. A refusal changes nothing.
use Rattle.std.specs.Prelude.{◌≡◌, refl, List, ℕ, ◌+◌, ◌≤◌, ◌<◌, eqb, leb, length, Option, Some, None, Ok, Err}
use Rattle.std.proofs.Common.{sym, ap, arith, eq-eqb, ne_eqb, le-leb}
use Rattle.std.proofs.lemmas.Bool.{lt-leb}
use Rattle.answer_rules.specs.declared.Reason.TheVariants.{Room, Actions}
use Rattle.answer_rules.specs.declared.Refusal.{Refusal}
use Rattle.answer_rules.specs.Refusal.{Checked, at}
use Rattle.answer_rules.proofs.Stages.{passed, refused, then_fine, demand_passed, demand_failed}
use Rattle.model.specs.Chart.{actions_of, blocks_of, ChartRules}
use Rattle.chart.specs.Check.{chart_check}
use Rattle.chart.specs.Accepted.{accepted}
use Rattle.separation_rules.specs.Separation.{evidence, largest, capped, raised_by, charts_check, bytes_needed, request_check, pair_check, separated_by, left_by}
use Rattle.separation_rules.specs.Refusals.{answered, left}

-- What a refusal of the second chart returns: the sum where that is a number of 64 bits, else the largest such number.
pub capped_fits : (n : ℕ) → n ≤ largest → capped n ≡ n
unfolding capped
capped_fits n h = rw (le-leb n largest h, capped) refl

pub capped_most : (n : ℕ) → largest < n → capped n ≡ largest
unfolding capped
capped_most n h = rw (lt-leb n largest h, capped) refl

-- a chart whose raised refusal is none passes
raised_passed : (l : ℕ) (c : Checked) → raised_by l c ≡ Ok tt → c ≡ Ok tt
unfolding raised_by
raised_passed l (Ok _) e = refl
raised_passed l (Err why) e = absurd cc

-- charts that pass obey the chart rules
pub charts_rules : (c d : List ℕ) → charts_check c d ≡ Ok tt → ChartRules c × ChartRules d
unfolding charts_check
charts_rules c d e =
    let (p, q) = then_fine (chart_check c) (raised_by (length c) (chart_check d)) e in
    ((accepted c).0 p, (accepted d).0 (raised_passed (length c) (chart_check d) q))

-- a buffer of as many bytes as both charts have blocks, less one
pub needed_is : (c d : List ℕ) → 1 ≤ blocks_of c → bytes_needed c d + 1 ≡ blocks_of c + blocks_of d
unfolding bytes_needed
needed_is c d h = omega arith

-- The refusals in their order: those of the first chart, whatever the second is;
pub first_refused : (c d old : List ℕ) (why : Refusal) → chart_check c ≡ Err why → answered c d old ≡ Err why
unfolding separated_by pair_check charts_check
first_refused c d old why e = sym (ap (λ (x : Checked). separated_by x (evidence c d)) (refused _ (sym (refused _ e))))

-- those of the second, with the number returned raised by the first's length and capped at the largest number of 64 bits;
pub second_refused : (c d old : List ℕ) (why : Refusal) → chart_check c ≡ Ok tt → chart_check d ≡ Err why → answered c d old ≡ Err (at why.reason (capped (why.returned + length c)))
unfolding separated_by pair_check charts_check raised_by
second_refused c d old why a e =
    sym (ap (λ (x : Checked). separated_by x (evidence c d)) (refused _ (sym (passed a (sym (ap (raised_by (length c)) e))))))

-- 16 for different numbers of actions, whatever the buffer is;
pub actions_refused : (c d old : List ℕ) → ChartRules c → ChartRules d → (actions_of c ≡ actions_of d → ⊥) → answered c d old ≡ Err (at Actions 5)
unfolding separated_by pair_check charts_check request_check raised_by
actions_refused c d old R S n =
    let q = ap (raised_by (length c)) ((accepted d).1 S) in
    sym
    (ap (λ (x : Checked). separated_by x (evidence c d))
    (passed (sym (passed ((accepted c).1 R) (sym q)))
    (refused _ (sym (demand_failed (eqb (actions_of c) (actions_of d)) (at Actions 5) (ne_eqb (actions_of c) (actions_of d) n))))))

-- 10 for a buffer of fewer bytes than both charts have blocks, less one, also where the charts are equal.
pub short_refused : (c d old : List ℕ) → ChartRules c → ChartRules d → actions_of c ≡ actions_of d → length old < bytes_needed c d
    → answered c d old ≡ Err (at Room (bytes_needed c d))
unfolding separated_by pair_check charts_check request_check raised_by
short_refused c d old R S e h =
    let q = ap (raised_by (length c)) ((accepted d).1 S) in
    sym
    (ap (λ (x : Checked). separated_by x (evidence c d))
    (passed (sym (passed ((accepted c).1 R) (sym q)))
    (passed (sym (demand_passed (eqb (actions_of c) (actions_of d)) (at Actions 5) (eq-eqb (actions_of c) (actions_of d) e)))
    (demand_failed (leb (bytes_needed c d) (length old)) (at Room (bytes_needed c d)) (lt-leb (bytes_needed c d) (length old) h)))))

-- A refusal changes nothing.
pub refused_leaves : (c d old : List ℕ) (why : Refusal) → answered c d old ≡ Err why → left c d old ≡ old
unfolding separated_by left_by
refused_leaves c d old why e = go (pair_check c d (length old)) (evidence c d) e
  where
    go : (x : Checked) (o : Option (List ℕ)) → separated_by x o ≡ Err why → left_by x o old ≡ old
    go (Ok _) None e = refl
    go (Ok _) (Some w) e = absurd cc
    go (Err why') o e = refl
