-- What the code rests on: from the checks to what the search asks for, and from what it finds to the answer.
use Rattle.std.specs.Prelude.{◌≡◌, List, ℕ, ◌+◌, ◌-◌, ◌≤◌, ◌<◌, eqb, leb, length, min, Option, Some, None, Ok, Err}
use Rattle.std.proofs.Common.{sym, ap, subst, ◌∙◌, arith, ⊎_elim, eqb-true, leb-true}
use Rattle.std.proofs.lemmas.Bool.{cases_lt}
use Rattle.std.specs.Result.{MatchResult, IsErrAnd}
use Rattle.systems.specs.System.{Alike}
use Rattle.answer_rules.specs.declared.Reason.TheVariants.{Room, Actions}
use Rattle.answer_rules.specs.declared.Refusal.{Refusal}
use Rattle.answer_rules.specs.Refusal.{Checked, at}
use Rattle.answer_rules.specs.Stages.{demand}
use Rattle.answer_rules.proofs.Stages.{then_fine, demand_fine}
use Rattle.answer_rules.specs.Run.{overwrite}
use Rattle.model.specs.Chart.{actions_of, blocks_of, chart_system, chart_reading}
use Rattle.model.proofs.Labels.{chart_plain}
use Rattle.chart_bytes.specs.Shape.{Shaped}
use Rattle.chart.specs.Accepted.{rules_shaped}
use Rattle.noted_words.specs.Words.{noted_word}
use Rattle.noted_words.proofs.Words.{word_short}
use Rattle.pair_search.specs.Queue.{Comparable, Noted}
use Rattle.pair_search.specs.Progress.{Finds, separated, equivalent}
use Rattle.separation_rules.specs.Separation.{Separation, evidence, largest, capped, raised_by, charts_check, bytes_needed, request_check, pair_check, separated_by, left_by}
use Rattle.separation_rules.proofs.Refusals.{capped_fits, capped_most, charts_rules}
use Rattle.separation_rules.proofs.Theorems.{evidence_some, evidence_none}

-- a refusal that is raised, as the code finds it
pub raised_most : (n l : ℕ) → min (n + l) largest ≡ capped (n + l)
raised_most n l = ⊎_elim (λ h. omega (arith, capped_most (n + l) h)) (λ h. omega (arith, capped_fits (n + l) h)) (cases_lt largest (n + l))

pub raised_call : (l : ℕ) (a r : Checked) {P : Refusal → Refusal → Type 0} → ((e f : Refusal) → P e f → f ≡ at e.reason (capped (e.returned + l)))
    → MatchResult a (λ x. r ≡ Ok x) (λ e. IsErrAnd r (P e)) → r ≡ raised_by l a
unfolding raised_by
raised_call l (Ok _) r k m = m
raised_call l (Err why) (Err f) k m = ap Err (k why f m)
raised_call l (Err why) (Ok _) k m = absurd m

pub charts_shaped : (c d : List ℕ) {r : Checked} → r ≡ charts_check c d → r ≡ Ok tt → Shaped c × Shaped d
charts_shaped c d e q = let (R, S) = charts_rules c d (sym e ∙ q) in (rules_shaped c R, rules_shaped d S)

-- the request's stages on the numbers that the code reads
pub counts_by : (c d : List ℕ) {x y : ℕ} {r : Checked} → x ≡ actions_of c → y ≡ actions_of d → r ≡ demand (eqb x y) (at Actions 5) → r ≡ demand (eqb (actions_of c) (actions_of d)) (at Actions 5)
counts_by c d p q e = e ∙ (λ i. demand (eqb (p i) (q i)) (at Actions 5))

pub room_by : (c d : List ℕ) (room : ℕ) {x y : ℕ} {r : Checked} → x ≡ blocks_of c → y ≡ blocks_of d → r ≡ demand (leb (x + y - 1) room) (at Room (x + y - 1))
    → r ≡ demand (leb (bytes_needed c d) room) (at Room (bytes_needed c d))
unfolding bytes_needed
room_by c d room p q e = e ∙ (λ i. demand (leb (p i + q i - 1) room) (at Room (p i + q i - 1)))

-- what passed checks say: the charts can be compared, and the buffer has room
pub pair_passed : (c d : List ℕ) (room : ℕ) → pair_check c d room ≡ Ok tt → Comparable c d × (bytes_needed c d ≤ room)
unfolding pair_check request_check
pair_passed c d room e =
    let (a, b) = then_fine (charts_check c d) _ e in
    let (R, S) = charts_rules c d a in
    let (p, q) = then_fine (demand (eqb (actions_of c) (actions_of d)) (at Actions 5)) _ b in (
      record {
        first_shaped = rules_shaped c R;
        second_shaped = rules_shaped d S;
        first_targets = R.targets_right;
        second_targets = S.targets_right;
        first_plain = chart_plain c R;
        second_plain = chart_plain d S;
        same_actions = eqb-true (actions_of c) (actions_of d) (demand_fine _ (at Actions 5) p);
      },
      leb-true (bytes_needed c d) room (demand_fine _ (at Room (bytes_needed c d)) q),
    )

-- what the search has found, by its answer
pub finds_noted : {c d ps bs : List ℕ} {k : ℕ} {r : Option ℕ} → Finds c d ps bs r → r ≡ Some k → Noted c d ps bs k
finds_noted {c} {d} {ps} {bs} {k} (separated {k = j} N) e = let z : j ≡ k = cc in subst (Noted c d ps bs) z N
finds_noted (equivalent A) e = absurd cc

finds_alike : {c d ps bs : List ℕ} {r : Option ℕ} → Finds c d ps bs r → r ≡ None → Alike (chart_system c) (chart_system d) 0 0
finds_alike (separated N) e = absurd cc
finds_alike (equivalent A) e = A

-- and its answer as that of the call
pub told_equal : {c d ps bs : List ℕ} {r : Option ℕ} (old : List ℕ) → Finds c d ps bs r → r ≡ None
    → (◌≡◌ {A = Separation} (Ok None) (separated_by (Ok tt) (evidence c d))) × (old ≡ left_by (Ok tt) (evidence c d) old)
unfolding separated_by left_by chart_reading
told_equal {c} {d} old F e =
    let q = evidence_none c d (finds_alike F e) in
    (ap (separated_by (Ok tt)) (sym q), ap (λ (o : Option (List ℕ)). left_by (Ok tt) o old) (sym q))

-- an entry of the tree has its place in the arrays, and its word in the buffer
pub noted_place : {c d ps bs : List ℕ} {k : ℕ} → Comparable c d → Noted c d ps bs k → k < 510
noted_place C N = omega (arith, N.within, C.first_shaped.blocks_few, C.second_shaped.blocks_few)

pub noted_room : {c d ps bs : List ℕ} {k room : ℕ} → Noted c d ps bs k → bytes_needed c d ≤ room → length (noted_word ps bs k) ≤ room
unfolding bytes_needed
noted_room {c} {d} {ps} {bs} {k} N h = omega (arith, N.within, word_short ps bs k N.falling)

pub told_parted : {c d ps bs : List ℕ} {k l : ℕ} (old : List ℕ) {new : List ℕ} → Noted c d ps bs k → l ≡ length (noted_word ps bs k) → new ≡ overwrite (noted_word ps bs k) old
    → (◌≡◌ {A = Separation} (Ok (Some l)) (separated_by (Ok tt) (evidence c d))) × (new ≡ left_by (Ok tt) (evidence c d) old)
unfolding separated_by left_by chart_reading
told_parted {c} {d} {ps} {bs} {k} {l} old {new} N e h =
    let w = noted_word ps bs k in
    let q =
    evidence_some c d w (record { short = omega (arith, N.within, word_short ps bs k N.falling); of_actions = N.of_actions }) N.separates.parts N.separates.first in
    (ap told e ∙ ap (separated_by (Ok tt)) (sym q), h ∙ ap (λ (o : Option (List ℕ)). left_by (Ok tt) o old) (sym q))
  where
    told : ℕ → Separation
    told n = Ok (Some n)

-- the answer by the checks: passed, and refused
pub call_passed : (c d old new : List ℕ) {r : Separation} {x : Checked} → x ≡ pair_check c d (length old) → x ≡ Ok tt
    → (r ≡ separated_by (Ok tt) (evidence c d)) × (new ≡ left_by (Ok tt) (evidence c d) old)
    → (r ≡ separated_by (pair_check c d (length old)) (evidence c d)) × (new ≡ left_by (pair_check c d (length old)) (evidence c d) old)
call_passed c d old new e q (a, b) =
    let f = sym q ∙ e in
    (a ∙ ap (λ (y : Checked). separated_by y (evidence c d)) f, b ∙ ap (λ (y : Checked). left_by y (evidence c d) old) f)

pub call_refused : (c d old : List ℕ) (why : Refusal) {x : Checked} → x ≡ pair_check c d (length old) → x ≡ Err why
    → (Err why ≡ separated_by (pair_check c d (length old)) (evidence c d)) × (old ≡ left_by (pair_check c d (length old)) (evidence c d) old)
unfolding separated_by left_by
call_refused c d old why e q =
    let f = sym q ∙ e in
    (ap (λ (y : Checked). separated_by y (evidence c d)) f, ap (λ (y : Checked). left_by y (evidence c d) old) f)
