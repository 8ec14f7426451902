-- What is promised of every call, on the bytes of two charts: when they are called equal, and when a sequence is given and what is then written. What is refused
-- is in Refusals.antt.
use Rattle.std.specs.Prelude.{◌≡◌, refl, List, ℕ, eqb, leb, length, take, drop, Option, Some, None, Ok, Err}
use Rattle.std.proofs.Common.{sym, ap, subst, ◌∙◌, take_at, drop_at, eq-eqb, le-leb, leb-true, eqb-true}
use Rattle.integers.specs.LittleEndian.{Bytes}
use Rattle.answer_rules.specs.declared.Reason.TheVariants.{Room, Actions}
use Rattle.answer_rules.specs.Refusal.{Checked, at}
use Rattle.answer_rules.specs.Stages.{demand}
use Rattle.answer_rules.proofs.Stages.{passed, then_fine, demand_fine, demand_passed}
use Rattle.answer_rules.specs.Run.{overwrite}
use Rattle.model.specs.Chart.{actions_of, chart_reading}
use Rattle.chart.specs.Accepted.{accepted}
use Rattle.separation_rules.specs.Separation.{evidence, raised_by, charts_check, bytes_needed, request_check, pair_check, separated_by, left_by, EqualBehaviour, IsEvidence}
use Rattle.separation_rules.specs.Refusals.{answered, left}
use Rattle.separation_rules.proofs.Refusals.{charts_rules}
use Rattle.separation_rules.specs.Theorems.{Judges, parted}
use Rattle.separation_rules.proofs.Theorems.{evidence_judges, evidence_none, none_equal, equal_bytes}
use Rattle.separation_rules.specs.Answered.{Asked, SaysEqual, SaysParted}

pub asked_fine : (c d : List ℕ) (room : ℕ) → Asked c d room → pair_check c d room ≡ Ok tt
unfolding pair_check charts_check request_check raised_by
asked_fine c d room A =
    let p = (accepted c).1 A.first_rules in
    let q = ap (raised_by (length c)) ((accepted d).1 A.second_rules) in
    sym
    (passed (sym (passed p (sym q)))
    (passed (sym (demand_passed (eqb (actions_of c) (actions_of d)) (at Actions 5) (eq-eqb (actions_of c) (actions_of d) A.same_actions)))
    (demand_passed (leb (bytes_needed c d) room) (at Room (bytes_needed c d)) (le-leb (bytes_needed c d) room A.fits))))

fine_asked : (c d : List ℕ) (room : ℕ) → pair_check c d room ≡ Ok tt → Asked c d room
unfolding pair_check request_check
fine_asked c d room e =
    let (a, b) = then_fine (charts_check c d) _ e in
    let (R, S) = charts_rules c d a in
    let (p, q) = then_fine (demand (eqb (actions_of c) (actions_of d)) (at Actions 5)) _ b in
    record {
      first_rules = R;
      second_rules = S;
      same_actions = eqb-true (actions_of c) (actions_of d) (demand_fine _ (at Actions 5) p);
      fits = leb-true (bytes_needed c d) room (demand_fine _ (at Room (bytes_needed c d)) q);
    }

equal_none : (x : Checked) (o : Option (List ℕ)) → separated_by x o ≡ Ok None → (x ≡ Ok tt) × (o ≡ None)
unfolding separated_by
equal_none (Ok _) None e = (refl, refl)
equal_none (Ok _) (Some w) e = absurd cc
equal_none (Err why) o e = absurd cc

parted_some : (x : Checked) (o : Option (List ℕ)) (l : ℕ) → separated_by x o ≡ Ok (Some l) → (x ≡ Ok tt) × (w : List ℕ) × (o ≡ Some w) × (length w ≡ l)
unfolding separated_by
parted_some (Ok _) None l e = absurd cc
parted_some (Ok _) (Some w) l e = (refl, w, refl, (cc))
parted_some (Err why) o l e = absurd cc

-- "Equal" is said only of charts that are equal in behaviour, and so byte for byte.
pub equal_answers : (c d old : List ℕ) → Bytes c → Bytes d → answered c d old ≡ Ok None → SaysEqual c d old (left c d old)
unfolding left_by
equal_answers c d old B D e =
    let (x, o) = equal_none (pair_check c d (length old)) (evidence c d) e in
    let A = fine_asked c d (length old) x in
    let h = none_equal c d A.first_rules A.second_rules A.same_actions o in
    record {
      asked = A;
      behave = h;
      bytes = (equal_bytes c d A.first_rules A.second_rules A.same_actions B D).0 h;
      unchanged = λ i. left_by (x i) (o i) old;
    }

-- A sequence that is given is the evidence.
pub parted_answers : (c d old : List ℕ) (l : ℕ) → answered c d old ≡ Ok (Some l) → SaysParted c d l old (left c d old)
unfolding left_by overwrite
parted_answers c d old l e =
    let (x, w, o, n) = parted_some (pair_check c d (length old)) (evidence c d) l e in
    let A = fine_asked c d (length old) x in
    let J = subst (Judges c d) o (evidence_judges c d A.first_rules A.second_rules A.same_actions) in
    let t : left c d old ≡ overwrite w old = λ i. left_by (x i) (o i) old in
    let q : w ≡ take l (left c d old) = sym (ap (take l) t ∙ take_at w (drop (length w) old) l n) in
    record {
      asked = A;
      long = ap length (sym q) ∙ n;
      given = subst (IsEvidence c d) q (is_evidence J);
      behind = ap (drop l) t ∙ drop_at w (drop (length w) old) l n ∙ ap (λ (m : ℕ). drop m old) n;
    }
  where
    is_evidence : {w : List ℕ} → Judges c d (Some w) → IsEvidence c d w
    is_evidence (parted I) = I

-- Of charts that are asked about as they should be: they are called equal whenever they are equal in behaviour, as they are where their bytes are equal;
pub equal_given : (c d old : List ℕ) → Asked c d (length old) → EqualBehaviour c d → answered c d old ≡ Ok None
unfolding separated_by
equal_given c d old A h = λ i. separated_by (asked_fine c d (length old) A i) (evidence_none c d h i)

pub bytes_given : (c old : List ℕ) → Asked c c (length old) → answered c c old ≡ Ok None
bytes_given c old A = equal_given c c old A (λ w. refl)

-- and a sequence is given whenever one parts them.
pub parted_given : (c d old v : List ℕ) → Asked c d (length old) → (chart_reading c v ≡ chart_reading d v → ⊥) → (l : ℕ) × (answered c d old ≡ Ok (Some l))
unfolding separated_by
parted_given c d old v A n = go (evidence c d) refl
  where
    go : (o : Option (List ℕ)) → evidence c d ≡ o → (l : ℕ) × (answered c d old ≡ Ok (Some l))
    go None q = absurd (n (none_equal c d A.first_rules A.second_rules A.same_actions q v))
    go (Some w) q = (length w, λ i. separated_by (asked_fine c d (length old) A i) (q i))
