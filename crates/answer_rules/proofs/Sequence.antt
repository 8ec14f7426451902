-- The checks of a run on its action sequence and its buffer, as the code makes them.
use Rattle.std.specs.Prelude.{◌≡◌, List, ℕ, ◌+◌, ◌≤◌, ◌<◌, ltb, leb, length, get_or, Ok, Err}
use Rattle.std.proofs.Common.{sym, ◌∙◌, lt-ltb, le-ltb, le-leb, ltb-true, leb-true}
use Rattle.std.proofs.lemmas.Bool.{lt-leb}
use Rattle.answer_rules.specs.declared.Reason.TheVariants.{Length, Room, Action}
use Rattle.answer_rules.specs.declared.Refusal.{Refusal}
use Rattle.answer_rules.specs.Refusal.{Checked, at}
use Rattle.answer_rules.specs.Stages.{and_then, demand, each}
use Rattle.answer_rules.proofs.Stages.{passed, refused, handed, then_fine, demand_fine, each_fine, demand_passed, demand_failed}
use Rattle.answer_rules.specs.Run.{run_checks}
use Rattle.answer_rules.specs.Sequence.{action_check, Runs}

pub action_good : (count : ℕ) (w : List ℕ) (i : ℕ) → get_or w i 0 < count → action_check count w i ≡ Ok tt
action_good count w i h = sym (demand_passed _ (at Action i) (lt-ltb (get_or w i 0) count h))

pub action_bad : (count : ℕ) (w : List ℕ) (i : ℕ) → count ≤ get_or w i 0 → action_check count w i ≡ Err (at Action i)
action_bad count w i h = sym (demand_failed _ _ (le-ltb (get_or w i 0) count h))

-- the sequence's length, its actions, the buffer
pub sequence_long : (count : ℕ) (w : List ℕ) (room : ℕ) → 4096 < length w → Err (at Length (length w)) ≡ run_checks count w room
unfolding run_checks
sequence_long count w room h =
    refused _ (sym (demand_failed (leb (length w) 4096) (at Length (length w)) (lt-leb (length w) 4096 h)))

pub sequence_wrong : (count : ℕ) (w : List ℕ) (room : ℕ) {r : Checked} {why : Refusal} → length w ≤ 4096 → r ≡ each (action_check count w) (length w)
    → r ≡ Err why → r ≡ run_checks count w room
unfolding run_checks
sequence_wrong count w room h e q =
    passed (sym (demand_passed _ (at Length (length w)) (le-leb (length w) 4096 h)))
    (e ∙ handed (demand (leb (length w + 1) room) (at Room (length w + 1))) (sym e ∙ q))

pub sequence_short : (count : ℕ) (w : List ℕ) (room : ℕ) {r : Checked} → length w ≤ 4096 → r ≡ each (action_check count w) (length w) → r ≡ Ok tt
    → room < length w + 1 → Err (at Room (length w + 1)) ≡ run_checks count w room
unfolding run_checks
sequence_short count w room h e q l =
    passed (sym (demand_passed _ (at Length (length w)) (le-leb (length w) 4096 h))) (passed (sym e ∙ q) (demand_failed _ _ (lt-leb (length w + 1) room l)))

pub sequence_good : (count : ℕ) (w : List ℕ) (room : ℕ) {r : Checked} → length w ≤ 4096 → r ≡ each (action_check count w) (length w) → r ≡ Ok tt
    → length w + 1 ≤ room → Ok tt ≡ run_checks count w room
unfolding run_checks
sequence_good count w room h e q l =
    passed (sym (demand_passed _ (at Length (length w)) (le-leb (length w) 4096 h))) (passed (sym e ∙ q) (demand_passed _ (at Room (length w + 1)) (le-leb (length w + 1) room l)))

pub sequence_passed : (count : ℕ) (w : List ℕ) (room : ℕ) → run_checks count w room ≡ Ok tt → Runs count w room
unfolding run_checks
sequence_passed count w room e =
    let (p, q) =
    then_fine (demand (leb (length w) 4096) (at Length (length w)))
    (and_then (each (action_check count w) (length w)) (demand (leb (length w + 1) room) (at Room (length w + 1)))) e in
    let (r, s) = then_fine (each (action_check count w) (length w)) (demand (leb (length w + 1) room) (at Room (length w + 1))) q in
    record {
      short = leb-true (length w) 4096 (demand_fine (leb (length w) 4096) (at Length (length w)) p);
      actions = λ i h. ltb-true (get_or w i 0) count (demand_fine (ltb (get_or w i 0) count) (at Action i) (each_fine (action_check count w) (length w) r i h));
      fits = leb-true (length w + 1) room (demand_fine (leb (length w + 1) room) (at Room (length w + 1)) s);
    }
