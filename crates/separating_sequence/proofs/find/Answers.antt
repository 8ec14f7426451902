use mathlib.Core.Path.{sym, ◌∙◌}
use lib.ListN.{length}
use Rattle.answer_rules.proofs.Stages.{handed_up}
use Rattle.separating_sequence.specs.Machine.{pair_passed, call_passed, call_refused}
use Rattle.separating_sequence.proofs.find.Goals as goal

pub returns-in_err-check_pair : goal.returns-in_err-check_pair
returns-in_err-check_pair c =
    let s = c.args in
    let k = call_refused s.first.now s.second.now s.actions.now _ c.check_pair.ensures c.in_err-check_pair.was in
    record { value = handed_up c.from_residual.ensures ∙ k.0; actions_after = k.1 }

pub over-c-requires : goal.over-c-requires
over-c-requires c =
    let s = c.args in
    (pair_passed s.first.now s.second.now (length s.actions.now) (sym c.check_pair.ensures ∙ c.in_ok-check_pair.was)).0.first_shaped

pub over-d-requires : goal.over-d-requires
over-d-requires c =
    let s = c.args in
    (pair_passed s.first.now s.second.now (length s.actions.now) (sym c.check_pair.ensures ∙ c.in_ok-check_pair.was)).0.second_shaped

pub separate-requires : goal.separate-requires
separate-requires c =
    let s = c.args in
    let k = pair_passed s.first.now s.second.now (length s.actions.now) (sym c.check_pair.ensures ∙ c.in_ok-check_pair.was) in
    let e = c.over-c.ensures in
    let f = c.over-d.ensures in
    record { comparable = rw (sym e, sym f) at k.0; d_in_bounds = rw (sym e, sym f) at k.1 }

pub returns : goal.returns
returns c =
    let s = c.args in
    let e = c.over-c.ensures in
    let f = c.over-d.ensures in
    let v = rw (e, f) at c.separate.ensures.value in
    let a = rw (e, f) at c.separate.ensures.actions_after in
    let k = call_passed s.first.now s.second.now s.actions.now _ c.check_pair.ensures c.in_ok-check_pair.was (v, a) in
    record { value = k.0; actions_after = k.1 }
