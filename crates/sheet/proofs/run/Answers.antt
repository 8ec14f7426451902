use Rattle.std.specs.Prelude.{length}
use Rattle.std.proofs.Common.{sym, ◌∙◌}
use Rattle.answer_rules.proofs.Stages.{handed_up}
use Rattle.answer_rules.proofs.Walk.{run_done, run_refused}
use Rattle.model.specs.Sheet.{sheet_reading}
use Rattle.sheet_rules.specs.Decode.{decode}
use Rattle.sheet_rules.proofs.Accepted.{stages}
use Rattle.sheet.specs.Walk.{run_passed}
use Rattle.sheet_rules.specs.RunSheet.{sheet_ran, sheet_left}
use Rattle.sheet.proofs.run.Goals as goal

pub returns-in_err-check_run-clause-value : goal.returns-in_err-check_run-clause-value
unfolding sheet_ran
returns-in_err-check_run-clause-value c =
    handed_up c.from_residual.ensures
    ∙ (run_refused (sheet_reading (decode c.args.s.now) c.args.actions.now) c.args.entries.now (sym c.check_run.ensures ∙ c.in_err-check_run.was)).0

pub returns-in_err-check_run-clause-entries_after : goal.returns-in_err-check_run-clause-entries_after
unfolding sheet_left
returns-in_err-check_run-clause-entries_after c =
    (run_refused (sheet_reading (decode c.args.s.now) c.args.actions.now) c.args.entries.now (sym c.check_run.ensures ∙ c.in_err-check_run.was)).1

pub over-requires : goal.over-requires
over-requires c =
    let p = run_passed c.args.s.now c.args.actions.now (length c.args.entries.now) (sym c.check_run.ensures ∙ c.in_ok-check_run.was) in
    (stages c.args.s.now p.0).shape

pub walk-requires-clause-s_value : goal.walk-requires-clause-s_value
walk-requires-clause-s_value c = rw c.over.ensures (run_passed c.args.s.now c.args.actions.now (length c.args.entries.now) (sym c.check_run.ensures ∙ c.in_ok-check_run.was)).0

pub walk-requires-clause-by_index : goal.walk-requires-clause-by_index
walk-requires-clause-by_index c = rw c.over.ensures (run_passed c.args.s.now c.args.actions.now (length c.args.entries.now) (sym c.check_run.ensures ∙ c.in_ok-check_run.was)).1.actions

pub walk-requires-clause-actions_in_bounds : goal.walk-requires-clause-actions_in_bounds
walk-requires-clause-actions_in_bounds c = (run_passed c.args.s.now c.args.actions.now (length c.args.entries.now) (sym c.check_run.ensures ∙ c.in_ok-check_run.was)).1.fits

pub returns-clause-value : goal.returns-clause-value
unfolding sheet_ran
returns-clause-value c =
    (run_done (sheet_reading (decode c.args.s.now) c.args.actions.now) c.args.entries.now (sym c.check_run.ensures ∙ c.in_ok-check_run.was) (rw c.over.ensures at c.walk.ensures.value) (rw c.over.ensures at c.walk.ensures.entries_after)).0

pub returns-clause-entries_after : goal.returns-clause-entries_after
unfolding sheet_left
returns-clause-entries_after c =
    (run_done (sheet_reading (decode c.args.s.now) c.args.actions.now) c.args.entries.now (sym c.check_run.ensures ∙ c.in_ok-check_run.was) (rw c.over.ensures at c.walk.ensures.value) (rw c.over.ensures at c.walk.ensures.entries_after)).1
