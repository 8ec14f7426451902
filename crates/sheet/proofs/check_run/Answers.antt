use Rattle.std.proofs.Common.{sym, ap, ◌∙◌}
use Rattle.answer_rules.proofs.Stages.{stop, go_on, handed_up}
use Rattle.answer_rules.specs.Run.{run_checks}
use Rattle.std.specs.Prelude.{ℕ}
use Rattle.sheet_rules.specs.Layout.{actions_of}
use Rattle.sheet_rules.proofs.Accepted.{stages}
use Rattle.sheet_rules.specs.RunSheet.{sheet_run_check}
use Rattle.sheet.proofs.check_run.Goals as goal

pub over-requires : goal.over-requires
over-requires c = (stages c.args.s.now (sym c.check.ensures ∙ c.in_ok-check.was)).shape

pub returns-in_err-check : goal.returns-in_err-check
unfolding sheet_run_check
returns-in_err-check c =
    handed_up c.from_residual.ensures
    ∙ stop _ (c.check.ensures) c.in_err-check.was

pub returns : goal.returns
unfolding sheet_run_check
returns c =
    go_on (c.check.ensures) c.in_ok-check.was
    (c.check_sequence.ensures ∙ ap (λ (n : ℕ). run_checks n c.args.actions.now c.args.room) (c.shape.ensures.read.actions_are ∙ ap actions_of c.over.ensures))
