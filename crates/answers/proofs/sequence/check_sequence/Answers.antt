use Rattle.std.proofs.Common.{◌∙◌}
use Rattle.answer_rules.proofs.Stages.{stop, go_on, handed_up, demand_for}
use Rattle.answer_rules.specs.Run.{run_checks}
use Rattle.answers.proofs.sequence.check_sequence.Goals as goal

pub returns-in_err-demanded : goal.returns-in_err-demanded
unfolding run_checks
returns-in_err-demanded c = handed_up c.from_residual.ensures ∙ stop _ (demand_for _ c.demanded.ensures c.at.ensures) c.in_err-demanded.was

pub returns-in_err-check_actions : goal.returns-in_err-check_actions
unfolding run_checks
returns-in_err-check_actions c =
    handed_up c.from_residual-in_err-check_actions.ensures
    ∙ go_on (demand_for _ c.demanded.ensures c.at.ensures) c.in_ok-demanded.was (stop _ c.check_actions.ensures c.in_err-check_actions.was)

pub returns : goal.returns
unfolding run_checks
returns c =
    go_on
    (demand_for _ c.demanded.ensures c.at.ensures)
    c.in_ok-demanded.was
    (go_on c.check_actions.ensures c.in_ok-check_actions.was (demand_for _ c.demanded-2.ensures c.at-2.ensures))
