use Rattle.std.proofs.Common.{◌∙◌}
use Rattle.answer_rules.proofs.Stages.{stop, go_on, handed_up, demand_for}
use Rattle.access_rules.specs.Access.{request_checks}
use Rattle.access_sequence.proofs.check_request.Goals as goal

pub returns-in_err-demanded : goal.returns-in_err-demanded
unfolding request_checks
returns-in_err-demanded c =
    handed_up c.from_residual.ensures
    ∙ stop _ (demand_for _ c.demanded.ensures c.at.ensures) c.in_err-demanded.was

pub returns : goal.returns
unfolding request_checks
returns c =
    go_on (demand_for _ c.demanded.ensures c.at.ensures) c.in_ok-demanded.was
    (demand_for _ c.demanded-2.ensures c.at-2.ensures)
