use Rattle.std.proofs.Common.{◌∙◌}
use Rattle.answer_rules.proofs.Stages.{stop, go_on, handed_up}
use Rattle.sheet_rules.specs.Form.{check_limits}
use Rattle.sheet_form.proofs.limits.check_limits.Goals as goal

pub returns-in_err-check_values : goal.returns-in_err-check_values
unfolding check_limits
returns-in_err-check_values c =
    handed_up c.from_residual.ensures
    ∙ stop _ c.check_values.ensures c.in_err-check_values.was

pub returns : goal.returns
unfolding check_limits
returns c =
    go_on c.check_values.ensures c.in_ok-check_values.was
    c.check_regions.ensures
