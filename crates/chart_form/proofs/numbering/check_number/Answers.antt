use mathlib.Core.Path.{◌∙◌}
use Rattle.answer_rules.proofs.Stages.{stop, go_on, handed_up}
use Rattle.chart_form.specs.Form.{number_check}
use Rattle.chart_form.proofs.numbering.check_number.Goals as goal

pub returns-in_err-check_named : goal.returns-in_err-check_named
unfolding number_check
returns-in_err-check_named c = handed_up c.from_residual.ensures ∙ stop _ c.check_named.ensures c.in_err-check_named.was

pub returns : goal.returns
unfolding number_check
returns c = go_on c.check_named.ensures c.in_ok-check_named.was c.check_orders.ensures
