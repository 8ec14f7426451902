use mathlib.Core.Path.{◌∙◌}
use lib.Dec.{ltb}
use Rattle.answer_rules.specs.declared.Reason.TheVariants.{Field}
use Rattle.answer_rules.proofs.Stages.{stop, go_on, handed_up, demand_for, demand_at}
use Rattle.chart_form.specs.Form.{fields_check}
use Rattle.chart_form.proofs.limits.check_record.Goals as goal

pub returns-in_err-demanded : goal.returns-in_err-demanded
unfolding fields_check
returns-in_err-demanded c =
    handed_up c.from_residual.ensures
    ∙ stop _ (demand_at (λ l. ltb l 65535) Field c.label.ensures c.record_at.ensures.value (demand_for _ c.demanded.ensures c.at.ensures)) c.in_err-demanded.was

pub returns : goal.returns
unfolding fields_check
returns c =
    go_on
    (demand_at (λ l. ltb l 65535) Field c.label.ensures c.record_at.ensures.value (demand_for _ c.demanded.ensures c.at.ensures))
    c.in_ok-demanded.was
    c.check_targets.ensures
