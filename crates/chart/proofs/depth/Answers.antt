use mathlib.Core.Path.{refl, sym, ◌∙◌}
use Rattle.answer_rules.proofs.Stages.{handed_up, then_ok, then_err}
use Rattle.chart.specs.Accepted.{form_passed}
use Rattle.chart.specs.Depth.{depth_form, depth_rest}
use Rattle.chart.proofs.depth.Goals as goal

pub returns-in_err-chart : goal.returns-in_err-chart
returns-in_err-chart c =
    handed_up c.from_residual.ensures ∙ depth_form c.args.c.now refl (then_err _ _ (sym c.check_form.ensures.value ∙ c.in_err-chart.was))

pub settle-requires : goal.settle-requires
settle-requires c =
    let k = c.check_form.ensures in
    let w = c.in_ok-chart.was in
    let (p, e) = then_ok _ (sym k.value ∙ w) in
    record { targets_right = rw (sym e) at (form_passed c.args.c.now p).targets; holds = rw (sym e) at (rw w at k.holds) }

pub returns : goal.returns
returns c =
    let (p, e) = then_ok _ (sym c.check_form.ensures.value ∙ c.in_ok-chart.was) in
    depth_rest c.args.c.now refl p (rw e at c.settle.ensures.value)
