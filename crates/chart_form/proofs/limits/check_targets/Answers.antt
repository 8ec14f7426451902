use mathlib.Core.Path.{◌∙◌}
use native.Mathlib.Omega.{arith}
use Rattle.answer_rules.proofs.Stages.{each_none, loop_stop, loop_more, loop_end, handed_up}
use Rattle.model.specs.Chart.{actions_of}
use Rattle.chart_form.specs.Form.{target_check}
use Rattle.chart_form.proofs.limits.check_targets.Goals as goal

pub loop-a-init : goal.loop-a-init
loop-a-init c = each_none (target_check c.args.c.now c.args.i)

pub returns-in_err-check_target : goal.returns-in_err-check_target
returns-in_err-check_target c =
    let s = c.args in
    let l = c.loop-a in
    handed_up c.from_residual.ensures
    ∙ loop_stop (target_check s.c.now s.i) l.a (actions_of s.c.now) l.invariant c.check_target.ensures c.in_err-check_target.was (omega arith)

pub loop-a-preserved : goal.loop-a-preserved
loop-a-preserved c = loop_more (target_check c.args.c.now c.args.i) c.loop-a.a c.loop-a.invariant c.check_target.ensures c.in_ok-check_target.was

pub returns : goal.returns
returns c =
    let s = c.args in
    loop_end (target_check s.c.now s.i) c.loop-a.a (actions_of s.c.now) c.loop-a.invariant (omega arith) (omega arith)
