use mathlib.Core.Path.{◌∙◌}
use native.Mathlib.Omega.{arith}
use Rattle.answer_rules.proofs.Stages.{each_none, loop_stop, loop_more, loop_end, handed_up}
use Rattle.model.specs.Chart.{blocks_of}
use Rattle.chart_form.specs.Form.{fields_check, limits_check}
use Rattle.chart_form.proofs.limits.check_limits.Goals as goal

pub loop-i-init : goal.loop-i-init
loop-i-init c = each_none (fields_check c.args.c.now)

pub returns-in_err-check_record : goal.returns-in_err-check_record
unfolding limits_check
returns-in_err-check_record c =
    let s = c.args.c.now in
    let l = c.loop-i in
    handed_up c.from_residual.ensures ∙ loop_stop (fields_check s) l.i (blocks_of s) l.invariant c.check_record.ensures c.in_err-check_record.was (omega arith)

pub loop-i-preserved : goal.loop-i-preserved
loop-i-preserved c = loop_more (fields_check c.args.c.now) c.loop-i.i c.loop-i.invariant c.check_record.ensures c.in_ok-check_record.was

pub returns : goal.returns
unfolding limits_check
returns c =
    let s = c.args.c.now in
    loop_end (fields_check s) c.loop-i.i (blocks_of s) c.loop-i.invariant (omega arith) (omega arith)
