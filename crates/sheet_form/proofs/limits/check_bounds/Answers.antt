use mathlib.Core.Path.{◌∙◌}
use native.Mathlib.Omega.{arith}
use Rattle.answer_rules.proofs.Stages.{each_none, loop_stop, loop_more, loop_end, handed_up}
use Rattle.sheet_rules.specs.Layout.{counters_of}
use Rattle.sheet_rules.specs.Form.{check_bound}
use Rattle.sheet_form.proofs.limits.check_bounds.Goals as goal

pub loop-v-init : goal.loop-v-init
loop-v-init c = each_none (check_bound c.args.s.now c.args.i)

pub returns-in_err-check_bound : goal.returns-in_err-check_bound
returns-in_err-check_bound c =
    handed_up c.from_residual.ensures
    ∙ loop_stop (check_bound c.args.s.now c.args.i) c.loop-v.v (counters_of c.args.s.now) c.loop-v.invariant c.check_bound.ensures c.in_err-check_bound.was (omega (arith, c.shape-counters.ensures.read.counters_are))

pub loop-v-preserved : goal.loop-v-preserved
loop-v-preserved c =
    loop_more (check_bound c.args.s.now c.args.i) c.loop-v.v c.loop-v.invariant c.check_bound.ensures c.in_ok-check_bound.was

pub returns : goal.returns
returns c =
    loop_end (check_bound c.args.s.now c.args.i) c.loop-v.v (counters_of c.args.s.now) c.loop-v.invariant (omega (arith, c.shape-counters.ensures.read.counters_are)) (omega (arith, c.shape-counters.ensures.read.counters_are))
