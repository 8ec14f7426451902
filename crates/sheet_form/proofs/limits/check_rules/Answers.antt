use mathlib.Core.Path.{◌∙◌}
use native.Mathlib.Omega.{arith}
use Rattle.answer_rules.proofs.Stages.{each_none, loop_stop, loop_more, loop_end, handed_up}
use Rattle.sheet_form.specs.Limits.{check_one}
use Rattle.sheet_form.proofs.limits.check_rules.Goals as goal

pub loop-v-init : goal.loop-v-init
loop-v-init c = each_none (check_one c.args.counters c.args.most c.args.part.now c.args.place)

pub returns-in_err-check_one : goal.returns-in_err-check_one
returns-in_err-check_one c =
    handed_up c.from_residual.ensures
    ∙ loop_stop (check_one c.args.counters c.args.most c.args.part.now c.args.place) c.loop-v.v (c.args.counters) c.loop-v.invariant c.check_one.ensures c.in_err-check_one.was (omega arith)

pub loop-v-preserved : goal.loop-v-preserved
loop-v-preserved c =
    loop_more (check_one c.args.counters c.args.most c.args.part.now c.args.place) c.loop-v.v c.loop-v.invariant c.check_one.ensures c.in_ok-check_one.was

pub returns : goal.returns
returns c =
    loop_end (check_one c.args.counters c.args.most c.args.part.now c.args.place) c.loop-v.v (c.args.counters) c.loop-v.invariant (omega arith) (omega arith)
