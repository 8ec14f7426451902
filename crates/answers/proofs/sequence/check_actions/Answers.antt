use mathlib.Core.Path.{◌∙◌}
use Rattle.std.proofs.Common.{length}
use native.Mathlib.Omega.{arith}
use Rattle.answer_rules.specs.Sequence.{action_check}
use Rattle.answer_rules.proofs.Stages.{each_none, loop_stop, loop_more, loop_end, handed_up, demand_for}
use Rattle.answers.proofs.sequence.check_actions.Goals as goal

pub loop-i-init : goal.loop-i-init
loop-i-init c = each_none (action_check c.args.count c.args.actions.now)

pub returns-in_err-demanded : goal.returns-in_err-demanded
returns-in_err-demanded c =
    let s = c.args in
    let l = c.loop-i in
    handed_up c.from_residual.ensures
    ∙ loop_stop (action_check s.count s.actions.now) l.i (length s.actions.now) l.invariant (demand_for _ c.demanded.ensures c.at.ensures) c.in_err-demanded.was (omega arith)

pub loop-i-preserved : goal.loop-i-preserved
loop-i-preserved c =
    let s = c.args in
    let l = c.loop-i in
    loop_more (action_check s.count s.actions.now) l.i l.invariant (demand_for _ c.demanded.ensures c.at.ensures) c.in_ok-demanded.was

pub returns : goal.returns
returns c =
    let s = c.args in
    let l = c.loop-i in
    loop_end (action_check s.count s.actions.now) l.i (length s.actions.now) l.invariant (omega arith) (omega arith)
