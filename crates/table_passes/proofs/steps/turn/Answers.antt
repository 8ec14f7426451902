use native.Mathlib.Omega.{arith}
use mathlib.Core.Path.{refl}
use Rattle.table_passes.specs.State.{actions_few}
use Rattle.table_passes.specs.Steps.{turning_same, turned, turned_new}
use Rattle.table_passes.proofs.steps.turn.Goals as goal

pub step-requires-clause-i_lt_n : goal.step-requires-clause-i_lt_n
step-requires-clause-i_lt_n c = (c.requires.i_lt_n, omega (arith, c.loop-a-test.true, c.shape-actions.ensures.read.actions_are))

pub returns-then-rows-n : goal.returns-then-rows-n
returns-then-rows-n c =
    let (x, T) = c.loop-a.invariant in
    turned_new T (c.step.ensures.rows _ c.in_ok-rows.was) c.if-rows-n.true

pub loop-a-preserved : goal.loop-a-preserved
loop-a-preserved c =
    let (x, T) = c.loop-a.invariant in
    (omega arith, turning_same c.requires.i_lt_n (omega (arith, c.loop-a-test.true, c.shape-actions.ensures.read.actions_are)) (actions_few c.requires.ready) T (c.step.ensures.rows _ c.in_ok-rows.was) c.if-rows-n.false)

pub returns : goal.returns
returns c =
    let (x, T) = c.loop-a.invariant in
    turned c.requires.ready T (omega (arith, c.shape-actions.ensures.read.actions_are)) c.deepen.new.bounds c.requires.state c.requires.i_lt_n refl (omega (arith, c.deepen.ensures.bounds_room, T.state.bounds_room)) (rw c.shape-actions.ensures.read.actions_are at c.deepen.ensures.deepened)
