use native.Mathlib.Omega.{arith}
use borrow.Author.Tests.{not-true, not-false}
use Rattle.depth_bound.specs.Factors.{below_more, move_tells, region_not, region_unit}
use Rattle.depth_bound.proofs.factors.unit_region.Goals as goal

pub loop-a-init : goal.loop-a-init
loop-a-init c = (omega arith, λ k h. absurd (omega arith))

pub move_at-requires : goal.move_at-requires
move_at-requires c = (c.requires, omega (arith, c.loop-a-test.true, c.shape-a-end.ensures.read.actions_are))

pub returns-then-not-unit_move : goal.returns-then-not-unit_move
returns-then-not-unit_move c =
    let at = c.loop-a in
    region_not c.shape-a-end.ensures.read c.args.i at.a c.requires c.loop-a-test.true
    (move_tells c.shape-a-end.ensures.read c.args.i at.a c.move_at.ensures.value c.unit_move.ensures) (not-true _ c.if-not-unit_move.true-raw)

pub overflow_step-a : goal.overflow_step-a
overflow_step-a c = omega arith

pub loop-a-smaller : goal.loop-a-smaller
loop-a-smaller c = omega arith

pub loop-a-preserved : goal.loop-a-preserved
loop-a-preserved c =
    let at = c.loop-a in
    (omega arith, below_more at.a at.invariant.1 ((move_tells c.shape-a-end.ensures.read c.args.i at.a c.move_at.ensures.value c.unit_move.ensures).yes (not-false _ c.if-not-unit_move.false-raw)))

pub returns : goal.returns
returns c = region_unit c.shape-a-end.ensures.read c.args.i c.loop-a.a c.requires (omega arith) c.loop-a.invariant.1
