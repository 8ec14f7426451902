use native.Mathlib.Omega.{arith}
use Rattle.table_rules.proofs.Depths.{below_more}
use Rattle.table_rows.proofs.depths.reached_depth.Goals as goal

pub loop-a-init : goal.loop-a-init
loop-a-init c = (omega arith, omega arith, λ b h. absurd (omega arith))

pub overflow_mul-t : goal.overflow_mul-t
overflow_mul-t c = omega arith

pub overflow_add-t : goal.overflow_add-t
overflow_add-t c = omega arith

pub bounds-targets-a : goal.bounds-targets-a
bounds-targets-a c = omega arith

pub overflow_step-a : goal.overflow_step-a
overflow_step-a c = omega arith

pub loop-a-smaller : goal.loop-a-smaller
loop-a-smaller c = omega arith

pub loop-a-preserved : goal.loop-a-preserved
loop-a-preserved c =
    let start = c.args in
    let at = c.loop-a in
    let l = c.shallower-low.ensures.0 in
    (omega arith, omega arith, below_more start.targets.now start.bounds.now start.i at.low at.a c.shallower-low.result at.invariant.2 l c.shallower-low.ensures.1)

pub returns : goal.returns
returns c = (c.loop-a.invariant.1, λ b h. c.loop-a.invariant.2 b (omega arith))
