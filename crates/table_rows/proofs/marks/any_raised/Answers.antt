use native.Mathlib.Omega.{arith}
use Rattle.table_rules.proofs.Marks.{below_more, any_here, any_none}
use Rattle.table_rows.proofs.marks.any_raised.Goals as goal

pub loop-b-init : goal.loop-b-init
loop-b-init c = (omega arith, λ b h. absurd (omega arith))

pub overflow_mul-b : goal.overflow_mul-b
overflow_mul-b c = omega arith

pub overflow_add-b : goal.overflow_add-b
overflow_add-b c = omega arith

pub bounds-flags-b : goal.bounds-flags-b
bounds-flags-b c = omega arith

pub returns-then-flags-b-gt0 : goal.returns-then-flags-b-gt0
returns-then-flags-b-gt0 c =
    let at = c.loop-b in
    any_here at.b (omega arith) c.if-flags-b-gt0.true

pub overflow_step-b : goal.overflow_step-b
overflow_step-b c = omega arith

pub loop-b-smaller : goal.loop-b-smaller
loop-b-smaller c = omega arith

pub loop-b-preserved : goal.loop-b-preserved
loop-b-preserved c =
    let start = c.args in
    let at = c.loop-b in
    (omega arith, below_more start.flags.now start.k at.b at.invariant.1 (omega arith))

pub returns : goal.returns
returns c = any_none c.loop-b.b (omega arith) c.loop-b.invariant.1
