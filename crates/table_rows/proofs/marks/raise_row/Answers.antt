use native.Mathlib.Omega.{arith}
use Rattle.table_rules.proofs.Marks.{row_none, row_more, row_all}
use Rattle.table_rows.proofs.marks.raise_row.Goals as goal

pub loop-b-init : goal.loop-b-init
loop-b-init c =
    let a = c.args in
    (omega arith, row_none a.flags.now a.k)

pub overflow_mul-flags : goal.overflow_mul-flags
overflow_mul-flags c = omega arith

pub overflow_add-flags : goal.overflow_add-flags
overflow_add-flags c = omega arith

pub bounds-flags-b : goal.bounds-flags-b
bounds-flags-b c = omega (arith, c.loop-b.invariant.1.same_length)

pub overflow_step-b : goal.overflow_step-b
overflow_step-b c = omega arith

pub loop-b-smaller : goal.loop-b-smaller
loop-b-smaller c = omega arith

pub loop-b-preserved : goal.loop-b-preserved
loop-b-preserved c =
    let at = c.loop-b in
    (omega arith, row_more at.b (omega arith) c.requires.k_bound (omega arith) at.invariant.1)

pub returns : goal.returns
returns c = row_all (omega arith) c.loop-b.invariant.1
