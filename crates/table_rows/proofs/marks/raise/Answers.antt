use native.Mathlib.Omega.{arith}
use mathlib.Core.Path.{subst}
use Rattle.table_rules.specs.Marks.{RaisedTo}
use Rattle.table_rules.proofs.Marks.{raised_none, raised_more}
use Rattle.table_rows.proofs.marks.raise.Goals as goal

pub loop-b-init : goal.loop-b-init
loop-b-init c =
    let a = c.args in
    (omega arith, raised_none a.targets.now a.i a.from a.n a.flags.now)

pub overflow_mul-b : goal.overflow_mul-b
overflow_mul-b c = omega arith

pub overflow_add-b : goal.overflow_add-b
overflow_add-b c = omega arith

pub overflow_sub-n : goal.overflow_sub-n
overflow_sub-n c = omega arith

pub raise_at-requires : goal.raise_at-requires
raise_at-requires c = record { n_in_bounds = omega (arith, c.loop-b.invariant.1.same_length); n_in_bounds_2 = omega (arith, c.loop-b.invariant.1.same_length) }

pub overflow_step-b : goal.overflow_step-b
overflow_step-b c = omega arith

pub loop-b-smaller : goal.loop-b-smaller
loop-b-smaller c = omega arith

pub loop-b-preserved : goal.loop-b-preserved
loop-b-preserved c =
    let at = c.loop-b in
    (omega arith, raised_more at.b (omega arith) (omega arith) at.invariant.1 c.raise_at.ensures)

pub returns : goal.returns
returns c =
    let start = c.args in
    subst (RaisedTo start.targets.now start.i start.from start.n start.flags.now c.loop-b.flags) (omega arith) c.loop-b.invariant.1
