use native.Mathlib.Omega.{arith}
use Rattle.writing.specs.Numbers.{walked_first, walked_done}
use Rattle.writing.proofs.numbering.number_rows.Goals as goal

pub bounds-order-0 : goal.bounds-order-0
bounds-order-0 c = omega arith

pub bounds-number-0 : goal.bounds-number-0
bounds-number-0 c = omega arith

pub loop-m-init : goal.loop-m-init
loop-m-init c =
    let order = c.args.order.now in
    let number = c.args.number.now in (
      omega arith,
      walked_first c.requires.walkable order number (omega arith) (omega arith) c.requires.unnumbered,
    )

pub number_targets-c-requires : goal.number_targets-c-requires
number_targets-c-requires c =
    let at = c.loop-m.invariant in
    record { walkable = c.requires.walkable; m_lt_n = c.loop-m-test.true; walked = at.1 }

pub overflow_step-m : goal.overflow_step-m
overflow_step-m c = omega arith

pub loop-m-smaller : goal.loop-m-smaller
loop-m-smaller c = omega arith

pub loop-m-preserved : goal.loop-m-preserved
loop-m-preserved c = (omega arith, c.number_targets-c.ensures)

pub returns : goal.returns
returns c =
    let at = c.loop-m in
    walked_done c.requires.walkable at.order at.number at.c at.m (omega arith) at.invariant.1
