use native.Mathlib.Omega.{arith}
use Rattle.writing.specs.Numbers.{walked_next}
use Rattle.writing.proofs.numbering.number_targets.Goals as goal

pub loop-a-init : goal.loop-a-init
loop-a-init c = (omega arith, c.requires.walked)

pub number_target-c-requires : goal.number_target-c-requires
number_target-c-requires c =
    let at = c.loop-a.invariant in
    record {
      walkable = c.requires.walkable;
      m_lt_n = (c.requires.m_lt_n, c.loop-a-test.true);
      walked = at.1;
    }

pub overflow_step-a : goal.overflow_step-a
overflow_step-a c = omega arith

pub loop-a-smaller : goal.loop-a-smaller
loop-a-smaller c = omega arith

pub loop-a-preserved : goal.loop-a-preserved
loop-a-preserved c = (omega arith, c.number_target-c.ensures)

pub returns : goal.returns
returns c =
    let at = c.loop-a in
    walked_next c.requires.walkable at.order at.number at.c c.args.m at.a c.requires.m_lt_n (omega arith) at.invariant.1
