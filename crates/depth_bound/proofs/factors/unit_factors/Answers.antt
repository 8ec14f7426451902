use native.Mathlib.Omega.{arith}
use borrow.Author.Tests.{not-true, not-false}
use Rattle.depth_bound.specs.Factors.{below_more, factors_not, factors_unit}
use Rattle.depth_bound.proofs.factors.unit_factors.Goals as goal

pub loop-i-init : goal.loop-i-init
loop-i-init c = (omega arith, λ k h. absurd (omega arith))

pub unit_region-requires : goal.unit_region-requires
unit_region-requires c = omega (arith, c.loop-i-test.true, c.shape-i-end.ensures.read.regions_are)

pub returns-then-not-unit_region : goal.returns-then-not-unit_region
returns-then-not-unit_region c = factors_not c.shape-i-end.ensures.read c.loop-i.i (omega (arith, c.loop-i-test.true, c.shape-i-end.ensures.read.regions_are)) c.unit_region.ensures (not-true _ c.if-not-unit_region.true-raw)

pub overflow_step-i : goal.overflow_step-i
overflow_step-i c = omega arith

pub loop-i-smaller : goal.loop-i-smaller
loop-i-smaller c = omega arith

pub loop-i-preserved : goal.loop-i-preserved
loop-i-preserved c =
    let at = c.loop-i in
    (omega arith, below_more at.i at.invariant.1 (c.unit_region.ensures.yes (not-false _ c.if-not-unit_region.false-raw)))

pub returns : goal.returns
returns c = factors_unit c.shape-i-end.ensures.read c.loop-i.i (omega arith) c.loop-i.invariant.1
