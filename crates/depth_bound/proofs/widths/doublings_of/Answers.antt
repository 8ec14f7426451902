use mathlib.Core.Path.{refl}
use native.Mathlib.Omega.{arith}
use lib.Pow.{pow_pos}
use Rattle.depth_bound.specs.Widths.{doublings_few, reach_more}
use Rattle.depth_bound.proofs.widths.doublings_of.Goals as goal

pub loop-reach-init : goal.loop-reach-init
loop-reach-init c = (omega arith, refl)

pub overflow_mul-reach : goal.overflow_mul-reach
overflow_mul-reach c = omega arith

pub overflow_add-m : goal.overflow_add-m
overflow_add-m c = omega arith

pub loop-reach-smaller : goal.loop-reach-smaller
loop-reach-smaller c = omega (arith, pow_pos c.loop-reach.m)

pub loop-reach-preserved : goal.loop-reach-preserved
loop-reach-preserved c =
    let at = c.loop-reach in
    (omega (arith, doublings_few at.m at.reach at.invariant.1 (omega arith)), reach_more at.m at.reach at.invariant.1)

pub returns : goal.returns
returns c =
    let at = c.loop-reach in
    (at.invariant.0, omega (arith, at.invariant.1))
