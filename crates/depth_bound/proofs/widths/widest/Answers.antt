use native.Mathlib.Omega.{arith}
use Prim.Native.Nat.{◌<◌}
use Rattle.sheet_rules.specs.Layout.{regions_of}
use Rattle.depth_bound.specs.Widths.{box_fits, widened_le, narrow_more, narrow_all}
use Rattle.depth_bound.proofs.widths.widest.Goals as goal

pub loop-i-init : goal.loop-i-init
loop-i-init c = (omega arith, omega arith, λ k h. absurd (omega arith))

pub box_at-requires : goal.box_at-requires
box_at-requires c = omega (arith, c.loop-i-test.true, c.shape-i-end.ensures.read.regions_are)

pub widen-w-requires : goal.widen-w-requires
widen-w-requires c = box_fits c.shape-i-end.ensures.read c.requires c.loop-i.i (omega (arith, c.loop-i-test.true, c.shape-i-end.ensures.read.regions_are)) c.box_at.ensures

pub overflow_step-i : goal.overflow_step-i
overflow_step-i c = omega arith

pub loop-i-smaller : goal.loop-i-smaller
loop-i-smaller c = omega arith

pub loop-i-preserved : goal.loop-i-preserved
loop-i-preserved c =
    let at = c.loop-i in
    let h : at.i < regions_of c.args.s.now = omega (arith, c.loop-i-test.true, c.shape-i-end.ensures.read.regions_are) in
    let F = box_fits c.shape-i-end.ensures.read c.requires at.i h c.box_at.ensures in (
      omega arith,
      omega (arith, widened_le at.w c.box_at.result.ranges at.invariant.1 F, c.widen-w.ensures),
      narrow_more c.shape-i-end.ensures.read at.w at.i h c.box_at.ensures c.widen-w.ensures at.invariant.2,
    )

pub returns : goal.returns
returns c =
    let at = c.loop-i in
    (at.invariant.1, narrow_all c.shape-i-end.ensures.read at.w at.i (omega arith) at.invariant.2)
