use native.Mathlib.Omega.{arith}
use Prim.Native.Nat.{ℕ}
use mathlib.Core.Path.{ap, ◌∙◌}
use Rattle.depth_bound.specs.Depth.{exact_depth}
use Rattle.sheet_bytes.specs.Three.{shape_is}
use Rattle.table_passes.specs.Steps.{stable_many, stable_now}
use Rattle.table_passes.specs.Passes.{sweeping_first, sweeping_exact, sweeping_sure, sweeping_many, sweeping_less, sweeping_on}
use Rattle.minimize.proofs.table.stabilize.Goals as goal

pub loop-last-init : goal.loop-last-init
loop-last-init c = sweeping_first c.requires.ready c.args.m c.requires.state

pub returns-then-before-exact_depth : goal.returns-then-before-exact_depth
returns-then-before-exact_depth c =
    let e = c.exact_depth.ensures ∙ ap (λ (k : ℕ). exact_depth k c.loop-last.n c.args.m) c.shape-shape.ensures.read.counters_are in
    let l = c.if-before-exact_depth.true in
    stable_many (sweeping_exact c.requires.ready c.loop-last.invariant (rw (shape_is c.shape-shape.ensures.read) at c.last_raised.ensures) c.in-Some.is (omega (arith, e, l)))

pub returns-then-before-gt254 : goal.returns-then-before-gt254
returns-then-before-gt254 c =
    let R = c.requires.ready in
    let Q = c.loop-last.invariant in
    stable_many (sweeping_many R Q (sweeping_sure R Q c.sure_depth-before.ensures) (c.sweep.ensures.rows _ c.in_ok-rows.was) c.if-rows-n.true c.if-before-gt254.true)

pub loop-last-smaller : goal.loop-last-smaller
loop-last-smaller c =
    let R = c.requires.ready in
    let Q = c.loop-last.invariant in
    sweeping_less R Q (sweeping_sure R Q c.sure_depth-before.ensures) (c.sweep.ensures.rows _ c.in_ok-rows.was) (rw (shape_is c.shape-shape.ensures.read) at c.last_raised.ensures) c.in-Some.is

pub loop-last-preserved : goal.loop-last-preserved
loop-last-preserved c =
    let R = c.requires.ready in
    let Q = c.loop-last.invariant in
    let (small, G) = c.requires.m_bound in
    sweeping_on R Q (sweeping_sure R Q c.sure_depth-before.ensures) (c.sweep.ensures.rows _ c.in_ok-rows.was) G (λ l. omega (arith, l)) c.depth_after-depth.ensures

pub returns : goal.returns
returns c =
    stable_now c.loop-last.invariant.state (rw (shape_is c.shape-shape.ensures.read) at c.last_raised.ensures) c.in_default.is
