use mathlib.Core.Path.{◌≡◌, sym, refl, ◌∙◌}
use Prim.Native.Nat.{◌<◌}
use native.Mathlib.Omega.{arith}
use Rattle.std.specs.Prelude.{Ok}
use Rattle.answer_rules.specs.Stages.{each}
use Rattle.answer_rules.proofs.Stages.{each_none, each_first, each_more, loop_more}
use Rattle.sheet_rules.specs.Layout.{regions_of, actions_of}
use Rattle.sheet_rules.specs.Check.{check_landing}
use Rattle.sheet_regions.proofs.landing.check_landing.Goals as goal

pub regions-init : goal.regions-init
regions-init c = (refl, each_none (λ i. each (check_landing c.args.s.now i) (actions_of c.args.s.now)))

pub loop-a-init : goal.loop-a-init
loop-a-init c = (c.regions.invariant.0, each_none (check_landing c.args.s.now c.regions.i))

pub loop-a-preserved : goal.loop-a-preserved
loop-a-preserved c =
    let at = c.loop-a in
    (at.invariant.0, loop_more (check_landing c.args.s.now c.regions.i) at.a at.invariant.1 c.check_move.ensures c.in_default.is)

pub regions-preserved : goal.regions-preserved
regions-preserved c =
    let s = c.args.s.now in
    let at = c.loop-a in
    let e : at.a ≡ actions_of s = omega (arith, c.shape-shape.ensures.read.actions_are) in
    (at.invariant.0, each_more (λ i. each (check_landing s i) (actions_of s)) c.regions.i c.regions.invariant.1 (rw e at at.invariant.1))

pub returns-in-Err : goal.returns-in-Err
returns-in-Err c =
    let s = c.args.s.now in
    let i = c.regions.i in
    let at = c.loop-a in
    let read = c.shape-shape.ensures.read in
    let h : i < regions_of s = omega (arith, c.regions-test.true, read.regions_are) in
    let k : at.a < actions_of s = omega (arith, c.loop-a-test.true, read.actions_are) in
    let first = each_first (check_landing s i) at.a (actions_of s) at.invariant.1 (sym c.check_move.ensures ∙ c.in-Err.is) k in
    sym (each_first (λ i. each (check_landing s i) (actions_of s)) i (regions_of s) c.regions.invariant.1 first h)

pub returns-after-regions : goal.returns-after-regions
returns-after-regions c =
    let s = c.args.s.now in
    let e : c.regions.i ≡ regions_of s = omega (arith, c.regions-test.false, c.shape-shape.ensures.read.regions_are) in
    c.regions.invariant.0 ∙ sym (rw e at c.regions.invariant.1)
