use native.Mathlib.Omega.{arith}
use Rattle.pair_search.specs.Classes.{merging_begun, merging_more}
use Rattle.pair_search.proofs.classes.merge.Goals as goal

pub offset_bounds-classes-x : goal.offset_bounds-classes-x
offset_bounds-classes-x c = omega arith

pub bounds-classes-x : goal.bounds-classes-x
bounds-classes-x c = omega arith

pub offset_bounds-classes-y : goal.offset_bounds-classes-y
offset_bounds-classes-y c = omega arith

pub bounds-classes-y : goal.bounds-classes-y
bounds-classes-y c = omega arith

pub loop-z-init : goal.loop-z-init
loop-z-init c = (omega arith, merging_begun c.args.classes.now _ _)

pub offset_bounds-classes-z : goal.offset_bounds-classes-z
offset_bounds-classes-z c = omega arith

pub bounds-classes-z : goal.bounds-classes-z
bounds-classes-z c = omega (arith, c.loop-z.invariant.1.same_length)

pub offset_bounds-classes-z-in-loop-z : goal.offset_bounds-classes-z-in-loop-z
offset_bounds-classes-z-in-loop-z c = omega arith

pub bounds-classes-z-in-loop-z : goal.bounds-classes-z-in-loop-z
bounds-classes-z-in-loop-z c = omega (arith, c.loop-z.invariant.1.same_length)

pub loop-z-preserved : goal.loop-z-preserved
loop-z-preserved c =
    let l = c.loop-z in
    (omega arith, merging_more c.moved.result l.invariant.1 (omega (arith, l.invariant.1.same_length)) c.moved.ensures)

pub returns : goal.returns
returns c =
    let l = c.loop-z in
    λ z h. l.invariant.1.done z (omega arith)
