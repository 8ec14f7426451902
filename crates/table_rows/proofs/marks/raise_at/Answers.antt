use native.Mathlib.Omega.{arith}
use Prim.Native.Nat.{◌+◌}
use mathlib.Core.Path.{subst, ◌∙◌}
use lib.ListN.{get_or}
use Rattle.table_rules.specs.Marks.{raised_by, StoredFrom}
use Rattle.table_rules.proofs.Marks.{raised_up, raised_left, stored_none, stored_more}
use Rattle.table_rows.proofs.marks.raise_at.Goals.{else-targets-at, then-targets-at}
use Rattle.table_rows.proofs.marks.raise_at.Goals as goal

pub loop-k-init : goal.loop-k-init
loop-k-init c =
    let a = c.args in
    (omega arith, stored_none (λ j. raised_by (get_or a.targets.now (a.at + j) 0) a.i (get_or a.flags.now (a.at + j) 0)) a.flags.now a.at)

pub overflow_add-old : goal.overflow_add-old
overflow_add-old c = omega arith

pub bounds-flags-at : goal.bounds-flags-at
bounds-flags-at c = omega (arith, c.loop-k.invariant.1.same_length)

pub overflow_add-at : goal.overflow_add-at
overflow_add-at c = omega arith

pub bounds-targets-at : goal.bounds-targets-at
bounds-targets-at c = omega arith

pub overflow_add-flags : goal.overflow_add-flags
overflow_add-flags c = omega arith

pub bounds-flags-at-in-loop-k : goal.bounds-flags-at-in-loop-k
bounds-flags-at-in-loop-k c = omega (arith, c.loop-k.invariant.1.same_length)

pub overflow_step-k : goal.overflow_step-k
overflow_step-k c = omega arith

pub loop-k-smaller : goal.loop-k-smaller
loop-k-smaller c = omega arith

pub loop-k-preserved : goal.loop-k-preserved
loop-k-preserved c =
    let at = c.loop-k in
    let t = get_or c.args.targets.now (c.args.at + at.k) 0 in
    let i = c.args.i in
    let old = get_or c.args.flags.now (c.args.at + at.k) 0 in
    let S = at.invariant.1 in (
      omega arith,
      stored_more at.k c.if-targets-at.new (omega arith) S
          (elim c.if-targets-at.branch [ then-targets-at w ↦ w.new-is ∙ raised_up t i old w.if-targets-at.true | else-targets-at w ↦ w.new-is ∙ S.behind (c.args.at + at.k) (omega arith) ∙ raised_left t i old w.if-targets-at.false ]),
    )

pub shape_of-flags : goal.shape_of-flags
shape_of-flags c = c.loop-k.invariant.1.same_length

pub returns : goal.returns
returns c = subst (StoredFrom _ _ _ c.args.at) (omega arith) c.loop-k.invariant.1
