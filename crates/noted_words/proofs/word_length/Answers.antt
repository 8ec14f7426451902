use mathlib.Core.Path.{◌≡◌}
use Prim.Native.Nat.{◌≤◌}
use native.Mathlib.Omega.{arith}
use Rattle.noted_words.proofs.Words.{word_length, word_counted}
use Rattle.noted_words.proofs.word_length.Goals as goal

pub loop-at-init : goal.loop-at-init
loop-at-init c = (omega arith, λ bs. omega arith)

pub offset_bounds-parents-at : goal.offset_bounds-parents-at
offset_bounds-parents-at c = omega (arith, c.well_formed.0.1, c.requires.k_in_bounds, c.loop-at.invariant.0)

pub bounds-parents-at : goal.bounds-parents-at
bounds-parents-at c = omega (arith, c.requires.k_in_bounds, c.loop-at.invariant.0)

pub overflow_cast-at : goal.overflow_cast-at
overflow_cast-at c = omega (arith, c.type_inv.parents c.loop-at.at)

pub overflow_add-steps : goal.overflow_add-steps
overflow_add-steps c = omega (arith, c.requires.k_in_bounds, c.loop-at.invariant.0)

pub loop-at-smaller : goal.loop-at-smaller
loop-at-smaller c =
    let l = c.loop-at in
    omega (arith, c.requires.falling l.at (omega arith) (omega (arith, l.invariant.0)))

pub loop-at-preserved : goal.loop-at-preserved
loop-at-preserved c =
    let l = c.loop-at in
    let F = c.requires.falling in
    let h : l.at ≤ c.args.k = omega (arith, l.invariant.0) in (
      omega (arith, l.invariant.0, F l.at (omega arith) h),
      λ bs. omega (arith, l.invariant.1 bs, word_length c.args.parents.now bs c.args.k l.at F (omega arith) h),
    )

pub returns : goal.returns
returns c =
    let l = c.loop-at in
    let e : l.at ≡ 0 = omega arith in
    λ bs. word_counted c.args.parents.now bs c.args.k l.at l.steps e (l.invariant.1 bs)
