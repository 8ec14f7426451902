use native.Mathlib.Omega.{arith}
use Rattle.noted_words.proofs.Writing.{writing_begun, left_some, writing_more, writing_done}
use Rattle.noted_words.proofs.write_word.Goals as goal

pub loop-at-init : goal.loop-at-init
loop-at-init c =
    let a = c.args in
    writing_begun a.parents.now a.actions.now a.k a.count a.out.now c.requires.count_value

pub overflow_sub-left : goal.overflow_sub-left
overflow_sub-left c =
    let l = c.loop-at in
    let W = left_some c.args.parents.now c.args.actions.now c.args.k c.args.out.now c.requires.falling (omega (arith, c.requires.count_value, c.requires.count_in_bounds)) l.at l.left l.out l.invariant (omega arith) in
    omega (arith, W.0)

pub bounds-actions-at : goal.bounds-actions-at
bounds-actions-at c = omega (arith, c.requires.k_in_bounds, c.requires.actions_len, c.loop-at.invariant.within)

pub bounds-out-left : goal.bounds-out-left
bounds-out-left c =
    let l = c.loop-at in
    let W = left_some c.args.parents.now c.args.actions.now c.args.k c.args.out.now c.requires.falling (omega (arith, c.requires.count_value, c.requires.count_in_bounds)) l.at l.left l.out l.invariant (omega arith) in
    omega (arith, W.0, W.1)

pub offset_bounds-parents-at : goal.offset_bounds-parents-at
offset_bounds-parents-at c = omega (arith, c.well_formed.0.1, c.requires.k_in_bounds, c.loop-at.invariant.within)

pub bounds-parents-at : goal.bounds-parents-at
bounds-parents-at c = omega (arith, c.requires.k_in_bounds, c.loop-at.invariant.within)

pub overflow_cast-at : goal.overflow_cast-at
overflow_cast-at c = omega (arith, c.type_inv.parents c.loop-at.at)

pub loop-at-smaller : goal.loop-at-smaller
loop-at-smaller c =
    let l = c.loop-at in
    omega (arith, c.requires.falling l.at (omega arith) l.invariant.within)

pub loop-at-preserved : goal.loop-at-preserved
loop-at-preserved c =
    let l = c.loop-at in
    writing_more c.args.parents.now c.args.actions.now c.args.k c.args.out.now c.requires.falling (omega (arith, c.requires.count_value, c.requires.count_in_bounds)) l.at l.left l.out l.invariant (omega arith)

pub shape_of-out : goal.shape_of-out
shape_of-out c = c.loop-at.invariant.same_length

pub returns : goal.returns
returns c =
    let l = c.loop-at in
    writing_done c.args.parents.now c.args.actions.now c.args.k c.args.out.now c.requires.falling (omega (arith, c.requires.count_value, c.requires.count_in_bounds)) l.at l.left l.out l.invariant (omega arith)
