use native.Mathlib.Omega.{arith}
use Prim.Native.Nat.{ℕ, ◌+◌, ◌*◌}
use mathlib.Core.Path.{◌≡◌, refl, ap, ◌∙◌}
use Rattle.systems.specs.Lists.{collect}
use Rattle.writing.specs.Stored.{stored, stored_start, stored_more}
use Rattle.writing.specs.BoxBytes.{bound_bytes, bounds_bytes, bound_length, bound_room}
use Rattle.writing.proofs.boxes.put_bounds.Goals as goal

pub loop-b-init : goal.loop-b-init
loop-b-init c = (omega arith, refl, stored_start (bound_bytes c.args.width c.args.cells.now c.args.i) c.args.out.now c.args.at)

pub overflow_mul-i : goal.overflow_mul-i
overflow_mul-i c = omega arith

pub overflow_add-i : goal.overflow_add-i
overflow_add-i c = omega arith

pub overflow_add-i-in-loop-b : goal.overflow_add-i-in-loop-b
overflow_add-i-in-loop-b c = omega arith

pub overflow_mul-width : goal.overflow_mul-width
overflow_mul-width c = omega (arith, bound_room c.args.width c.loop-b.b c.args.n c.loop-b-test.true)

pub overflow_add-at : goal.overflow_add-at
overflow_add-at c = omega (arith, bound_room c.args.width c.loop-b.b c.args.n c.loop-b-test.true)

pub put_cell-requires : goal.put_cell-requires
put_cell-requires c =
    let b = c.loop-b.b in
    record {
      two_or_four = c.requires.two_or_four;
      from_in_bounds = omega arith;
      holds = c.requires.bounded b c.loop-b-test.true;
      width_in_bounds = omega (arith, bound_room c.args.width b c.args.n c.loop-b-test.true);
    }

pub overflow_step-b : goal.overflow_step-b
overflow_step-b c = omega arith

pub loop-b-smaller : goal.loop-b-smaller
loop-b-smaller c = omega arith

pub loop-b-preserved : goal.loop-b-preserved
loop-b-preserved c =
    let at = c.loop-b in
    let cells = c.args.cells.now in
    let i = c.args.i in
    let w = c.args.width in
    let place = c.args.at + w * at.b in (
      omega arith,
      omega arith,
      stored_more (bound_bytes w cells i) c.args.out.now at.out c.put_cell.new.out c.args.at place at.b at.invariant.2 c.put_cell.ensures (omega (arith, bound_length w cells i at.b)),
    )

pub shape_of-out : goal.shape_of-out
shape_of-out c = omega arith

pub returns : goal.returns
unfolding bounds_bytes
returns c =
    let at = c.loop-b in
    let e : at.b ≡ c.args.n = omega arith in
    at.invariant.2 ∙ ap (λ (k : ℕ). stored c.args.out.now c.args.at (collect (bound_bytes c.args.width c.args.cells.now c.args.i) k)) e
