use native.Mathlib.Omega.{arith}
use Prim.Native.Nat.{ℕ, ◌+◌, ◌*◌}
use mathlib.Core.Path.{refl}
use mathlib.Core.List.{List}
use Rattle.sheet_rules.proofs.Shape.{width_few}
use Rattle.writing.specs.Numbers.{entry_in}
use Rattle.writing.specs.Stored.{stored_start, stored_more, rows_le, rows_small}
use Rattle.writing.specs.BoxBytes.{row_bytes, rows_length, record_small, boxes_stored}
use Rattle.writing.proofs.boxes.write_boxes.Goals as goal

pub loop-k-init : goal.loop-k-init
loop-k-init c =
    (omega arith, refl, stored_start (λ j. row_bytes c.args.shape.width c.args.shape.counters c.args.cells.now c.args.homes.now (entry_in c.args.order.now j)) c.args.out.now 0)

pub bounds-order-k : goal.bounds-order-k
bounds-order-k c = omega arith

pub overflow_mul-shape : goal.overflow_mul-shape
overflow_mul-shape c = omega (arith, width_few c.args.shape.width c.requires.two_or_four.0)

pub overflow_mul-shape-in-loop-k : goal.overflow_mul-shape-in-loop-k
overflow_mul-shape-in-loop-k c = omega (arith, record_small c.args.shape c.requires.two_or_four.0 c.requires.two_or_four.1)

pub overflow_add-shape : goal.overflow_add-shape
overflow_add-shape c = omega (arith, record_small c.args.shape c.requires.two_or_four.0 c.requires.two_or_four.1)

pub overflow_mul-k : goal.overflow_mul-k
overflow_mul-k c =
    let w = 1 + 2 * c.args.shape.width * c.args.shape.counters in
    let l = record_small c.args.shape c.requires.two_or_four.0 c.requires.two_or_four.1 in
    omega (arith, rows_small c.args.n w c.requires.two_or_four.2 l, rows_le c.loop-k.k c.args.n w c.loop-k-test.true)

pub put_box-requires : goal.put_box-requires
put_box-requires c =
    let at = c.loop-k in
    let w = 1 + 2 * c.args.shape.width * c.args.shape.counters in
    let (t, v, l) = c.requires.two_or_four in
    let b = c.requires.all_bounded at.k c.loop-k-test.true in
    record {
      two_or_four = (t, v, b.0);
      bounded = b.1;
      counters_in_bounds = omega (arith, rows_le at.k c.args.n w c.loop-k-test.true);
    }

pub overflow_step-k : goal.overflow_step-k
overflow_step-k c = omega arith

pub loop-k-smaller : goal.loop-k-smaller
loop-k-smaller c = omega arith

pub loop-k-preserved : goal.loop-k-preserved
loop-k-preserved c =
    let at = c.loop-k in
    let w = 1 + 2 * c.args.shape.width * c.args.shape.counters in
    let row : ℕ → List ℕ = λ j. row_bytes c.args.shape.width c.args.shape.counters c.args.cells.now c.args.homes.now (entry_in c.args.order.now j) in (
      omega arith,
      omega arith,
      stored_more row c.args.out.now at.out c.put_box.new.out 0 (at.k * w) at.k at.invariant.2 c.put_box.ensures
          (omega (arith, rows_length c.args.shape.width c.args.shape.counters c.args.cells.now c.args.homes.now c.args.order.now at.k c.requires.two_or_four.1)),
    )

pub shape_of-out : goal.shape_of-out
shape_of-out c = omega arith

pub returns : goal.returns
returns c =
    let at = c.loop-k in
    boxes_stored c.args.shape.width c.args.shape.counters c.args.cells.now c.args.homes.now c.args.order.now c.args.out.now at.out at.k c.args.n
    c.requires.two_or_four.1 c.requires.counters_in_bounds (omega arith) at.invariant.2
