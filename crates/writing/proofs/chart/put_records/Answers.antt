use native.Mathlib.Omega.{arith}
use Prim.Native.Nat.{ℕ, ◌+◌, ◌*◌}
use mathlib.Core.Path.{◌≡◌, refl, ap, ◌∙◌}
use Rattle.systems.specs.Lists.{collect}
use Rattle.sheet_rules.specs.Layout.{actions_of}
use Rattle.sheet_bytes.specs.Fields.{actions_limit}
use Rattle.writing.specs.Stored.{stored, stored_start, stored_more, rows_le, rows_small}
use Rattle.writing.specs.ChartBytes.{ordered_bytes, records_bytes, records_length}
use Rattle.writing.proofs.chart.put_records.Goals as goal

pub loop-k-init : goal.loop-k-init
loop-k-init c =
    (omega arith, refl, stored_start (ordered_bytes c.args.s.now c.args.homes.now c.args.targets.now c.args.order.now c.args.number.now (actions_of c.args.s.now)) c.args.out.now 7)

pub bounds-order-k : goal.bounds-order-k
bounds-order-k c = omega arith

pub overflow_add-shape : goal.overflow_add-shape
overflow_add-shape c =
    let A = c.shape-shape.ensures.read.actions_are in
    let limit = actions_limit c.shape-shape.ensures.read in
    omega arith

pub overflow_mul-k : goal.overflow_mul-k
overflow_mul-k c =
    let A = c.shape-shape.ensures.read.actions_are in
    let limit = actions_limit c.shape-shape.ensures.read in
    let w = 2 + actions_of c.args.s.now in
    rw A (omega (arith, rows_small c.args.n w c.requires.n_bound.0 (omega arith), rows_le c.loop-k.k c.args.n w c.loop-k-test.true))

pub overflow_add-k : goal.overflow_add-k
overflow_add-k c =
    let A = c.shape-shape.ensures.read.actions_are in
    let limit = actions_limit c.shape-shape.ensures.read in
    let w = 2 + actions_of c.args.s.now in
    rw A (omega (arith, rows_small c.args.n w c.requires.n_bound.0 (omega arith), rows_le c.loop-k.k c.args.n w c.loop-k-test.true))

pub put_record-requires : goal.put_record-requires
put_record-requires c =
    let at = c.loop-k in
    let A = c.shape-shape.ensures.read.actions_are in
    let limit = actions_limit c.shape-shape.ensures.read in
    let w = 2 + actions_of c.args.s.now in
    let few = rows_small c.args.n w c.requires.n_bound.0 (omega arith) in
    let b = c.requires.n_bound.1 at.k c.loop-k-test.true in
    record {
      i_bound = b;
      actions_in_bounds = rw A (omega (arith, rows_le at.k c.args.n w c.loop-k-test.true));
    }

pub overflow_step-k : goal.overflow_step-k
overflow_step-k c = omega arith

pub loop-k-smaller : goal.loop-k-smaller
loop-k-smaller c = omega arith

pub loop-k-preserved : goal.loop-k-preserved
loop-k-preserved c =
    let at = c.loop-k in
    let A# = actions_of c.args.s.now in (
      omega arith,
      omega arith,
      stored_more (ordered_bytes c.args.s.now c.args.homes.now c.args.targets.now c.args.order.now c.args.number.now (actions_of c.args.s.now)) c.args.out.now at.out c.put_record.new.out 7 (7 + at.k * (2 + A#)) at.k at.invariant.2 (rw c.shape-shape.ensures.read.actions_are at c.put_record.ensures)
          (omega (arith, records_length c.args.s.now c.args.homes.now c.args.targets.now c.args.order.now c.args.number.now A# at.k)),
    )

pub shape_of-out : goal.shape_of-out
shape_of-out c = omega arith

pub returns : goal.returns
unfolding records_bytes
returns c =
    let at = c.loop-k in
    let e : at.k ≡ c.args.n = omega arith in
    at.invariant.2 ∙ ap (λ (k : ℕ). stored c.args.out.now 7 (collect (ordered_bytes c.args.s.now c.args.homes.now c.args.targets.now c.args.order.now c.args.number.now (actions_of c.args.s.now)) k)) e
