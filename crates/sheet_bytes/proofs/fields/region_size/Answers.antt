use native.Mathlib.Omega.{arith}
use Prim.Native.Nat.{ℕ, ◌+◌, ◌*◌}
use mathlib.Core.Path.{ap}
use Rattle.sheet_rules.specs.Layout.{region_size}
use Rattle.sheet_bytes.specs.Fields.{pairs_small, moves_small}
use Rattle.sheet_bytes.proofs.fields.region_size.Goals as goal

pub overflow_mul-result : goal.overflow_mul-result
overflow_mul-result c = omega (arith, c.requires.width_small)

pub overflow_mul-result-2 : goal.overflow_mul-result-2
overflow_mul-result-2 c = omega (arith, pairs_small c.requires)

pub overflow_add-result : goal.overflow_add-result
overflow_add-result c = omega (arith, pairs_small c.requires)

pub move_size-requires : goal.move_size-requires
move_size-requires c = c.requires.counters_small

pub overflow_mul-result-3 : goal.overflow_mul-result-3
overflow_mul-result-3 c =
    let m = ap (λ (k : ℕ). c.args.shape.actions * k) c.move_size.ensures in
    omega (arith, moves_small c.requires)

pub overflow_add-result-2 : goal.overflow_add-result-2
overflow_add-result-2 c =
    let m = ap (λ (k : ℕ). c.args.shape.actions * k) c.move_size.ensures in
    omega (arith, moves_small c.requires, pairs_small c.requires)

pub returns : goal.returns
unfolding region_size
returns c =
    let shape = c.args.shape in
    ap (λ (k : ℕ). 3 + 2 * shape.width * shape.counters + shape.actions * k) c.move_size.ensures
