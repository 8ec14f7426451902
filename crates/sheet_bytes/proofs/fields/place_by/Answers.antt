use native.Mathlib.Omega.{arith}
use Prim.Native.Nat.{ℕ, ◌+◌, ◌*◌}
use mathlib.Core.Path.{ap}
use Rattle.sheet_bytes.specs.Fields.{pairs_small, rows_small}
use Rattle.sheet_bytes.proofs.fields.place_by.Goals as goal

pub overflow_mul-result : goal.overflow_mul-result
overflow_mul-result c = omega (arith, pairs_small c.requires.small)

pub overflow_add-result : goal.overflow_add-result
overflow_add-result c = omega (arith, pairs_small c.requires.small)

pub overflow_mul-result-2 : goal.overflow_mul-result-2
overflow_mul-result-2 c = omega (arith, rows_small c.requires.small c.args.i c.region_size.result c.requires.i_le_regions c.region_size.ensures)

pub overflow_add-result-2 : goal.overflow_add-result-2
overflow_add-result-2 c =
    omega (arith, pairs_small c.requires.small, rows_small c.requires.small c.args.i c.region_size.result c.requires.i_le_regions c.region_size.ensures)

pub returns : goal.returns
returns c = ap (λ (k : ℕ). 9 + c.args.shape.width * c.args.shape.counters + c.args.i * k) c.region_size.ensures
