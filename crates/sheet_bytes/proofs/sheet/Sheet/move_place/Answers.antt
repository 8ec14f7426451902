use native.Mathlib.Omega.{arith}
use Rattle.sheet_bytes.specs.Fields.{counters_limit, width_limit, small, pairs_small, sheet_short, region_within, move_rows, move_read}
use Rattle.sheet_bytes.proofs.sheet.Sheet.move_place.Goals as goal

pub overflow_add-result : goal.overflow_add-result
overflow_add-result c =
    let R = rw c.self.view_is at c.self.invariant.read in
    omega (arith, sheet_short R, region_within R c.args.i c.region_place.result c.requires.0 c.region_place.ensures.value)

pub overflow_mul-result : goal.overflow_mul-result
overflow_mul-result c =
    let R = rw c.self.view_is at c.self.invariant.read in
    omega (arith, width_limit R)

pub overflow_mul-result-2 : goal.overflow_mul-result-2
overflow_mul-result-2 c =
    let R = rw c.self.view_is at c.self.invariant.read in
    omega (arith, pairs_small (small R))

pub overflow_add-result-2 : goal.overflow_add-result-2
overflow_add-result-2 c =
    let R = rw c.self.view_is at c.self.invariant.read in
    omega (arith, sheet_short R, region_within R c.args.i c.region_place.result c.requires.0 c.region_place.ensures.value)

pub move_size-requires : goal.move_size-requires
move_size-requires c =
    let R = rw c.self.view_is at c.self.invariant.read in
    counters_limit R

pub overflow_mul-result-3 : goal.overflow_mul-result-3
overflow_mul-result-3 c =
    let R = rw c.self.view_is at c.self.invariant.read in
    omega (arith, move_rows R c.args.a c.move_size.result c.requires.1 c.move_size.ensures)

pub overflow_add-result-3 : goal.overflow_add-result-3
overflow_add-result-3 c =
    let R = rw c.self.view_is at c.self.invariant.read in
    omega (arith, sheet_short R, region_within R c.args.i c.region_place.result c.requires.0 c.region_place.ensures.value, move_rows R c.args.a c.move_size.result c.requires.1 c.move_size.ensures)

pub returns-clause-value : goal.returns-clause-value
returns-clause-value c =
    let R = rw c.self.view_is at c.self.invariant.read in
    move_read R c.args.i c.args.a c.region_place.result c.move_size.result c.region_place.ensures.value c.move_size.ensures
