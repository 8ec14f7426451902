use native.Mathlib.Omega.{arith}
use Rattle.sheet_bytes.specs.Fields.{width_limit, pairs_limit, sheet_short, region_within, low_read}
use Rattle.sheet_bytes.proofs.sheet.Sheet.low_place.Goals as goal

pub overflow_add-result : goal.overflow_add-result
overflow_add-result c =
    let R = rw c.self.view_is at c.self.invariant.read in
    omega (arith, sheet_short R, region_within R c.args.i c.region_place.result c.requires.0 c.region_place.ensures.value)

pub overflow_mul-result : goal.overflow_mul-result
overflow_mul-result c =
    let R = rw c.self.view_is at c.self.invariant.read in
    omega (arith, width_limit R)

pub overflow_mul-result-2 : goal.overflow_mul-result-2
overflow_mul-result-2 c =
    let R = rw c.self.view_is at c.self.invariant.read in
    omega (arith, pairs_limit R c.args.v c.requires.1)

pub overflow_add-result-2 : goal.overflow_add-result-2
overflow_add-result-2 c =
    let R = rw c.self.view_is at c.self.invariant.read in
    omega (arith, sheet_short R, pairs_limit R c.args.v c.requires.1, region_within R c.args.i c.region_place.result c.requires.0 c.region_place.ensures.value)

pub returns-clause-value : goal.returns-clause-value
returns-clause-value c =
    let R = rw c.self.view_is at c.self.invariant.read in
    low_read R c.args.i c.args.v c.region_place.result c.region_place.ensures.value
