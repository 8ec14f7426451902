use native.Mathlib.Omega.{arith}
use Rattle.sheet_bytes.specs.Fields.{pairs_limit, start_place_lem}
use Rattle.sheet_bytes.proofs.sheet.Sheet.start_place.Goals as goal

pub overflow_mul-result : goal.overflow_mul-result
overflow_mul-result c =
    let R = rw c.self.view_is at c.self.invariant.read in
    omega (arith, pairs_limit R c.args.v c.requires)

pub overflow_add-result : goal.overflow_add-result
overflow_add-result c =
    let R = rw c.self.view_is at c.self.invariant.read in
    omega (arith, pairs_limit R c.args.v c.requires)

pub returns-clause-value : goal.returns-clause-value
returns-clause-value c =
    let R = rw c.self.view_is at c.self.invariant.read in
    start_place_lem R c.args.v
