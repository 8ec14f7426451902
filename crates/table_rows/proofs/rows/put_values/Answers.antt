use mir.Syntax.{w64}
use mir.Val.{SFits}
use mir.ValLaws.{to_z-of_z}
use native.Mathlib.Omega.{arith}
use Rattle.table_rules.proofs.Arrays.{values_write}
use Rattle.std.proofs.Common.{rules}
use Rattle.table_rows.proofs.rows.put_values.Goals as goal

pub bounds-cells-at-2 : goal.bounds-cells-at-2
bounds-cells-at-2 c = omega arith

pub bounds-cells-at-3 : goal.bounds-cells-at-3
bounds-cells-at-3 c = omega arith

pub returns : goal.returns
returns c =
    let r = c.args.x in
    let x : SFits w64 r.first = search rules in
    let y : SFits w64 r.second = search rules in
    let z : SFits w64 r.third = search rules in
    values_write c.args.cells.now c.args.k r _ _ _ (to_z-of_z w64 r.first x) (to_z-of_z w64 r.second y) (to_z-of_z w64 r.third z)
