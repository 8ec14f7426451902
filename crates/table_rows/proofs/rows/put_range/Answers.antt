use mir.Syntax.{w64}
use mir.Val.{SFits}
use mir.ValLaws.{to_z-of_z}
use native.Mathlib.Omega.{arith}
use lib.ListN.{length-set}
use Rattle.table_rules.proofs.Arrays.{range_write}
use Rattle.std.proofs.Common.{rules}
use Rattle.table_rows.proofs.rows.put_range.Goals as goal

pub bounds-cells-at-2 : goal.bounds-cells-at-2
bounds-cells-at-2 c = simp length-set (omega arith)

pub returns : goal.returns
returns c =
    let r = c.args.r in
    let x : SFits w64 r.low = search rules in
    let y : SFits w64 r.high = search rules in
    range_write c.args.cells.now c.args.at r _ _ (to_z-of_z w64 r.low x) (to_z-of_z w64 r.high y)
