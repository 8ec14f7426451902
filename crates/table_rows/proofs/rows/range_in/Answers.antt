use mir.Syntax.{w64}
use mir.Val.{SFits}
use mir.ValLaws.{to_z-of_z}
use lib.ListN.{get_or}
use Prim.Native.Nat.{◌+◌}
use lib.IntN.{pos}
use Rattle.table_rules.proofs.Arrays.{range_read}
use Rattle.std.proofs.Common.{rules}
use Rattle.table_rows.proofs.rows.range_in.Goals as goal

pub returns : goal.returns
returns c =
    let s = c.args.cells.now in
    let at = c.args.at in
    let x : SFits w64 (get_or s at (pos 0)) = search rules in
    let y : SFits w64 (get_or s (at + 1) (pos 0)) = search rules in
    range_read s at _ _ (to_z-of_z w64 (get_or s at (pos 0)) x) (to_z-of_z w64 (get_or s (at + 1) (pos 0)) y)
