use mir.Syntax.{w64}
use mir.Val.{SFits}
use mir.ValLaws.{to_z-of_z}
use lib.ListN.{get_or}
use lib.IntN.{pos}
use Prim.Native.Nat.{◌+◌, ◌*◌}
use Rattle.table_rules.proofs.Arrays.{config_read}
use Rattle.std.proofs.Common.{rules}
use Rattle.table_rows.proofs.rows.config_in.Goals as goal

pub returns : goal.returns
returns c =
    let s = c.args.cells.now in
    let k = c.args.k in
    let x : SFits w64 (get_or s (9 * k) (pos 0)) = search rules in
    let y : SFits w64 (get_or s (9 * k + 1) (pos 0)) = search rules in
    let z : SFits w64 (get_or s (9 * k + 2) (pos 0)) = search rules in
    config_read s c.args.homes.now k _ _ _ (to_z-of_z w64 (get_or s (9 * k) (pos 0)) x) (to_z-of_z w64 (get_or s (9 * k + 1) (pos 0)) y) (to_z-of_z w64 (get_or s (9 * k + 2) (pos 0)) z)
