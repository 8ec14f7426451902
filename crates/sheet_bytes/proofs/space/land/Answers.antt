use mir.Syntax.{w64}
use mir.Val.{SFits}
use mir.ValLaws.{to_z-of_z}
use Rattle.sheet_bytes.specs.Space.{land_parts}
use Rattle.std.proofs.Common.{rules}
use Rattle.sheet_bytes.proofs.space.land.Goals as goal

pub returns : goal.returns
returns c =
    let fa : SFits w64 c.apply-first.result = search rules in
    let fb : SFits w64 c.apply-second.result = search rules in
    let fd : SFits w64 c.apply-third.result = search rules in
    simp (to_z-of_z w64) (land_parts c.args.m c.args.x c.apply-first.result c.apply-second.result c.apply-third.result c.apply-first.ensures c.apply-second.ensures c.apply-third.ensures)
