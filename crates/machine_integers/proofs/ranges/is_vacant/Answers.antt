use mir.Syntax.{w64}
use mir.Val.{SFits}
use mir.ValLaws.{to_z-of_z}
use Rattle.integers.specs.Range.{vacant}
use Rattle.std.proofs.Common.{rules}
use Rattle.machine_integers.proofs.ranges.is_vacant.Goals as goal

pub returns : goal.returns
unfolding vacant
returns c =
    let r = c.args.r in
    let fl : SFits w64 r.low = search rules in
    let fh : SFits w64 r.high = search rules in
    simp (to_z-of_z w64)
