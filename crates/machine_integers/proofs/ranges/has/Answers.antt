use mathlib.Core.Path.{◌∙◌}
use mir.Syntax.{w64}
use mir.Val.{SFits}
use mir.ValLaws.{to_z-of_z}
use Rattle.integers.proofs.Machine.{contains_yes, contains_no}
use Rattle.std.proofs.Common.{rules}
use Rattle.machine_integers.proofs.ranges.has.Goals as goal

pub returns-then-r-x : goal.returns-then-r-x
returns-then-r-x c =
    let r = c.args.r in
    let fx = c.ranges.x in
    let fl : SFits w64 r.low = search rules in
    let fh : SFits w64 r.high = search rules in
    let e = simp (to_z-of_z w64) at c.if-r-x.true in
    simp (to_z-of_z w64) (contains_yes r c.args.x e)

pub returns-else-r-x : goal.returns-else-r-x
returns-else-r-x c =
    let r = c.args.r in
    let fx = c.ranges.x in
    let fl : SFits w64 r.low = search rules in
    let e = simp (to_z-of_z w64) at c.if-r-x.false in
    simp (to_z-of_z w64) (e ∙ contains_no r c.args.x e)
