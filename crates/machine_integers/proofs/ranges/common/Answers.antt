use mathlib.Core.Path.{◌∙◌}
use mir.Syntax.{w64}
use mir.Val.{SFits}
use mir.ValLaws.{to_z-of_z}
use Rattle.integers.proofs.Machine.{meet_parts, min_is, max_is}
use Rattle.std.proofs.Common.{rules}
use Rattle.machine_integers.proofs.ranges.common.Goals as goal

pub returns : goal.returns
returns c =
    let a = c.args.a in
    let b = c.args.b in
    let low = c.max in
    let high = c.min in
    let fl : SFits w64 low.result = search rules in
    let fh : SFits w64 high.result = search rules in
    let al : SFits w64 a.low = search rules in
    let bl : SFits w64 b.low = search rules in
    let ah : SFits w64 a.high = search rules in
    let bh : SFits w64 b.high = search rules in
    let l = simp (to_z-of_z w64) at low.ensures.value in
    let h = simp (to_z-of_z w64) at high.ensures.value in
    simp (to_z-of_z w64) (meet_parts a b low.result high.result (l ∙ max_is a.low b.low) (h ∙ min_is a.high b.high))
