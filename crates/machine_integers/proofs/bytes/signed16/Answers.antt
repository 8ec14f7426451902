use mathlib.Core.Path.{◌∙◌}
use native.Mathlib.Omega.{arith}
use mir.Syntax.{w16, w64}
use mir.Val.{SFits}
use mir.ValLaws.{to_z-of_z}
use Rattle.integers.proofs.Bits.{joined_two, cast_two, signed_two}
use Rattle.std.proofs.Common.{rules, get_or, ◌+◌, ◌*◌, ◌<◌}
use Rattle.machine_integers.proofs.bytes.signed16.Goals as goal

pub returns : goal.returns
returns c =
    let s = c.args.s.now in
    let at = c.args.at in
    let u = get_or s at 0 + get_or s (at + 1) 0 * 256 in
    let few : u < 65536 = omega (arith, c.type_inv.s at, c.type_inv.s (at + 1)) in
    let narrow : SFits w16 c.from_le_bytes.result = search rules in
    let wide : SFits w64 c.from_le_bytes.result = search rules in
    simp (to_z-of_z w16, to_z-of_z w64) (c.from_le_bytes.ensures ∙ cast_two u few ∙ signed_two s at u (joined_two s at))
