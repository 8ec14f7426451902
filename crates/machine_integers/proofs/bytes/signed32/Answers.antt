use mathlib.Core.Path.{◌∙◌}
use native.Mathlib.Omega.{arith}
use mir.Syntax.{w32, w64}
use mir.Val.{SFits}
use mir.ValLaws.{to_z-of_z}
use Rattle.integers.proofs.Bits.{joined_four, cast_four, signed_four}
use Rattle.std.proofs.Common.{rules, get_or, ◌+◌, ◌*◌, ◌<◌}
use Rattle.machine_integers.proofs.bytes.signed32.Goals as goal

pub returns : goal.returns
returns c =
    let s = c.args.s.now in
    let at = c.args.at in
    let u = get_or s at 0 + get_or s (at + 1) 0 * 256 + get_or s (at + 2) 0 * 65536 + get_or s (at + 3) 0 * 16777216 in
    let few : u < 4294967296 = omega (arith, c.type_inv.s at, c.type_inv.s (at + 1), c.type_inv.s (at + 2), c.type_inv.s (at + 3)) in
    let narrow : SFits w32 c.from_le_bytes.result = search rules in
    let wide : SFits w64 c.from_le_bytes.result = search rules in
    simp (to_z-of_z w32, to_z-of_z w64) (c.from_le_bytes.ensures ∙ cast_four u few ∙ signed_four s at u (joined_four s at))
