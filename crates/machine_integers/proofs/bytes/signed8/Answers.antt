use mathlib.Core.Path.{◌∙◌}
use native.Mathlib.Omega.{arith}
use mir.Syntax.{w8, w64}
use mir.Val.{SFits}
use mir.ValLaws.{to_z-of_z}
use Rattle.integers.proofs.Bits.{one_byte, cast_one, signed_one}
use Rattle.std.proofs.Common.{rules, get_or}
use Rattle.machine_integers.proofs.bytes.signed8.Goals as goal

pub returns : goal.returns
returns c =
    let s = c.args.s.now in
    let at = c.args.at in
    let u = get_or s at 0 in
    let narrow : SFits w8 c.cast_signed.result = search rules in
    let wide : SFits w64 c.cast_signed.result = search rules in
    simp (to_z-of_z w8, to_z-of_z w64) (c.cast_signed.ensures ∙ cast_one u (omega (arith, c.type_inv.s at)) ∙ signed_one s at u (one_byte s at))
