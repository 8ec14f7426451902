use native.Mathlib.Omega.{arith}
use mir.Syntax.{w64}
use mir.Val.{SFits}
use mir.ValLaws.{to_z-of_z}
use Rattle.sheet_bytes.specs.Fields.{rule_set, rule_carry}
use Rattle.std.proofs.Common.{rules}
use Rattle.sheet_bytes.proofs.fields.read_rule.Goals as goal

pub overflow_cast-result : goal.overflow_cast-result
overflow_cast-result c = omega (arith, c.type_inv.part 1)

pub returns-then-part-eq0 : goal.returns-then-part-eq0
returns-then-part-eq0 c =
    let offset = c.signed32-offset in
    let fo : SFits w64 offset.result = search rules in
    simp (to_z-of_z w64) (rule_set c.args.part.now offset.result c.if-part-eq0.true offset.ensures)

pub returns-else-part-eq0 : goal.returns-else-part-eq0
returns-else-part-eq0 c =
    let offset = c.signed32-offset in
    let factor = c.signed8-factor in
    let fo : SFits w64 offset.result = search rules in
    let ff : SFits w64 factor.result = search rules in
    simp (to_z-of_z w64) (rule_carry c.args.part.now factor.result offset.result c.if-part-eq0.false factor.ensures offset.ensures)
