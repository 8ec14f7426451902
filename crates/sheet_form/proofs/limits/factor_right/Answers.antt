use mir.Syntax.{w64}
use mir.Val.{SFits}
use mir.ValLaws.{to_z-of_z}
use Rattle.std.proofs.Common.{rules}
use Rattle.sheet_form.specs.Limits.{factor_set, factor_far, factor_carry, factor_read}
use Rattle.sheet_form.proofs.limits.factor_right.Goals as goal

pub returns-then-part-eq0 : goal.returns-then-part-eq0
returns-then-part-eq0 c =
    let f : SFits w64 c.signed8-factor.result = search rules in
    factor_set c.args.part.now (factor_read c.args.part.now 0 (simp (to_z-of_z w64) at c.near_zero.ensures) c.signed8-factor.ensures) c.if-part-eq0.true

pub returns-then-near_zero : goal.returns-then-near_zero
returns-then-near_zero c =
    let f : SFits w64 c.signed8-factor.result = search rules in
    factor_carry c.args.part.now
    (factor_read c.args.part.now 100 (simp (to_z-of_z w64) at c.near_zero-else-part-eq0.ensures) c.signed8-factor.ensures)
    c.if-part-eq0.false c.if-near_zero.true
    (factor_read c.args.part.now 0 (simp (to_z-of_z w64) at c.near_zero-then-near_zero.ensures) c.signed8-factor.ensures)

pub returns-else-near_zero : goal.returns-else-near_zero
returns-else-near_zero c =
    let f : SFits w64 c.signed8-factor.result = search rules in
    factor_far c.args.part.now
    (factor_read c.args.part.now 100 (simp (to_z-of_z w64) at c.near_zero-else-part-eq0.ensures) c.signed8-factor.ensures)
    c.if-part-eq0.false c.if-near_zero.false
