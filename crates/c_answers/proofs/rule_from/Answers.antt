use mathlib.Core.Path.{◌≡◌}
use native.Mathlib.Omega.{arith}
use mir.Syntax.{w64}
use mir.ValLaws.{to_z-of_z}
use Rattle.c_answers.proofs.Exports.{from_carry, from_other}
use Rattle.c_answers.proofs.rule_from.Goals as goal

pub returns-then-kind-eq1 : goal.returns-then-kind-eq1
returns-then-kind-eq1 c =
    let a = c.args in
    let ff = c.ranges.factor in
    let fb = c.ranges.offset in
    let h : a.kind ≡ 1 = omega (arith, c.if-kind-eq1.true) in
    simp (to_z-of_z w64) (from_carry a.kind a.factor a.offset h)

pub returns-else-kind-eq1 : goal.returns-else-kind-eq1
returns-else-kind-eq1 c =
    let a = c.args in
    let fb = c.ranges.offset in
    simp (to_z-of_z w64) (from_other a.kind a.factor a.offset c.if-kind-eq1.false)
