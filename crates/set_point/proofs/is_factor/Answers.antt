use mathlib.Core.Path.{ap}
use mathlib.Core.Bool.{not}
use mir.Syntax.{w64}
use mir.ValLaws.{to_z-of_z}
use Rattle.integers.specs.Range.{near}
use Rattle.set_point_rules.specs.SetPoint.{factor_allowed}
use Rattle.set_point.specs.Machine.{conj_second, conj_first}
use Rattle.set_point.proofs.is_factor.Goals as goal

pub returns-then-near_zero : goal.returns-then-near_zero
unfolding factor_allowed
returns-then-near_zero c =
    let f = c.args.factor in
    let g = c.ranges.factor in
    let a = simp (to_z-of_z w64) at c.near_zero.ensures in
    let b = simp (to_z-of_z w64) at c.near_zero-then-near_zero.ensures in
    conj_second (near 100 f) (not (near 0 f)) a c.if-near_zero.true (ap not b)

pub returns-else-near_zero : goal.returns-else-near_zero
unfolding factor_allowed
returns-else-near_zero c =
    let f = c.args.factor in
    let g = c.ranges.factor in
    let a = simp (to_z-of_z w64) at c.near_zero.ensures in
    conj_first (near 100 f) (not (near 0 f)) a c.if-near_zero.false
