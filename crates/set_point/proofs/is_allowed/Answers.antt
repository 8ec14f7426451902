use Rattle.std.proofs.Common.{◌≡◌, ◌∙◌, ◌&&◌, w64}
use mir.ValLaws.{to_z-of_z}
use Rattle.integers.specs.Range.{near}
use Rattle.set_point_rules.specs.SetPoint.{factor_allowed, allowed}
use Rattle.set_point.specs.Machine.{conj_second, conj_first}
use Rattle.set_point.proofs.is_allowed.Goals as goal
use Rattle.set_point.proofs.is_allowed.Goals.{then-is_factor, else-is_factor}

pub returns-then-near_zero : goal.returns-then-near_zero
unfolding allowed
returns-then-near_zero c =
    let f = factor_allowed c.args.factor in
    let b = near 200000000 c.args.offset in
    let ff = c.ranges.factor in
    let fb = c.ranges.offset in
    let fy = c.ranges.wanted in
    let e = simp (to_z-of_z w64) at c.is_factor.ensures in
    let joined : c.if-is_factor.value ≡ (f && b) = elim c.if-is_factor.branch [
      | then-is_factor w ↦ conj_second f b e w.if-is_factor.true (w.value-is ∙ (simp (to_z-of_z w64) at w.near_zero.ensures))
      | else-is_factor w ↦ w.value-is ∙ conj_first f b e w.if-is_factor.false
    ] in
    conj_second (f && b) (near 1000000 c.args.wanted) joined c.if-near_zero.true (simp (to_z-of_z w64) at c.near_zero-then-near_zero.ensures)

pub returns-else-near_zero : goal.returns-else-near_zero
unfolding allowed
returns-else-near_zero c =
    let f = factor_allowed c.args.factor in
    let b = near 200000000 c.args.offset in
    let ff = c.ranges.factor in
    let fb = c.ranges.offset in
    let e = simp (to_z-of_z w64) at c.is_factor.ensures in
    let joined : c.if-is_factor.value ≡ (f && b) = elim c.if-is_factor.branch [
      | then-is_factor w ↦ conj_second f b e w.if-is_factor.true (w.value-is ∙ (simp (to_z-of_z w64) at w.near_zero.ensures))
      | else-is_factor w ↦ w.value-is ∙ conj_first f b e w.if-is_factor.false
    ] in
    conj_first (f && b) (near 1000000 c.args.wanted) joined c.if-near_zero.false
