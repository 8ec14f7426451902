use mathlib.Core.Path.{sym, ◌∙◌}
use mir.Syntax.{w64}
use mir.Val.{SFits}
use mir.ValLaws.{to_z-of_z}
use Rattle.answer_rules.proofs.Stages.{demand_fine, demand_for, handed_up}
use Rattle.set_point_rules.proofs.Theorems.{allowed_limits}
use Rattle.set_point.specs.Machine.{point_set, point_beyond, point_divided}
use Rattle.std.proofs.Common.{rules}
use Rattle.set_point.proofs.find.Goals as goal

pub returns-in_default : goal.returns-in_default
returns-in_default c = point_set c.args.wanted c.in_default.is c.at.ensures

pub divide-requires : goal.divide-requires
divide-requires c =
    let (n, (wf, (wb, wy))) = allowed_limits _ _ _ (sym c.is_allowed.ensures ∙ demand_fine _ _ (sym c.demanded.ensures ∙ c.in_ok-demanded.was)) in
    record { fact = (n, wf); within = wb; within_2 = wy }

pub returns-in_err-demanded : goal.returns-in_err-demanded
returns-in_err-demanded c =
    let ff : SFits w64 c.in-Carry.factor = search rules in
    let fb : SFits w64 c.in-Carry.offset = search rules in
    let fy = c.ranges.wanted in
    handed_up c.from_residual.ensures
    ∙ point_beyond c.args.wanted c.in-Carry.is (simp (to_z-of_z w64) at c.is_allowed.ensures) (demand_for _ c.demanded.ensures c.at-2.ensures) c.in_err-demanded.was

pub returns : goal.returns
returns c =
    let ff : SFits w64 c.in-Carry.factor = search rules in
    let fb : SFits w64 c.in-Carry.offset = search rules in
    let fy = c.ranges.wanted in
    let t = simp (to_z-of_z w64) at c.is_allowed.ensures in
    point_divided
    c.args.wanted
    c.in-Carry.is
    (sym t ∙ demand_fine _ _ (sym c.demanded.ensures ∙ c.in_ok-demanded.was))
    (simp (to_z-of_z w64) at c.divide.ensures)
