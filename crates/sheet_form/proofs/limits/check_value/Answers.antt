use mir.Syntax.{w64}
use mir.Val.{SFits}
use mir.ValLaws.{to_z-of_z}
use Rattle.std.proofs.Common.{rules}
use Rattle.answer_rules.proofs.Stages.{demand_for}
use Rattle.sheet_form.specs.Limits.{value_stage}
use Rattle.sheet_form.proofs.limits.check_value.Goals as goal

pub returns : goal.returns
returns c =
    let value = c.start_value-value in
    let f : SFits w64 value.result = search rules in
    value_stage c.args.s.now c.args.v c.start_place.result value.ensures (simp (to_z-of_z w64) at c.near_zero.ensures) c.start_place.ensures.value (demand_for _ c.demanded.ensures c.at.ensures)
