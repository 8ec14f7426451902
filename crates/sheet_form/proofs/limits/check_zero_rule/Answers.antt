use mir.Syntax.{w64}
use mir.Val.{SFits}
use mir.ValLaws.{to_z-of_z}
use Rattle.std.proofs.Common.{rules}
use Rattle.std.proofs.Common.{◌∙◌}
use Rattle.answer_rules.proofs.Stages.{stop, go_on, handed_up, demand_for, demand_by}
use Rattle.answer_rules.specs.declared.Reason.TheVariants.{Field}
use Rattle.answer_rules.specs.Refusal.{at}
use Rattle.sheet_rules.specs.Form.{check_zero_rule}
use Rattle.sheet_form.specs.Limits.{factor_read, offset_read}
use Rattle.sheet_form.proofs.limits.check_zero_rule.Goals as goal

pub returns-in_err-demanded : goal.returns-in_err-demanded
unfolding check_zero_rule
returns-in_err-demanded c =
    handed_up c.from_residual.ensures
    ∙ stop _ (demand_for _ c.demanded.ensures c.at.ensures) c.in_err-demanded.was

pub returns-in_err-demanded-2 : goal.returns-in_err-demanded-2
unfolding check_zero_rule
returns-in_err-demanded-2 c =
    handed_up c.from_residual-in_err-demanded-2.ensures
    ∙ go_on (demand_for _ c.demanded.ensures c.at.ensures) c.in_ok-demanded.was
    (stop _ (demand_for _ c.demanded-2.ensures c.at-2.ensures) c.in_err-demanded-2.was)

pub returns-in_err-demanded-3 : goal.returns-in_err-demanded-3
unfolding check_zero_rule
returns-in_err-demanded-3 c =
    let f : SFits w64 c.signed8.result = search rules in
    handed_up c.from_residual-in_err-demanded-3.ensures
    ∙ go_on (demand_for _ c.demanded.ensures c.at.ensures) c.in_ok-demanded.was
    (go_on (demand_for _ c.demanded-2.ensures c.at-2.ensures) c.in_ok-demanded-2.was
    (stop _ (demand_by (at Field _) (demand_for _ c.demanded-3.ensures c.at-3.ensures) (factor_read c.args.part.now 0 (simp (to_z-of_z w64) at c.near_zero.ensures) c.signed8.ensures)) c.in_err-demanded-3.was))

pub returns : goal.returns
unfolding check_zero_rule
returns c =
    let f : SFits w64 c.signed8.result = search rules in
    let g : SFits w64 c.signed32.result = search rules in
    go_on (demand_for _ c.demanded.ensures c.at.ensures) c.in_ok-demanded.was
    (go_on (demand_for _ c.demanded-2.ensures c.at-2.ensures) c.in_ok-demanded-2.was
    (go_on (demand_by (at Field _) (demand_for _ c.demanded-3.ensures c.at-3.ensures) (factor_read c.args.part.now 0 (simp (to_z-of_z w64) at c.near_zero.ensures) c.signed8.ensures)) c.in_ok-demanded-3.was
    (demand_by (at Field _) (demand_for _ c.demanded-4.ensures c.at-4.ensures) (offset_read c.args.part.now 0 (simp (to_z-of_z w64) at c.near_zero-2.ensures) c.signed32.ensures))))
