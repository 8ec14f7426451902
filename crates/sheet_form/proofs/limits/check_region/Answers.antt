use Rattle.std.specs.Prelude.{ltb}
use Rattle.std.proofs.Common.{◌∙◌}
use Rattle.answer_rules.proofs.Stages.{stop, go_on, handed_up, demand_for, demand_at}
use Rattle.answer_rules.specs.declared.Reason.TheVariants.{Field}
use Rattle.sheet_rules.specs.Form.{check_fields}
use Rattle.sheet_form.specs.Limits.{check_moves}
use Rattle.sheet_form.proofs.limits.check_region.Goals as goal

pub returns-in_err-demanded : goal.returns-in_err-demanded
unfolding check_fields check_moves
returns-in_err-demanded c =
    handed_up c.from_residual.ensures
    ∙ stop _ (demand_at (λ l. ltb l 65535) Field c.label_at.ensures c.region_place.ensures.value (demand_for _ c.demanded.ensures c.at.ensures)) c.in_err-demanded.was

pub returns-in_err-check_bounds : goal.returns-in_err-check_bounds
unfolding check_fields check_moves
returns-in_err-check_bounds c =
    handed_up c.from_residual-in_err-check_bounds.ensures
    ∙ go_on (demand_at (λ l. ltb l 65535) Field c.label_at.ensures c.region_place.ensures.value (demand_for _ c.demanded.ensures c.at.ensures)) c.in_ok-demanded.was
    (stop _ c.check_bounds.ensures c.in_err-check_bounds.was)

pub returns : goal.returns
unfolding check_fields check_moves
returns c =
    go_on (demand_at (λ l. ltb l 65535) Field c.label_at.ensures c.region_place.ensures.value (demand_for _ c.demanded.ensures c.at.ensures)) c.in_ok-demanded.was
    (go_on c.check_bounds.ensures c.in_ok-check_bounds.was
    c.check_moves.ensures)
