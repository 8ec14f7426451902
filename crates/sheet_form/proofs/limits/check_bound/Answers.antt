use mir.Syntax.{w64}
use mir.Val.{SFits}
use mir.ValLaws.{to_z-of_z}
use Rattle.std.proofs.Common.{rules}
use native.Mathlib.Omega.{arith}
use Rattle.std.proofs.Common.{◌∙◌}
use Rattle.answer_rules.proofs.Stages.{stop, go_on, handed_up, demand_for}
use Rattle.sheet_bytes.specs.Fields.{low_within, sheet_short}
use Rattle.sheet_rules.specs.Form.{check_bound}
use Rattle.sheet_form.specs.Limits.{low_stage, high_stage, order_stage}
use Rattle.sheet_form.proofs.limits.check_bound.Goals as goal

pub overflow_add-high : goal.overflow_add-high
overflow_add-high c =
    omega (arith, c.low_place-low.ensures.value, sheet_short c.shape.ensures.read, low_within c.shape.ensures.read c.args.i c.args.v c.requires.0 c.requires.1)

pub returns-in_err-demanded : goal.returns-in_err-demanded
unfolding check_bound
returns-in_err-demanded c =
    let fl : SFits w64 c.range_at-range.result.low = search rules in
    handed_up c.from_residual.ensures
    ∙ stop _ (low_stage c.shape.ensures.read c.args.i c.args.v c.low_place-low.result c.low_place-low.ensures.value c.range_at-range.ensures (simp (to_z-of_z w64) at c.near_zero.ensures) (demand_for _ c.demanded.ensures c.at.ensures)) c.in_err-demanded.was

pub returns-in_err-demanded-2 : goal.returns-in_err-demanded-2
unfolding check_bound
returns-in_err-demanded-2 c =
    let fl : SFits w64 c.range_at-range.result.low = search rules in
    let fh : SFits w64 c.range_at-range.result.high = search rules in
    handed_up c.from_residual-in_err-demanded-2.ensures
    ∙ go_on (low_stage c.shape.ensures.read c.args.i c.args.v c.low_place-low.result c.low_place-low.ensures.value c.range_at-range.ensures (simp (to_z-of_z w64) at c.near_zero.ensures) (demand_for _ c.demanded.ensures c.at.ensures)) c.in_ok-demanded.was
    (stop _ (high_stage c.shape.ensures.read c.args.i c.args.v c.low_place-low.result c.low_place-low.ensures.value c.range_at-range.ensures (simp (to_z-of_z w64) at c.near_zero-2.ensures) (demand_for _ c.demanded-2.ensures c.at-2.ensures)) c.in_err-demanded-2.was)

pub returns : goal.returns
unfolding check_bound
returns c =
    let fl : SFits w64 c.range_at-range.result.low = search rules in
    let fh : SFits w64 c.range_at-range.result.high = search rules in
    go_on (low_stage c.shape.ensures.read c.args.i c.args.v c.low_place-low.result c.low_place-low.ensures.value c.range_at-range.ensures (simp (to_z-of_z w64) at c.near_zero.ensures) (demand_for _ c.demanded.ensures c.at.ensures)) c.in_ok-demanded.was
    (go_on (high_stage c.shape.ensures.read c.args.i c.args.v c.low_place-low.result c.low_place-low.ensures.value c.range_at-range.ensures (simp (to_z-of_z w64) at c.near_zero-2.ensures) (demand_for _ c.demanded-2.ensures c.at-2.ensures)) c.in_ok-demanded-2.was
    (order_stage c.shape.ensures.read c.args.i c.args.v c.low_place-low.result c.low_place-low.ensures.value c.range_at-range.ensures (demand_for _ (simp (to_z-of_z w64) at c.demanded-3.ensures) c.at-3.ensures)))
