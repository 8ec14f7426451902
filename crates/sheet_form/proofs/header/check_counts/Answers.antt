use Rattle.std.proofs.Common.{◌∙◌}
use Rattle.answer_rules.proofs.Stages.{stop, go_on, handed_up, demand_for, demand_by}
use Rattle.answer_rules.specs.declared.Reason.TheVariants.{Count}
use Rattle.answer_rules.specs.Refusal.{at}
use Rattle.sheet_rules.specs.Form.{check_counts}
use Rattle.sheet_form.proofs.header.check_counts.Goals as goal

pub returns-in_err-demanded : goal.returns-in_err-demanded
unfolding check_counts
returns-in_err-demanded c =
    handed_up c.from_residual.ensures
    ∙ stop _ (demand_by (at Count 5) (demand_for _ c.demanded.ensures c.at.ensures) c.from_to.ensures) c.in_err-demanded.was

pub returns-in_err-demanded-2 : goal.returns-in_err-demanded-2
unfolding check_counts
returns-in_err-demanded-2 c =
    handed_up c.from_residual-in_err-demanded-2.ensures
    ∙ go_on (demand_by (at Count 5) (demand_for _ c.demanded.ensures c.at.ensures) c.from_to.ensures) c.in_ok-demanded.was
    (stop _ (demand_by (at Count 6) (demand_for _ c.demanded-2.ensures c.at-2.ensures) c.from_to-2.ensures) c.in_err-demanded-2.was)

pub returns : goal.returns
unfolding check_counts
returns c =
    go_on (demand_by (at Count 5) (demand_for _ c.demanded.ensures c.at.ensures) c.from_to.ensures) c.in_ok-demanded.was
    (go_on (demand_by (at Count 6) (demand_for _ c.demanded-2.ensures c.at-2.ensures) c.from_to-2.ensures) c.in_ok-demanded-2.was
    (demand_by (at Count 7) (demand_for _ c.demanded-3.ensures c.at-3.ensures) c.from_to-3.ensures))
