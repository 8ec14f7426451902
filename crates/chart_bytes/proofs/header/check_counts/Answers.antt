use Rattle.std.proofs.Common.{◌≡◌, ◌∙◌, ◌&&◌, le-leb, leb}
use Rattle.std.proofs.lemmas.Bool.{lt-leb}
use native.Mathlib.Omega.{arith}
use Rattle.answer_rules.proofs.Stages.{stop, go_on, handed_up, demand_for, demand_by}
use Rattle.answer_rules.specs.Refusal.{at}
use Rattle.answer_rules.specs.declared.Reason.TheVariants.{Count}
use Rattle.model.specs.Chart.{actions_of}
use Rattle.chart_bytes.specs.Header.{count_check}
use Rattle.chart_bytes.specs.HeaderLaws.{both_made, first_made, blocks_some}
use Rattle.chart_bytes.proofs.header.check_counts.Goals.{then-c-ge1, else-c-ge1}
use Rattle.chart_bytes.proofs.header.check_counts.Goals as goal

pub returns-in_err-demanded : goal.returns-in_err-demanded
unfolding count_check
returns-in_err-demanded c =
    let n = actions_of c.args.c.now in
    let e : c.if-c-ge1.demanded ≡ (leb 1 n && leb n 8) =
    elim c.if-c-ge1.branch [
      | then-c-ge1 w ↦ both_made (le-leb 1 n w.if-c-ge1.true) w.demanded-is
      | else-c-ge1 w ↦ first_made (leb n 8) (lt-leb 1 n w.if-c-ge1.false) w.demanded-is
    ]
    in
    handed_up c.from_residual.ensures ∙ stop _ (demand_by (at Count 5) (demand_for _ c.demanded.ensures c.at.ensures) e) c.in_err-demanded.was

pub returns : goal.returns
unfolding count_check
returns c =
    let n = actions_of c.args.c.now in
    let e : c.if-c-ge1.demanded ≡ (leb 1 n && leb n 8) =
    elim c.if-c-ge1.branch [
      | then-c-ge1 w ↦ both_made (le-leb 1 n w.if-c-ge1.true) w.demanded-is
      | else-c-ge1 w ↦ first_made (leb n 8) (lt-leb 1 n w.if-c-ge1.false) w.demanded-is
    ]
    in
    go_on
    (demand_by (at Count 5) (demand_for _ c.demanded.ensures c.at.ensures) e)
    c.in_ok-demanded.was
    (demand_by (at Count 6) (demand_for _ c.demanded-2.ensures c.at-2.ensures) (blocks_some c.args.c.now (omega (arith, c.type_inv.c 6))))
