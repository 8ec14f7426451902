use Rattle.std.proofs.Common.{◌∙◌, length, le-leb}
use Rattle.std.proofs.lemmas.Bool.{lt-leb}
use Rattle.answer_rules.proofs.Stages.{demand_for}
use Rattle.chart_bytes.specs.Header.{marked}
use Rattle.chart_bytes.specs.HeaderLaws.{both_made, first_made, mark_tested}
use Rattle.chart_bytes.proofs.header.check_mark.Goals.{then-c-ge7, else-c-ge7}
use Rattle.chart_bytes.proofs.header.check_mark.Goals as goal

pub returns : goal.returns
returns c =
    let s = c.args.c.now in
    mark_tested s
    (elim c.if-c-ge7.branch [
      | then-c-ge7 w ↦ both_made (le-leb 7 (length s) w.if-c-ge7.true) (w.demanded-is ∙ w.has_mark.ensures)
      | else-c-ge7 w ↦ first_made (marked s) (lt-leb 7 (length s) w.if-c-ge7.false) w.demanded-is
    ])
    (demand_for _ c.demanded.ensures c.at.ensures)
