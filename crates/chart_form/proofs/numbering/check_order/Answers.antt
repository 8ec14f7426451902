use Rattle.std.proofs.Common.{leb, eq-eqb, ne_eqb}
use Rattle.answer_rules.proofs.Stages.{demand_for}
use Rattle.chart_form.specs.Records.{first_holds, second_made, order_tested}
use Rattle.chart_form.proofs.numbering.check_order.Goals.{then-target-eq255, else-target-eq255}
use Rattle.chart_form.proofs.numbering.check_order.Goals as goal

pub returns : goal.returns
returns c =
    let s = c.args in
    let t = c.target_of-target.result in
    order_tested s.c.now s.i s.a s.next c.target_of-target.ensures.0 c.target_at.ensures.0
    (elim c.if-target-eq255.branch [
      | then-target-eq255 w ↦ first_holds (leb t s.next) (eq-eqb t 255 w.if-target-eq255.true) w.demanded-is
      | else-target-eq255 w ↦ second_made (ne_eqb t 255 w.if-target-eq255.false) w.demanded-is
    ])
    (demand_for _ c.demanded.ensures c.at.ensures)
