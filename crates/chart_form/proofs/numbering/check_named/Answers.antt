use Rattle.std.proofs.Common.{ltb, eq-eqb, ne_eqb}
use Rattle.answer_rules.proofs.Stages.{demand_for}
use Rattle.chart_form.specs.Records.{first_holds, second_made, record_tested}
use Rattle.chart_form.proofs.numbering.check_named.Goals.{then-i-eq0, else-i-eq0}
use Rattle.chart_form.proofs.numbering.check_named.Goals as goal

pub returns : goal.returns
returns c =
    let s = c.args in
    record_tested s.c.now s.i s.next c.record_at.ensures.value
    (elim c.if-i-eq0.branch [
      | then-i-eq0 w ↦ first_holds (ltb s.i s.next) (eq-eqb s.i 0 w.if-i-eq0.true) w.demanded-is
      | else-i-eq0 w ↦ second_made (ne_eqb s.i 0 w.if-i-eq0.false) w.demanded-is
    ])
    (demand_for _ c.demanded.ensures c.at.ensures)
