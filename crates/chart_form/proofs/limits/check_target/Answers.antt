use Rattle.std.proofs.Common.{ap, ◌∙◌, ltb, eq-eqb, ne_eqb}
use Rattle.answer_rules.proofs.Stages.{demand_for}
use Rattle.model.specs.Chart.{blocks_of}
use Rattle.chart_form.specs.Records.{first_holds, second_made, target_tested}
use Rattle.chart_form.proofs.limits.check_target.Goals.{then-target-eq255, else-target-eq255}
use Rattle.chart_form.proofs.limits.check_target.Goals as goal

pub returns : goal.returns
returns c =
    let s = c.args in
    let t = c.target_of-target.result in
    target_tested s.c.now s.i s.a c.target_of-target.ensures.0 c.target_at.ensures.0
    (elim c.if-target-eq255.branch [
      | then-target-eq255 w ↦ first_holds (ltb t (blocks_of s.c.now)) (eq-eqb t 255 w.if-target-eq255.true) w.demanded-is
      | else-target-eq255 w ↦ second_made (ne_eqb t 255 w.if-target-eq255.false) (w.demanded-is ∙ ap (ltb t) w.blocks-else-target-eq255.ensures.value)
    ])
    (demand_for _ c.demanded.ensures c.at.ensures)
