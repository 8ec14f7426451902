use Rattle.std.specs.Prelude.{◌≡◌, ◌≤◌, Ok}
use Rattle.answer_rules.specs.Stages.{each}
use Rattle.model.specs.Chart.{next_unnamed}
use Rattle.chart_form.specs.Form.{number_check}
use Rattle.chart_form.proofs.numbering.check_numbers.Given as goal

abbrev pub invariant-loop-i : goal.invariant-loop-i
invariant-loop-i l =
    record {
      next : l.next ≡ next_unnamed l.c l.i;
      few : l.next ≤ 255;
      passed : each (λ i. number_check l.c i (next_unnamed l.c i)) l.i ≡ Ok tt;
    }
