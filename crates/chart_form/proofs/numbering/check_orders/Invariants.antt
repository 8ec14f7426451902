use Rattle.std.specs.Prelude.{◌≡◌, ◌≤◌, Ok}
use Rattle.answer_rules.specs.Stages.{each}
use Rattle.model.specs.Chart.{next_in}
use Rattle.chart_form.specs.Form.{order_check}
use Rattle.chart_form.proofs.numbering.check_orders.Given as goal

abbrev pub invariant-loop-a : goal.invariant-loop-a
invariant-loop-a l =
    record {
      next : l.next ≡ next_in l.c l.i l.before l.a;
      few : l.next ≤ 255;
      passed : each (λ a. order_check l.c l.i a (next_in l.c l.i l.before a)) l.a ≡ Ok tt;
    }
