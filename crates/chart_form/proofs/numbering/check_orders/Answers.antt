use mathlib.Core.Path.{ap, ◌∙◌}
use native.Mathlib.Omega.{arith}
use Rattle.answer_rules.proofs.Stages.{each_none, loop_stop, loop_more, loop_end, handed_up}
use Rattle.model.specs.Chart.{actions_of, next_in}
use Rattle.chart_form.specs.Form.{order_check}
use Rattle.chart_form.specs.Records.{next_none, next_more}
use Rattle.chart_form.proofs.numbering.check_orders.Goals as goal

pub loop-a-init : goal.loop-a-init
loop-a-init c =
    let s = c.args in
    record {
      next = next_none s.c.now s.i s.before;
      few = c.requires.i_bound.1;
      passed = each_none (λ a. order_check s.c.now s.i a (next_in s.c.now s.i s.before a));
    }

pub returns-in_err-check_order : goal.returns-in_err-check_order
returns-in_err-check_order c =
    let s = c.args in
    let l = c.loop-a in
    handed_up c.from_residual.ensures
    ∙ loop_stop (λ a. order_check s.c.now s.i a (next_in s.c.now s.i s.before a)) l.a (actions_of s.c.now) l.invariant.passed
    (c.check_order.ensures ∙ ap (order_check s.c.now s.i l.a) l.invariant.next) c.in_err-check_order.was (omega arith)

pub loop-a-preserved : goal.loop-a-preserved
loop-a-preserved c =
    let s = c.args in
    let l = c.loop-a in
    record {
      next = next_more s.c.now s.i s.before l.a l.invariant.next c.target_of.ensures.0 c.next_after-next.ensures.0;
      few = c.next_after-next.ensures.1;
      passed = loop_more (λ a. order_check s.c.now s.i a (next_in s.c.now s.i s.before a)) l.a l.invariant.passed
          (c.check_order.ensures ∙ ap (order_check s.c.now s.i l.a) l.invariant.next) c.in_ok-check_order.was;
    }

pub returns : goal.returns
returns c =
    let s = c.args in
    let l = c.loop-a in
    loop_end (λ a. order_check s.c.now s.i a (next_in s.c.now s.i s.before a)) l.a (actions_of s.c.now) l.invariant.passed (omega arith) (omega arith)
