use mathlib.Core.Path.{ap, ◌∙◌}
use native.Mathlib.Omega.{arith}
use Rattle.answer_rules.proofs.Stages.{each_none, loop_stop, loop_more, loop_end, handed_up}
use Rattle.model.specs.Chart.{blocks_of, next_unnamed}
use Rattle.chart_form.specs.Form.{number_check, numbers_check}
use Rattle.chart_form.specs.Records.{unnamed_none, unnamed_more}
use Rattle.chart_form.proofs.numbering.check_numbers.Goals as goal

pub loop-i-init : goal.loop-i-init
loop-i-init c =
    let s = c.args.c.now in
    record {
      next = unnamed_none s;
      few = omega arith;
      passed = each_none (λ i. number_check s i (next_unnamed s i));
    }

pub returns-in_err-check_number : goal.returns-in_err-check_number
unfolding numbers_check
returns-in_err-check_number c =
    let s = c.args.c.now in
    let l = c.loop-i in
    handed_up c.from_residual.ensures
    ∙ loop_stop (λ i. number_check s i (next_unnamed s i)) l.i (blocks_of s) l.invariant.passed (c.check_number.ensures ∙ ap (number_check s l.i) l.invariant.next)
    c.in_err-check_number.was (omega arith)

pub loop-i-preserved : goal.loop-i-preserved
loop-i-preserved c =
    let s = c.args.c.now in
    let l = c.loop-i in
    record {
      next = unnamed_more s l.i l.invariant.next c.next_in-next.ensures.0;
      few = c.next_in-next.ensures.1;
      passed = loop_more (λ i. number_check s i (next_unnamed s i)) l.i l.invariant.passed (c.check_number.ensures ∙ ap (number_check s l.i) l.invariant.next)
          c.in_ok-check_number.was;
    }

pub returns : goal.returns
unfolding numbers_check
returns c =
    let s = c.args.c.now in
    let l = c.loop-i in
    loop_end (λ i. number_check s i (next_unnamed s i)) l.i (blocks_of s) l.invariant.passed (omega arith) (omega arith)
