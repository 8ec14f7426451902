use mathlib.Core.Path.{◌≡◌, ap, ◌∙◌}
use native.Mathlib.Omega.{arith}
use Rattle.model.specs.Chart.{actions_of, next_in}
use Rattle.chart_form.specs.Records.{next_none, next_more}
use Rattle.chart_form.proofs.numbering.next_in.Goals as goal

pub loop-a-init : goal.loop-a-init
loop-a-init c = record { next = next_none c.args.c.now c.args.i c.args.before; few = c.requires.i_bound.1 }

pub loop-a-preserved : goal.loop-a-preserved
loop-a-preserved c =
    let s = c.args in
    let l = c.loop-a in
    record {
      next = next_more s.c.now s.i s.before l.a l.invariant.next c.target_of.ensures.0 c.next_after-next.ensures.0;
      few = c.next_after-next.ensures.1;
    }

pub returns : goal.returns
returns c =
    let s = c.args in
    let l = c.loop-a in
    let e : l.a ≡ actions_of s.c.now = omega arith in
    (l.invariant.next ∙ ap (next_in s.c.now s.i s.before) e, l.invariant.few)
