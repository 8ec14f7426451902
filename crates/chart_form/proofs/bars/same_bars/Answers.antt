use mathlib.Core.Path.{sym, ◌∙◌}
use native.Mathlib.Omega.{arith}
use borrow.Author.Tests.{not-true, not-false}
use Rattle.answer_rules.proofs.Loops.{all_none, all_more, all_stop, all_ended}
use Rattle.model.specs.Chart.{actions_of, target_of}
use Rattle.chart_form.specs.Form.{same_bar, same_bars}
use Rattle.chart_form.specs.Records.{bar_at}
use Rattle.chart_form.proofs.bars.same_bars.Goals as goal

pub loop-a-init : goal.loop-a-init
loop-a-init c =
    let s = c.args in
    all_none (λ a. same_bar (target_of s.c.now s.i a) (target_of s.c.now s.j a))

pub returns-then-not-same_bar : goal.returns-then-not-same_bar
unfolding same_bars
returns-then-not-same_bar c =
    let s = c.args in
    let a = c.loop-a.a in
    let e = bar_at s.c.now s.i s.j a c.target_of.result c.target_of-in-loop-a.result c.target_of.ensures.0 c.target_of-in-loop-a.ensures.0 c.same_bar.ensures in
    sym (all_stop (λ a. same_bar (target_of s.c.now s.i a) (target_of s.c.now s.j a)) a (actions_of s.c.now) (e ∙ not-true c.same_bar.result c.if-not-same_bar.true-raw) (omega arith))

pub loop-a-preserved : goal.loop-a-preserved
loop-a-preserved c =
    let s = c.args in
    let l = c.loop-a in
    let e = bar_at s.c.now s.i s.j l.a c.target_of.result c.target_of-in-loop-a.result c.target_of.ensures.0 c.target_of-in-loop-a.ensures.0 c.same_bar.ensures in
    all_more (λ a. same_bar (target_of s.c.now s.i a) (target_of s.c.now s.j a)) l.a l.invariant (e ∙ not-false c.same_bar.result c.if-not-same_bar.false-raw)

pub returns : goal.returns
unfolding same_bars
returns c =
    let s = c.args in
    let l = c.loop-a in
    all_ended (λ a. same_bar (target_of s.c.now s.i a) (target_of s.c.now s.j a)) l.a (actions_of s.c.now) l.invariant (omega arith) (omega arith)
