use mathlib.Core.Path.{◌∙◌}
use native.Mathlib.Omega.{arith}
use borrow.Author.Tests.{not-true, not-false}
use Rattle.answer_rules.proofs.Loops.{all_none, all_more}
use Rattle.chart_bytes.specs.Classes.{same_at, agree_first, agree_stop, agree_all, agree_at}
use Rattle.chart_rounds.proofs.agrees.Goals as goal

pub bounds-f-j : goal.bounds-f-j
bounds-f-j c = omega arith

pub bounds-f-i : goal.bounds-f-i
bounds-f-i c = omega arith

pub returns-then-f-j : goal.returns-then-f-j
returns-then-f-j c =
    let s = c.args in
    agree_first s.c.now s.f.now s.i s.j c.if-f-j.true

pub loop-a-init : goal.loop-a-init
loop-a-init c =
    let s = c.args in
    (omega arith, all_none (same_at s.c.now s.f.now s.i s.j))

pub returns-then-not-same_target : goal.returns-then-not-same_target
returns-then-not-same_target c =
    let s = c.args in
    let a = c.loop-a.a in
    let e = agree_at s.c.now s.f.now s.i s.j a c.target_of.result c.target_of-in-loop-a.result c.target_of.ensures.0 c.target_of-in-loop-a.ensures.0 c.same_target.ensures in
    agree_stop s.c.now s.f.now s.i s.j a (omega arith) (e ∙ not-true c.same_target.result c.if-not-same_target.true-raw)

pub loop-a-preserved : goal.loop-a-preserved
loop-a-preserved c =
    let s = c.args in
    let l = c.loop-a in
    let e = agree_at s.c.now s.f.now s.i s.j l.a c.target_of.result c.target_of-in-loop-a.result c.target_of.ensures.0 c.target_of-in-loop-a.ensures.0 c.same_target.ensures in
    (omega arith, all_more (same_at s.c.now s.f.now s.i s.j) l.a l.invariant.1 (e ∙ not-false c.same_target.result c.if-not-same_target.false-raw))

pub returns : goal.returns
returns c =
    let s = c.args in
    let l = c.loop-a in
    agree_all s.c.now s.f.now s.i s.j l.a c.if-f-j.false l.invariant.1 (omega arith) (omega arith)
