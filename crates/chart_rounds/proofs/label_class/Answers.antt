use mathlib.Core.Path.{refl}
use native.Mathlib.Omega.{arith}
use Rattle.systems.proofs.Laws.{below_next}
use Rattle.chart_bytes.specs.Classes.{label_found, label_other}
use Rattle.chart_rounds.proofs.label_class.Goals as goal

pub loop-j-init : goal.loop-j-init
loop-j-init c = (omega arith, λ k h. absurd (omega arith))

pub returns-then-label : goal.returns-then-label
returns-then-label c =
    let s = c.args in
    let l = c.loop-j in
    label_found s.c.now s.i l.j l.invariant.0 (omega arith) l.invariant.1 c.label.ensures c.label-label.ensures c.if-label.true

pub loop-j-preserved : goal.loop-j-preserved
loop-j-preserved c =
    let s = c.args in
    let l = c.loop-j in
    (omega arith, below_next l.j l.invariant.1 (label_other s.c.now s.i l.j c.label.ensures c.label-label.ensures c.if-label.false))

pub returns : goal.returns
returns c =
    let s = c.args in
    let l = c.loop-j in
    label_found s.c.now s.i s.i (omega arith) (omega arith) (λ k h. l.invariant.1 k (omega arith)) c.label-label.ensures c.label-label.ensures refl
