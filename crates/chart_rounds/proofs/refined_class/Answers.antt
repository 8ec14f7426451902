use mathlib.Core.Path.{sym, ◌∙◌}
use native.Mathlib.Omega.{arith}
use Rattle.systems.proofs.Laws.{below_next}
use Rattle.chart_bytes.specs.Classes.{entry, class_found, refines_refl, class_below}
use Rattle.chart_rounds.proofs.refined_class.Goals as goal

pub bounds-f-i : goal.bounds-f-i
bounds-f-i c = omega arith

pub overflow_step-j : goal.overflow_step-j
overflow_step-j c =
    let b = c.requires.ordered c.args.i c.requires.i_bound in
    omega arith

pub loop-j-init : goal.loop-j-init
loop-j-init c =
    let o = c.requires.ordered in
    let h = c.requires.i_bound in
    (o c.args.i h, class_below c.args.c.now c.args.f.now c.args.i o h)

pub returns-then-agrees : goal.returns-then-agrees
returns-then-agrees c =
    let s = c.args in
    let l = c.loop-j in
    class_found s.c.now s.f.now s.i l.j l.invariant.0 (omega arith) l.invariant.1 (sym c.agrees.ensures ∙ c.if-agrees.true)

pub loop-j-preserved : goal.loop-j-preserved
loop-j-preserved c =
    let l = c.loop-j in
    (omega arith, below_next l.j l.invariant.1 (sym c.agrees.ensures ∙ c.if-agrees.false))

pub returns : goal.returns
returns c =
    let s = c.args in
    let l = c.loop-j in
    class_found s.c.now s.f.now s.i s.i (omega arith) (omega arith) (λ k h. l.invariant.1 k (omega arith)) (refines_refl s.c.now (entry s.f.now) s.i)
