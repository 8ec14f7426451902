use native.Mathlib.Omega.{arith}
use Rattle.model.specs.Chart.{round_class}
use Rattle.chart_bytes.specs.Classes.{store_next}
use Rattle.chart_rounds.proofs.by_labels.Goals as goal

pub loop-i-init : goal.loop-i-init
loop-i-init c = (omega arith, λ k h. absurd (omega arith))

pub overflow_cast-f : goal.overflow_cast-f
overflow_cast-f c = omega arith

pub bounds-f-i : goal.bounds-f-i
bounds-f-i c = omega arith

pub loop-i-preserved : goal.loop-i-preserved
loop-i-preserved c =
    let s = c.args in
    let l = c.loop-i in (
      omega arith,
      store_next l.f l.i c.label_class.result (round_class s.c.now 0) (omega arith) c.label_class.ensures.0 l.invariant.1,
    )

pub returns : goal.returns
returns c =
    let l = c.loop-i in
    record { holds = record { at = λ i h. l.invariant.1 i (omega arith) } }
