use native.Mathlib.Omega.{arith}
use Rattle.systems.specs.Search.{least}
use Rattle.model.specs.Chart.{blocks_of, refines}
use Rattle.chart_bytes.specs.Classes.{entry, store_next}
use Rattle.chart_rounds.proofs.refine.Goals as goal

pub loop-i-init : goal.loop-i-init
loop-i-init c = (omega arith, λ k h. absurd (omega arith))

pub refined_class-requires : goal.refined_class-requires
refined_class-requires c = record { ordered = c.requires.ordered; i_bound = omega arith }

pub overflow_cast-g : goal.overflow_cast-g
overflow_cast-g c = omega arith

pub bounds-g-i : goal.bounds-g-i
bounds-g-i c = omega arith

pub loop-i-preserved : goal.loop-i-preserved
loop-i-preserved c =
    let s = c.args in
    let l = c.loop-i in (
      omega arith,
      store_next l.g l.i c.refined_class.result (λ k. least (refines s.c.now (entry s.f.now) k) (blocks_of s.c.now)) (omega arith)
          c.refined_class.ensures.0
          l.invariant.1,
    )

pub returns : goal.returns
returns c =
    let l = c.loop-i in
    record { refined = record { at = λ i h. l.invariant.1 i (omega arith) } }
