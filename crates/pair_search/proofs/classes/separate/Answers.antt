use mathlib.Core.Path.{refl, ◌∙◌}
use native.Mathlib.Omega.{arith}
use lib.ListN.{length-set}
use Rattle.chart_bytes.specs.Classes.{store_next}
use Rattle.pair_search.proofs.classes.separate.Goals as goal

pub loop-z-init : goal.loop-z-init
loop-z-init c = (omega arith, refl, λ k h. absurd (omega arith))

pub overflow_cast-classes : goal.overflow_cast-classes
overflow_cast-classes c = omega arith

pub offset_bounds-classes-z : goal.offset_bounds-classes-z
offset_bounds-classes-z c = omega arith

pub bounds-classes-z : goal.bounds-classes-z
bounds-classes-z c = omega arith

pub loop-z-preserved : goal.loop-z-preserved
loop-z-preserved c =
    let l = c.loop-z in (
      omega arith,
      length-set l.classes l.z l.z ∙ l.invariant.1,
      store_next l.classes l.z l.z (λ k. k) (omega arith) refl l.invariant.2,
    )

pub returns : goal.returns
returns c =
    let l = c.loop-z in
    λ z h. l.invariant.2 z (omega arith)
