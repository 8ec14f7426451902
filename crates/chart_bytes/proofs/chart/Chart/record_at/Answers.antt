use mathlib.Core.Path.{refl}
use native.Mathlib.Omega.{arith}
use Rattle.model.specs.Chart.{record_at}
use Rattle.chart_bytes.specs.Shape.{record_small}
use Rattle.chart_bytes.proofs.chart.Chart.record_at.Goals as goal

pub overflow_mul-result : goal.overflow_mul-result
overflow_mul-result c =
    let n = record_small c.args.self.now c.actions.ensures.shaped c.args.i c.requires in
    rw c.actions.ensures.value (omega arith)

pub overflow_add-result-2 : goal.overflow_add-result-2
overflow_add-result-2 c =
    let n = record_small c.args.self.now c.actions.ensures.shaped c.args.i c.requires in
    rw c.actions.ensures.value (omega arith)

pub returns-clause-value : goal.returns-clause-value
unfolding record_at
returns-clause-value c = rw (c.actions.ensures.value, record_at) refl
