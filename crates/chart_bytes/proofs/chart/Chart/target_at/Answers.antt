use native.Mathlib.Omega.{arith}
use Rattle.chart_bytes.specs.Shape.{shaped_small, target_place}
use Rattle.chart_bytes.proofs.chart.Chart.target_at.Goals as goal

pub overflow_add-result : goal.overflow_add-result
overflow_add-result c =
    omega (arith, shaped_small c.args.self.now c.record_at.ensures.shaped, (target_place c.args.self.now c.record_at.ensures.shaped c.args.i c.args.a c.record_at.result c.requires.0 c.requires.1 c.record_at.ensures.value).1)

pub overflow_add-result-2 : goal.overflow_add-result-2
overflow_add-result-2 c =
    omega (arith, shaped_small c.args.self.now c.record_at.ensures.shaped, (target_place c.args.self.now c.record_at.ensures.shaped c.args.i c.args.a c.record_at.result c.requires.0 c.requires.1 c.record_at.ensures.value).1)

pub returns : goal.returns
returns c =
    target_place c.args.self.now c.record_at.ensures.shaped c.args.i c.args.a c.record_at.result c.requires.0 c.requires.1 c.record_at.ensures.value
