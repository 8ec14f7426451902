use mathlib.Core.Path.{refl}
use native.Mathlib.Omega.{arith}
use Rattle.model.specs.Chart.{record_at}
use Rattle.chart_bytes.specs.HeaderLaws.{length_small}
use Rattle.access_sequence.proofs.chart_length.Goals as goal

pub overflow_mul-result : goal.overflow_mul-result
overflow_mul-result c = omega (arith, length_small c.args.buffer.now c.requires)

pub overflow_add-result-2 : goal.overflow_add-result-2
overflow_add-result-2 c = omega (arith, length_small c.args.buffer.now c.requires)

pub returns : goal.returns
unfolding record_at
returns c = refl
