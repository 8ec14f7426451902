use native.Mathlib.Omega.{arith}
use Rattle.answer_rules.proofs.Stages.{demand_for}
use Rattle.model.specs.Chart.{record_at}
use Rattle.chart_bytes.specs.Header.{length_check}
use Rattle.chart_bytes.specs.HeaderLaws.{length_small}
use Rattle.chart_bytes.proofs.header.check_length.Goals as goal

pub overflow_mul-blocks : goal.overflow_mul-blocks
overflow_mul-blocks c = omega (arith, length_small c.args.c.now c.requires)

pub overflow_add-blocks : goal.overflow_add-blocks
overflow_add-blocks c = omega (arith, length_small c.args.c.now c.requires)

pub returns : goal.returns
unfolding length_check record_at
returns c = demand_for _ c.demanded.ensures c.at.ensures
