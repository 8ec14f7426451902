use Rattle.table_rules.specs.Depths.{AtLeast}
use Rattle.table_rows.proofs.depths.common_depth.Given as goal

abbrev pub invariant-loop-k : goal.invariant-loop-k
invariant-loop-k l = AtLeast l.bounds l.k l.low
