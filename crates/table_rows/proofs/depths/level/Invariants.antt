use Rattle.table_rules.specs.Depths.{Levelled}
use Rattle.table_rows.proofs.depths.level.Given as goal

abbrev pub invariant-loop-k : goal.invariant-loop-k
invariant-loop-k l = Levelled l.initial.bounds l.bounds l.n l.depth
