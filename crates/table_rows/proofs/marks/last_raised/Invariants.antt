use Rattle.table_rules.specs.Marks.{DownFrom}
use Rattle.table_rows.proofs.marks.last_raised.Given as goal

abbrev pub invariant-loop-k : goal.invariant-loop-k
invariant-loop-k l = DownFrom l.flags l.actions l.k l.n
