use Rattle.table_rules.specs.Meaning.{NoneHolds}
use Rattle.table_rows.proofs.search.scan.Given as goal

abbrev pub invariant-loop-k : goal.invariant-loop-k
invariant-loop-k l = NoneHolds l.counters l.cells l.homes l.x l.k
