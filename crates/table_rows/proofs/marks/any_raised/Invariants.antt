use Prim.Native.Nat.{◌-◌, ◌≤◌}
use Rattle.table_rules.specs.Marks.{DownBelow}
use Rattle.table_rows.proofs.marks.any_raised.Given as goal

abbrev pub invariant-loop-b : goal.invariant-loop-b
invariant-loop-b l = (l.b ≤ l.actions) × DownBelow l.flags l.k l.b

abbrev pub decreases-loop-b : goal.decreases-loop-b
decreases-loop-b l = l.actions - l.b
