use Prim.Native.Nat.{◌-◌, ◌≤◌}
use Rattle.table_rules.specs.Marks.{RaisedTo}
use Rattle.table_rows.proofs.marks.raise.Given as goal

abbrev pub invariant-loop-b : goal.invariant-loop-b
invariant-loop-b l = (l.b ≤ l.actions) × RaisedTo l.targets l.i l.from l.n l.initial.flags l.flags l.b

abbrev pub decreases-loop-b : goal.decreases-loop-b
decreases-loop-b l = l.actions - l.b
