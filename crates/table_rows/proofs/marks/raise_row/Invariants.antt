use Prim.Native.Nat.{◌-◌, ◌≤◌}
use Rattle.table_rules.specs.Marks.{RowRaisedTo}
use Rattle.table_rows.proofs.marks.raise_row.Given as goal

abbrev pub invariant-loop-b : goal.invariant-loop-b
invariant-loop-b l = (l.b ≤ 8) × RowRaisedTo l.initial.flags l.flags l.k l.b

abbrev pub decreases-loop-b : goal.decreases-loop-b
decreases-loop-b l = 8 - l.b
