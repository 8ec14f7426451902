use Prim.Native.Nat.{◌-◌, ◌≤◌}
use Rattle.table_rules.specs.Depths.{DeepBelow}
use Rattle.table_rows.proofs.depths.reached_depth.Given as goal

abbrev pub invariant-loop-a : goal.invariant-loop-a
invariant-loop-a l = (l.a ≤ l.actions) × (l.low ≤ 65534) × DeepBelow l.targets l.bounds l.i l.low l.a

abbrev pub decreases-loop-a : goal.decreases-loop-a
decreases-loop-a l = l.actions - l.a
