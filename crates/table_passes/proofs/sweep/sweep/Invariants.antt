use Prim.Native.Nat.{◌+◌, ◌≤◌}
use Rattle.sheet_bytes.specs.Three.{shape_of}
use Rattle.table_passes.specs.Passes.{Passing}
use Rattle.table_passes.proofs.sweep.sweep.Given as goal

abbrev pub invariant-loop-table : goal.invariant-loop-table
invariant-loop-table l = (l.k ≤ l.last + 1) × Passing l.s (shape_of l.s) l.initial.table.cells l.initial.table.homes l.initial.table.flags l.n l.table.cells l.table.homes l.table.targets l.table.flags l.table.bounds l.k

abbrev pub decreases-loop-table : goal.decreases-loop-table
decreases-loop-table l = l.k
