use Prim.Native.Nat.{◌-◌, ◌≤◌}
use Rattle.sheet_bytes.specs.Three.{shape_of}
use Rattle.table_passes.specs.Steps.{Turning}
use Rattle.table_passes.proofs.steps.turn.Given as goal

abbrev pub invariant-loop-a : goal.invariant-loop-a
invariant-loop-a l =
    (l.a ≤ l.actions) × Turning l.s (shape_of l.s) l.initial.table.cells l.initial.table.homes l.initial.table.targets l.initial.table.flags l.initial.table.bounds l.n l.table.cells l.table.homes l.table.targets l.table.flags l.table.bounds l.i l.a l.n

abbrev pub decreases-loop-a : goal.decreases-loop-a
decreases-loop-a l = l.actions - l.a
