use Rattle.sheet_bytes.specs.Three.{shape_of}
use Rattle.table_passes.specs.Steps.{measure_in}
use Rattle.table_passes.specs.Passes.{Sweeping}
use Rattle.minimize.proofs.table.stabilize.Given as goal

abbrev pub invariant-loop-last : goal.invariant-loop-last
invariant-loop-last l = Sweeping l.s (shape_of l.s) l.table.cells l.table.homes l.table.targets l.table.flags l.table.bounds l.n l.m l.depth l.before

abbrev pub decreases-loop-last : goal.decreases-loop-last
decreases-loop-last l = measure_in (shape_of l.s) l.table.cells l.table.homes l.table.flags l.n
