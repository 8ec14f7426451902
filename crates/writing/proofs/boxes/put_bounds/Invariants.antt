use Prim.Native.Nat.{◌-◌, ◌≤◌}
use mathlib.Core.Path.{◌≡◌}
use lib.ListN.{length}
use Rattle.systems.specs.Lists.{collect}
use Rattle.writing.specs.Stored.{stored}
use Rattle.writing.specs.BoxBytes.{bound_bytes}
use Rattle.writing.proofs.boxes.put_bounds.Given as goal

abbrev pub invariant-loop-b : goal.invariant-loop-b
invariant-loop-b l = (l.b ≤ l.n) × (length l.out ≡ length l.initial.out) × (l.out ≡ stored l.initial.out l.at (collect (bound_bytes l.width l.cells l.i) l.b))

abbrev pub decreases-loop-b : goal.decreases-loop-b
decreases-loop-b l = l.n - l.b
