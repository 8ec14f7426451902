use Prim.Native.Nat.{◌-◌, ◌≤◌}
use mathlib.Core.Path.{◌≡◌}
use lib.ListN.{length}
use Rattle.systems.specs.Lists.{collect}
use Rattle.writing.specs.Stored.{stored}
use Rattle.writing.specs.ChartBytes.{target_byte}
use Rattle.writing.proofs.chart.put_targets.Given as goal

abbrev pub invariant-loop-a : goal.invariant-loop-a
invariant-loop-a l =
    (l.a ≤ l.actions) × (length l.out ≡ length l.initial.out) × (l.out ≡ stored l.initial.out l.at (collect (target_byte l.targets l.number l.i) l.a))

abbrev pub decreases-loop-a : goal.decreases-loop-a
decreases-loop-a l = l.actions - l.a
