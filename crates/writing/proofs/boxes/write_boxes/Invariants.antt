use Prim.Native.Nat.{◌-◌, ◌≤◌}
use mathlib.Core.Path.{◌≡◌}
use lib.ListN.{length}
use Rattle.systems.specs.Lists.{collect}
use Rattle.writing.specs.Numbers.{entry_in}
use Rattle.writing.specs.Stored.{stored}
use Rattle.writing.specs.BoxBytes.{row_bytes}
use Rattle.writing.proofs.boxes.write_boxes.Given as goal

abbrev pub invariant-loop-k : goal.invariant-loop-k
invariant-loop-k l =
    (l.k ≤ l.n) × (length l.out ≡ length l.initial.out) × (l.out ≡ stored l.initial.out 0 (collect (λ j. row_bytes l.shape.width l.shape.counters l.cells l.homes (entry_in l.order j)) l.k))

abbrev pub decreases-loop-k : goal.decreases-loop-k
decreases-loop-k l = l.n - l.k
