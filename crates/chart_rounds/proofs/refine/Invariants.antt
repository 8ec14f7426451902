use mathlib.Core.Path.{◌≡◌}
use Prim.Native.Nat.{ℕ, ◌-◌, ◌≤◌, ◌<◌}
use lib.ListN.{get_or}
use Rattle.systems.specs.Search.{least}
use Rattle.model.specs.Chart.{blocks_of, refines}
use Rattle.chart_bytes.specs.Classes.{entry}
use Rattle.chart_rounds.proofs.refine.Given as goal

abbrev pub invariant-loop-i : goal.invariant-loop-i
invariant-loop-i l =
    (l.i ≤ l.i-end) × ((k : ℕ) → k < l.i → get_or l.g k 0 ≡ least (refines l.c (entry l.f) k) (blocks_of l.c))

abbrev pub decreases-loop-i : goal.decreases-loop-i
decreases-loop-i l = l.i-end - l.i
