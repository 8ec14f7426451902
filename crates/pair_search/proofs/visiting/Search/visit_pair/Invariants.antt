use Prim.Native.Nat.{◌-◌, ◌≤◌}
use Rattle.pair_search.specs.Search.{Searched}
use Rattle.pair_search.proofs.visiting.Search.visit_pair.Given as goal

abbrev pub invariant-loop-a : goal.invariant-loop-a
invariant-loop-a l = (l.a ≤ l.a-end) × (l.size ≤ l.queued) × Searched l.charts.first.now l.charts.second.now l.self l.queued l.head l.a

abbrev pub decreases-loop-a : goal.decreases-loop-a
decreases-loop-a l = l.a-end - l.a
