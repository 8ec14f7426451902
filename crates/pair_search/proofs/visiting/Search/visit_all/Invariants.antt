use Prim.Native.Nat.{◌-◌, ◌≤◌}
use Rattle.pair_search.specs.Search.{Searched}
use Rattle.pair_search.proofs.visiting.Search.visit_all.Given as goal

abbrev pub invariant-loop-head : goal.invariant-loop-head
invariant-loop-head l = (l.head ≤ l.size) × Searched l.charts.first.now l.charts.second.now l.self l.size l.head 0

abbrev pub decreases-loop-head : goal.decreases-loop-head
decreases-loop-head l = 510 - l.head
