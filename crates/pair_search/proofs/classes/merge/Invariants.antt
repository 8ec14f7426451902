use Prim.Native.Nat.{◌-◌, ◌≤◌}
use Rattle.pair_search.specs.Classes.{Merging}
use Rattle.pair_search.proofs.classes.merge.Given as goal

abbrev pub invariant-loop-z : goal.invariant-loop-z
invariant-loop-z l = (l.z ≤ l.n) × Merging l.initial.classes l.from l.to l.z l.classes

abbrev pub decreases-loop-z : goal.decreases-loop-z
decreases-loop-z l = l.n - l.z
