use Prim.Native.Nat.{ℕ, ◌-◌, ◌≤◌, ◌<◌}
use Rattle.depth_rules.specs.DepthBound.{UnitMove}
use Rattle.sheet_rules.specs.Decode.{move_at}
use Rattle.depth_bound.proofs.factors.unit_region.Given as goal

abbrev pub invariant-loop-a : goal.invariant-loop-a
invariant-loop-a l = (l.a ≤ l.a-end) × ((k : ℕ) → k < l.a → UnitMove (move_at l.s l.i k))

abbrev pub decreases-loop-a : goal.decreases-loop-a
decreases-loop-a l = l.a-end - l.a
