use Prim.Native.Nat.{ℕ, ◌-◌, ◌≤◌, ◌<◌}
use Rattle.sheet_rules.specs.Decode.{decode}
use Rattle.depth_bound.specs.Depth.{UnitRegion}
use Rattle.depth_bound.proofs.factors.unit_factors.Given as goal

abbrev pub invariant-loop-i : goal.invariant-loop-i
invariant-loop-i l = (l.i ≤ l.i-end) × ((k : ℕ) → k < l.i → UnitRegion (decode l.s) k)

abbrev pub decreases-loop-i : goal.decreases-loop-i
decreases-loop-i l = l.i-end - l.i
