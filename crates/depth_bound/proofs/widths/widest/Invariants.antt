use Prim.Native.Nat.{ℕ, ◌-◌, ◌≤◌, ◌<◌}
use Rattle.sheet_rules.specs.Decode.{decode}
use Rattle.depth_bound.specs.Depth.{NarrowRegion}
use Rattle.depth_bound.proofs.widths.widest.Given as goal

abbrev pub invariant-loop-i : goal.invariant-loop-i
invariant-loop-i l = (l.i ≤ l.i-end) × (l.w ≤ 2000001) × ((k : ℕ) → k < l.i → NarrowRegion (decode l.s) l.w k)

abbrev pub decreases-loop-i : goal.decreases-loop-i
decreases-loop-i l = l.i-end - l.i
