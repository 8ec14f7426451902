use mathlib.Core.Path.{◌≡◌}
use Prim.Native.Nat.{◌-◌, ◌^◌, ◌≤◌}
use Rattle.depth_bound.proofs.widths.doublings_of.Given as goal

abbrev pub invariant-loop-reach : goal.invariant-loop-reach
invariant-loop-reach l = (l.m ≤ 21) × (l.reach ≡ 2 ^ l.m)

abbrev pub decreases-loop-reach : goal.decreases-loop-reach
decreases-loop-reach l = 2000001 - l.reach
