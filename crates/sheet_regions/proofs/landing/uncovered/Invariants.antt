use mathlib.Core.Path.{◌≡◌}
use Prim.Native.Nat.{◌+◌, ◌-◌, ◌≤◌}
use Rattle.model.specs.Blocks.{volume}
use Rattle.sheet_bytes.specs.Cuts.{all_three}
use Rattle.sheet_regions.specs.Shares.{shares_three}
use Rattle.sheet_regions.proofs.landing.uncovered.Given as goal

abbrev pub invariant-loop-j : goal.invariant-loop-j
invariant-loop-j l = (l.j ≤ l.j-end) × (l.left + shares_three l.s l.b l.m l.j ≡ volume (all_three l.b))

abbrev pub decreases-loop-j : goal.decreases-loop-j
decreases-loop-j l = l.j-end - l.j
