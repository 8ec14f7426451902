use Prim.Native.Nat.{ℕ, ◌-◌, ◌≤◌, ◌<◌}
use Rattle.model.specs.Rounds.{Parted}
use Rattle.chart_bytes.specs.Classes.{Holds}
use Rattle.chart_rounds.proofs.refine_all.Given as goal

abbrev pub invariant-loop-k : goal.invariant-loop-k
invariant-loop-k l = (l.k ≤ l.n) × Holds l.c l.k l.f × ((m : ℕ) → m < l.k → Parted l.c m)

abbrev pub decreases-loop-k : goal.decreases-loop-k
decreases-loop-k l = l.n - l.k
