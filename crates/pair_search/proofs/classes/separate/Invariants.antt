use mathlib.Core.Path.{◌≡◌}
use Prim.Native.Nat.{ℕ, ◌-◌, ◌≤◌, ◌<◌}
use lib.ListN.{length, get_or}
use Rattle.pair_search.proofs.classes.separate.Given as goal

abbrev pub invariant-loop-z : goal.invariant-loop-z
invariant-loop-z l = (l.z ≤ l.n) × (length l.classes ≡ length l.initial.classes) × ((k : ℕ) → k < l.z → get_or l.classes k 0 ≡ k)

abbrev pub decreases-loop-z : goal.decreases-loop-z
decreases-loop-z l = l.n - l.z
