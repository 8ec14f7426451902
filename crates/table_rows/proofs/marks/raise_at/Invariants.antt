use Prim.Native.Nat.{◌+◌, ◌-◌, ◌≤◌}
use lib.ListN.{get_or}
use Rattle.table_rules.specs.Marks.{raised_by, StoredFrom}
use Rattle.table_rows.proofs.marks.raise_at.Given as goal

abbrev pub invariant-loop-k : goal.invariant-loop-k
invariant-loop-k l =
    (l.k ≤ l.n) × StoredFrom (λ j. raised_by (get_or l.targets (l.at + j) 0) l.i (get_or l.initial.flags (l.at + j) 0)) l.initial.flags l.flags l.at l.k

abbrev pub decreases-loop-k : goal.decreases-loop-k
decreases-loop-k l = l.n - l.k
