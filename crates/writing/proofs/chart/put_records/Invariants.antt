use Prim.Native.Nat.{◌-◌, ◌≤◌}
use mathlib.Core.Path.{◌≡◌}
use lib.ListN.{length}
use Rattle.systems.specs.Lists.{collect}
use Rattle.sheet_rules.specs.Layout.{actions_of}
use Rattle.writing.specs.Stored.{stored}
use Rattle.writing.specs.ChartBytes.{ordered_bytes}
use Rattle.writing.proofs.chart.put_records.Given as goal

abbrev pub invariant-loop-k : goal.invariant-loop-k
invariant-loop-k l =
    (l.k ≤ l.n) × (length l.out ≡ length l.initial.out) × (l.out ≡ stored l.initial.out 7 (collect (ordered_bytes l.s l.homes l.targets l.order l.number (actions_of l.s)) l.k))

abbrev pub decreases-loop-k : goal.decreases-loop-k
decreases-loop-k l = l.n - l.k
