use Prim.Native.Nat.{◌-◌, ◌≤◌}
use Rattle.writing.specs.Numbers.{Walked}
use Rattle.writing.proofs.numbering.number_rows.Given as goal

abbrev pub invariant-loop-m : goal.invariant-loop-m
invariant-loop-m l = (l.m ≤ l.n) × Walked l.targets l.actions l.m 0 l.order l.number l.c

abbrev pub decreases-loop-m : goal.decreases-loop-m
decreases-loop-m l = l.n - l.m
