use Prim.Native.Nat.{◌-◌, ◌≤◌}
use Rattle.writing.specs.Numbers.{Walked}
use Rattle.writing.proofs.numbering.number_targets.Given as goal

abbrev pub invariant-loop-a : goal.invariant-loop-a
invariant-loop-a l = (l.a ≤ l.actions) × Walked l.targets l.actions l.m l.a l.order l.number l.c

abbrev pub decreases-loop-a : goal.decreases-loop-a
decreases-loop-a l = l.actions - l.a
