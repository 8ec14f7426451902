use Rattle.chart.specs.Walk.{Walk}
use Rattle.chart.proofs.walk.walk.Given as goal

abbrev pub invariant-loop-i : goal.invariant-loop-i
invariant-loop-i l = Walk l.c l.actions l.initial.entries l.i l.block l.barred l.entries
