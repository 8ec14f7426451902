use Rattle.sheet.specs.Walk.{Walk}
use Rattle.sheet.proofs.walk.walk.Given as goal

abbrev pub invariant-loop-n : goal.invariant-loop-n
invariant-loop-n l = Walk l.s l.actions l.initial.entries l.n l.place l.first l.entries
