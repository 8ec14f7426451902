use Rattle.congruence.specs.Machine.{Filling}
use Rattle.congruence.proofs.first_solution.Given as goal

abbrev pub invariant-loop-at : goal.invariant-loop-at
invariant-loop-at l = Filling l.modulus l.difference l.increments l.at l.left l.counts
