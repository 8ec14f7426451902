use Rattle.congruence.specs.Tails.{Tails}
use Rattle.congruence.proofs.find_tails.Given as goal

abbrev pub invariant-loop-at : goal.invariant-loop-at
invariant-loop-at l = Tails l.modulus l.increments l.at l.tails
