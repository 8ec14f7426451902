use Rattle.noted_words.specs.Writing.{Writing}
use Rattle.noted_words.proofs.write_word.Given as goal

abbrev pub invariant-loop-at : goal.invariant-loop-at
invariant-loop-at l = Writing l.parents l.actions l.k l.initial.out l.at l.left l.out

abbrev pub decreases-loop-at : goal.decreases-loop-at
decreases-loop-at l = l.at
