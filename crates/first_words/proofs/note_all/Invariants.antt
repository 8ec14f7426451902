use Rattle.first_words.specs.Notes.{NotedFrom}
use Rattle.first_words.proofs.note_all.Given as goal

abbrev pub invariant-loop-i : goal.invariant-loop-i
invariant-loop-i l = NotedFrom l.c l.i 0 l.notes.parents l.notes.actions
