use Rattle.first_words.specs.Notes.{NotedFrom}
use Rattle.first_words.proofs.note_record.Given as goal

abbrev pub invariant-loop-a : goal.invariant-loop-a
invariant-loop-a l = NotedFrom l.c l.i l.a l.notes.parents l.notes.actions
