use native.Mathlib.Omega.{arith}
use Rattle.first_words.proofs.Notes.{noted_none, noted_record}
use Rattle.first_words.proofs.note_all.Goals as goal

pub loop-i-init : goal.loop-i-init
loop-i-init c = rw c.blocks-i.ensures.value (noted_none c.args.c.now c.args.notes.now.parents c.args.notes.now.actions)

pub note_record-requires : goal.note_record-requires
note_record-requires c =
    let l = c.loop-i in
    record { i_bound = omega arith; noted_from = noted_record c.args.c.now l.i l.notes.parents l.notes.actions (omega arith) l.invariant }
