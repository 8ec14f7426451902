use native.Mathlib.Omega.{arith}
use Rattle.first_words.proofs.Notes.{noted_row, noted_back}
use Rattle.first_words.proofs.note_record.Goals as goal

pub loop-a-init : goal.loop-a-init
loop-a-init c = rw c.actions-a.ensures.value (noted_row c.args.c.now c.args.i c.args.notes.now.parents c.args.notes.now.actions c.requires.noted_from)

pub loop-a-preserved : goal.loop-a-preserved
loop-a-preserved c =
    let l = c.loop-a in
    let t = c.target_of-target in
    let (lr, lb) = c.note.ensures.room in
    rw c.note.ensures.noted
    (noted_back c.args.c.now c.args.i l.a t.result l.notes.parents l.notes.actions c.requires.i_bound (omega arith) (omega arith) t.ensures lr lb l.invariant)
