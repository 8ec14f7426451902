use native.Mathlib.Omega.{arith}
use lib.ListN.{length}
use Rattle.std.specs.Prelude.{◌<◌}
use Rattle.noted_words.specs.Words.{noted_word}
use Rattle.first_words.proofs.Notes.{noted_falling, noted_along, noted_room}
use Rattle.first_words.proofs.write_first_word.Goals as goal

-- The first fact of what a call asks is that the notes are no larger than memory.
pub word_length-count-requires : goal.word_length-count-requires
word_length-count-requires c =
    let n = c.note_all.new.notes in
    let few = c.blocks-2.ensures.shaped.blocks_few in
    let there : c.args.k < 256 = omega (arith, few, c.requires.k_bound) in
    (omega arith, (there, noted_falling c.args.c.now n.parents n.actions c.requires.numbered_as_named few c.note_all.ensures c.args.k c.requires.k_bound))

pub write_word-requires : goal.write_word-requires
write_word-requires c =
    let chart = c.args.c.now in
    let n = c.note_all.new.notes in
    let few = c.blocks-2.ensures.shaped.blocks_few in
    let there : c.args.k < 256 = omega (arith, few, c.requires.k_bound) in
    let e = c.word_length-count.ensures n.actions in
    let falling = noted_falling chart n.parents n.actions c.requires.numbered_as_named few c.note_all.ensures c.args.k c.requires.k_bound in
    let room = noted_room chart n.parents n.actions c.requires.numbered_as_named few c.note_all.ensures c.args.k (length c.args.out.now) c.requires.k_bound c.requires.c_in_bounds in
    (omega arith, (there, (falling, (e, omega (arith, e, room)))))

pub returns : goal.returns
returns c =
    let n = c.note_all.new.notes in
    record {
      word = noted_word n.parents n.actions c.args.k;
      along = noted_along c.args.c.now n.parents n.actions c.requires.numbered_as_named c.blocks-2.ensures.shaped.blocks_few c.note_all.ensures c.args.k c.requires.k_bound;
      length_is = c.word_length-count.ensures n.actions;
      left = c.write_word.ensures;
    }
