use native.Mathlib.Omega.{arith}
use Rattle.std.specs.Prelude.{◌<◌}
use Rattle.separating_sequence.specs.Machine.{finds_noted, told_equal, noted_place, noted_room, told_parted}
use Rattle.separating_sequence.proofs.separate.Goals as goal

pub returns-in_err-last : goal.returns-in_err-last
returns-in_err-last c =
    let k = told_equal c.args.actions.now c.run.ensures c.in_err-last.was in
    record { value = rw c.from_residual.ensures k.0; actions_after = k.1 }

-- The first fact of what a call asks is that the notes are no larger than memory.
pub word_length-length-requires : goal.word_length-length-requires
word_length-length-requires c =
    let N = finds_noted c.run.ensures c.in_ok-last.was in
    let there : c.in_ok-last.last < 510 = noted_place c.requires.comparable N in
    (omega arith, (there, N.falling))

pub write_word-requires : goal.write_word-requires
write_word-requires c =
    let N = finds_noted c.run.ensures c.in_ok-last.was in
    let there : c.in_ok-last.last < 510 = noted_place c.requires.comparable N in
    let l = c.word_length-length.ensures c.run.new.self.notes.actions in
    (omega arith, (there, (N.falling, (l, omega (arith, l, noted_room N c.requires.d_in_bounds)))))

pub returns : goal.returns
returns c =
    let N = finds_noted c.run.ensures c.in_ok-last.was in
    let k = told_parted c.args.actions.now N (c.word_length-length.ensures c.run.new.self.notes.actions) c.write_word.ensures in
    record { value = k.0; actions_after = k.1 }
