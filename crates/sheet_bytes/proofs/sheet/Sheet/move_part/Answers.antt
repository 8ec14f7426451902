use native.Mathlib.Omega.{arith}
use Rattle.sheet_rules.specs.Layout.{counters_of, move_size}
use Rattle.sheet_bytes.specs.Three.{read_of}
use Rattle.sheet_bytes.specs.Fields.{move_within, length_rest, part_of}
use Rattle.sheet_bytes.proofs.sheet.Sheet.move_part.Goals as goal

pub slice_bounds-result-count : goal.slice_bounds-result-count
slice_bounds-result-count c =
    let R = read_of c.move_place-at.ensures.shaped in
    rw c.self.view_is (omega (arith, move_within R c.args.i c.args.a c.move_place-at.result c.requires.0 c.requires.1 c.move_place-at.ensures.value))

pub slice_bounds-result-start : goal.slice_bounds-result-start
slice_bounds-result-start c =
    let R = read_of c.move_place-at.ensures.shaped in
    rw c.self.view_is (omega (arith, move_within R c.args.i c.args.a c.move_place-at.result c.requires.0 c.requires.1 c.move_place-at.ensures.value))

pub returns-clause-part : goal.returns-clause-part
returns-clause-part c = rw c.self.view_is (part_of c.args.self.now c.args.i c.args.a c.move_place-at.ensures.value)

pub returns-clause-whole : goal.returns-clause-whole
returns-clause-whole c =
    let R = read_of c.move_place-at.ensures.shaped in
    rw c.self.view_is
    (length_rest c.move_place-at.result (move_size (counters_of c.args.self.now)) c.args.self.now
    (move_within R c.args.i c.args.a c.move_place-at.result c.requires.0 c.requires.1 c.move_place-at.ensures.value))
