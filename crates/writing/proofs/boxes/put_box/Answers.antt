use native.Mathlib.Omega.{arith}
use lib.ListN.{length-set}
use Rattle.table_rules.specs.Arrays.{state_in}
use Rattle.writing.specs.BoxBytes.{box_stored}
use Rattle.writing.proofs.boxes.put_box.Goals as goal

pub put_bounds-requires : goal.put_bounds-requires
put_bounds-requires c =
    let d = c.args.out.now in
    let state = state_in c.args.homes.now c.args.i in
    let (t, v, l) = c.requires.two_or_four in
    record {
      two_or_four = t;
      n_bound = (omega arith, l);
      bounded = c.requires.bounded;
      n_in_bounds = omega (arith, length-set d c.args.at state);
    }

pub shape_of-out : goal.shape_of-out
shape_of-out c =
    let d = c.args.out.now in
    let state = state_in c.args.homes.now c.args.i in
    omega (arith, length-set d c.args.at state)

pub returns : goal.returns
returns c =
    let d = c.args.out.now in
    let state = state_in c.args.homes.now c.args.i in
    box_stored c.args.shape.width c.args.shape.counters c.args.cells.now c.args.homes.now d c.put_bounds.new.out c.args.i c.args.at c.requires.two_or_four.1 c.put_bounds.ensures
