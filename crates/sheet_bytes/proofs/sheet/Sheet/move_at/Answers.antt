use Rattle.sheet_bytes.specs.Fields.{counters_limit, part_read, part_whole}
use Rattle.sheet_bytes.proofs.sheet.Sheet.move_at.Goals as goal

pub read_move-requires : goal.read_move-requires
read_move-requires c =
    let R = rw c.self.view_is at c.self.invariant.read in
    (counters_limit R, part_whole R c.move_part.ensures.whole)

pub returns-clause-value : goal.returns-clause-value
returns-clause-value c =
    let R = rw c.self.view_is at c.self.invariant.read in
    part_read R c.args.i c.args.a c.move_part.ensures.part c.read_move.ensures

pub returns-clause-shaped : goal.returns-clause-shaped
returns-clause-shaped c =
    let R = rw c.self.view_is at c.self.invariant.read in
    R.shaped

pub returns-clause-bytes : goal.returns-clause-bytes
returns-clause-bytes c = rw c.self.view_is at c.self.invariant.bytes
