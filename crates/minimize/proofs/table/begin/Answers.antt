use native.Mathlib.Omega.{arith}
use Rattle.table_passes.specs.Steps.{started_covered, started}
use Rattle.minimize.proofs.table.begin.Goals as goal

pub append-requires : goal.append-requires
append-requires c =
    let R = c.requires.ready in
    let x = c.start in
    record { ready = R; covered = started_covered R x.result x.ensures.value; n_bound = omega arith }

pub returns : goal.returns
returns c =
    let R = c.requires.ready in
    let x = c.start in
    started R x.result c.args.table.now.cells c.args.table.now.homes c.args.table.now.targets c.args.table.now.flags c.args.table.now.bounds c.append.new.cells c.append.new.homes
    c.append.new.flags c.append.new.bounds (omega arith) (omega arith) (omega arith) c.append.ensures.flags_room c.append.ensures.bounds_room x.ensures.value c.append.ensures.cells_after c.append.ensures.homes_after c.append.ensures.row_raised c.append.ensures.begun
