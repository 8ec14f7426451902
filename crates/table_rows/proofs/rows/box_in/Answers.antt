use Rattle.table_rules.proofs.Arrays.{box_read}
use Rattle.table_rows.proofs.rows.box_in.Goals as goal

pub returns : goal.returns
returns c = box_read c.args.cells.now c.args.homes.now c.args.k c.ranges_in.result c.ranges_in.ensures
