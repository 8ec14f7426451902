use Rattle.table_rules.proofs.Arrays.{ranges_read}
use Rattle.table_rows.proofs.rows.ranges_in.Goals as goal

pub returns : goal.returns
returns c =
    ranges_read c.args.cells.now c.args.k c.range_in.result c.range_in-2.result c.range_in-3.result c.range_in.ensures c.range_in-2.ensures c.range_in-3.ensures
