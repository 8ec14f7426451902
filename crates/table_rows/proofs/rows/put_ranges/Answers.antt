use Rattle.table_rules.proofs.Arrays.{ranges_write}
use Rattle.table_rows.proofs.rows.put_ranges.Goals as goal

pub returns : goal.returns
returns c =
    ranges_write c.args.cells.now c.put_range.new.cells c.put_range-2.new.cells c.put_range-3.new.cells c.args.k c.args.r c.put_range.ensures c.put_range-2.ensures c.put_range-3.ensures
