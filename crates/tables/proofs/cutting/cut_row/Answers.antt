use Rattle.table_rules.proofs.Cutting.{ranges_told, cut_kept, cut_changed}
use Rattle.tables.proofs.cutting.cut_row.Goals as goal

pub returns-then-eq : goal.returns-then-eq
returns-then-eq c =
    cut_kept c.args.rules c.args.cells.now c.args.i c.args.j c.ranges_in-old.result c.ranges_in-wanted.result c.cut_by_rules-cut.result c.ranges_in-old.ensures c.ranges_in-wanted.ensures c.cut_by_rules-cut.ensures
    (ranges_told c.cut_by_rules-cut.result c.ranges_in-old.result c.eq.ensures) c.if-eq.true

pub returns : goal.returns
returns c =
    cut_changed c.args.rules c.args.cells.now c.args.i c.args.j c.ranges_in-old.result c.ranges_in-wanted.result c.cut_by_rules-cut.result c.ranges_in-old.ensures c.ranges_in-wanted.ensures c.cut_by_rules-cut.ensures
    c.put_ranges.new.cells (ranges_told c.cut_by_rules-cut.result c.ranges_in-old.result c.eq.ensures) c.if-eq.false c.put_ranges.ensures
