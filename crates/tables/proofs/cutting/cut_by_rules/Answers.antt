use Rattle.sheet_bytes.specs.Cuts.{cuts_made}
use Rattle.table_rules.proofs.Cutting.{cut_by_only}
use Rattle.tables.proofs.cutting.cut_by_rules.Goals as goal

pub returns-then-counters-eq1 : goal.returns-then-counters-eq1
returns-then-counters-eq1 c = cut_by_only c.args.b c.cut_by-one.result c.requires c.if-counters-eq1.true c.cut_by-one.ensures

pub returns : goal.returns
returns c = cuts_made c.args.rules c.args.wanted c.args.b c.cut_by-one.ensures c.cut_by-two.ensures c.cut_by.ensures
