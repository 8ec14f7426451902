use Rattle.table_rules.specs.Depths.{sure_known}
use Rattle.table_rules.proofs.Depths.{least_max}
use Rattle.table_rows.proofs.depths.sure_depth.Goals as goal

pub returns-then-bounds-eq0 : goal.returns-then-bounds-eq0
returns-then-bounds-eq0 c = sure_known

pub returns : goal.returns
returns c = least_max c.common_depth.ensures c.max.ensures
