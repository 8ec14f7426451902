use Rattle.table_rules.proofs.Sources.{lowered_to}
use Rattle.table_rows.proofs.sources.lower.Goals as goal

pub returns-then-bounds-at : goal.returns-then-bounds-at
returns-then-bounds-at c =
    let start = c.args in
    lowered_to start.bounds.now start.at start.k c.requires c.if-bounds-at.true
