use native.Mathlib.Omega.{arith}
use Rattle.table_rules.proofs.Sources.{begun}
use Rattle.table_rows.proofs.sources.begin_row.Goals as goal

pub bounds-bounds-n-2 : goal.bounds-bounds-n-2
bounds-bounds-n-2 c = omega arith

pub returns : goal.returns
returns c = begun c.args.n c.requires.n_bound (omega arith) c.lower.ensures
