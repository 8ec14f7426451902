use native.Mathlib.Omega.{arith}
use mathlib.Core.Logic.{inr}
use Rattle.table_rules.proofs.Depths.{deepened_left, deepened_to}
use Rattle.table_rows.proofs.depths.deepen.Goals as goal

pub returns-then-bounds-eq0-clause-deepened : goal.returns-then-bounds-eq0-clause-deepened
returns-then-bounds-eq0-clause-deepened c = deepened_left 0 (λ b h. inr (omega arith))

pub returns-then-bounds-i-clause-deepened : goal.returns-then-bounds-i-clause-deepened
returns-then-bounds-i-clause-deepened c = deepened_to c.reached_depth-low.result (omega arith) (omega arith) c.reached_depth-low.ensures.1

pub returns-else-bounds-i-clause-deepened : goal.returns-else-bounds-i-clause-deepened
returns-else-bounds-i-clause-deepened c = deepened_left c.reached_depth-low.result c.reached_depth-low.ensures.1
