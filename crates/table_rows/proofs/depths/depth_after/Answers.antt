use native.Mathlib.Omega.{arith}
use Prim.Native.Nat.{◌+◌}
use mathlib.Core.Path.{refl}
use Rattle.table_rules.specs.Depths.{anew, deeper}
use Rattle.table_rules.proofs.Depths.{levelled_none}
use Rattle.table_rows.proofs.depths.depth_after.Goals as goal

pub returns-then-before-gt15 : goal.returns-then-before-gt15
returns-then-before-gt15 c = anew c.if-rows-n.true c.level.ensures

pub returns-else-before-gt15 : goal.returns-else-before-gt15
returns-else-before-gt15 c =
    let start = c.args in
    anew c.if-rows-n.true (levelled_none start.bounds.now start.n start.before)

pub returns-then-before-gt65534 : goal.returns-then-before-gt65534
returns-then-before-gt65534 c = deeper c.args.before c.if-rows-n.false refl (omega arith)

pub returns : goal.returns
returns c = deeper (c.args.before + 1) c.if-rows-n.false refl (omega arith)
