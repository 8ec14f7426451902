use native.Mathlib.Omega.{arith}
use Rattle.integers.proofs.RangeLaws.{range_wider}
use Rattle.depth_bound.proofs.widths.wider.Goals as goal

pub count-requires : goal.count-requires
count-requires c = range_wider 1000000000 (omega arith) c.requires
