use native.Mathlib.Omega.{arith}
use Rattle.depth_bound.specs.Widths.{doublings_none, doublings_some}
use Rattle.depth_bound.proofs.doublings.Goals as goal

pub returns-then-unit_factors : goal.returns-then-unit_factors
returns-then-unit_factors c = (omega arith, doublings_none c.unit_factors.ensures c.if-unit_factors.true)

pub returns : goal.returns
returns c = (c.doublings_of.ensures.0, doublings_some c.widest.ensures.1 c.doublings_of.ensures.1)
