use native.Mathlib.Omega.{arith}
use Rattle.depth_rules.specs.DepthBound.{depth_bound}
use Rattle.depth_bound.specs.Depth.{exact_depth}
use Rattle.depth_bound.proofs.exact_depth.Goals as goal

pub returns : goal.returns
unfolding exact_depth depth_bound
returns c = omega arith
