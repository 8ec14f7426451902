-- The class theorem: the class box of a configuration holds what is covered and equivalent to it, for sequences of whatever length.
use Rattle.std.specs.Prelude.{◌≡◌, length}
use Rattle.model.specs.Sheet.{Configuration, Box, Sheet, region_of, RangeFits, Each}
use Rattle.model.specs.Boxes.{Inside}

-- What the class of a configuration is as a box: the state is its own, and the ranges, one for each counter, are in order,
-- within the limits, and inside those of its region.
pub record ClassFits (s : Sheet) (x : Configuration) (b : Box) : Type 0 where
  pub state_own : b.state ≡ x.state
  pub ranges_count : length b.ranges ≡ s.counters
  pub ranges_fit : Each RangeFits b.ranges
  pub ranges_inside : Inside b.ranges (region_of s x).box.ranges
