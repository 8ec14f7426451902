-- Laws of boxes: membership, exact cuts and preimages, inclusion, and that a box with a member is determined by its members.
use Rattle.std.specs.Prelude.{List, [], ◌∷◌, ◌≤ℤ◌}
use Rattle.integers.specs.declared.Range.{Range}

-- Inclusion of ranges, end by end.
pub data Inside : List Range → List Range → Type 0 where
  inside_none : Inside [] []
  inside_more : {q r : Range} {qs rs : List Range} → r.low ≤ℤ q.low → q.high ≤ℤ r.high → Inside qs rs → Inside (q ∷ qs) (r ∷ rs)

-- a range that is in order
abbrev pub Ordered : Range → Type 0
Ordered r = r.low ≤ℤ r.high
