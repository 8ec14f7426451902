-- The widths of ranges and rows: a cut that changes a row makes it narrower, and no row is wider than the limits of a sheet allow.
use Rattle.std.specs.Prelude.{ℕ, ◌+◌, List, [], ◌∷◌}
use Rattle.integers.specs.declared.Range.{Range}
use Rattle.integers.specs.Range.{size}
use Rattle.refinement.specs.SheetTable.{Row}

-- how many values the ranges hold, counter by counter
unfoldable pub widths : List Range → ℕ
widths [] = 0
widths (r ∷ rs) = size r + widths rs

abbrev pub row_width : Row → ℕ
row_width r = widths r.box.ranges

-- above the width of any row
abbrev pub widest : ℕ
widest = 6000004
