-- What a completed table of a sheet gives: its boxes are the class boxes, it has a row for each block, and its walk gives the chart and the box list.
use Prim.Native.Nat.{ℕ}
use Rattle.std.specs.Prelude.{true, false, eqb}
use mathlib.Core.List.{List, [], ◌∷◌, ◌++◌}
use Rattle.integers.specs.LittleEndian.{split}
use Rattle.systems.specs.Lists.{collect}
use Rattle.exploration.specs.Exploration.{place}
use Rattle.model.specs.Sheet.{Box, Sheet, region_of}
use Rattle.model.specs.Blocks.{chart_mark, range_bytes}
use Rattle.refinement.specs.SheetTable.{Row}

-- the byte of a stored target: 255 for barred, or the row's number in the order
unfoldable pub number_byte : List ℕ → ℕ → ℕ
number_byte order t = elim (eqb t 255) [ true ↦ 255 | false ↦ place eqb order t ]

-- the record of row i in the chart, where target byte b becomes number b
unfoldable pub row_record : Sheet → (ℕ → Row) → (ℕ → ℕ → ℕ) → (ℕ → ℕ) → ℕ → List ℕ
row_record s row t number i = split 2 (region_of s (row i).representative).label ++ collect (λ a. number (t i a) ∷ []) s.actions

-- the chart of a table with n rows: the rows in a given order, target bytes by given numbers
unfoldable pub table_chart : Sheet → ℕ → (ℕ → Row) → (ℕ → ℕ → ℕ) → (ℕ → ℕ) → (ℕ → ℕ) → List ℕ
table_chart s n row t order number = chart_mark ++ (s.actions ∷ n ∷ collect (λ k. row_record s row t number (order k)) n)

-- the bytes of a box, m bytes a bound
unfoldable pub box_bytes : ℕ → Box → List ℕ
box_bytes m b = b.state ∷ range_bytes m b.ranges

-- the box list of a table with n rows, in a given order
unfoldable pub table_boxes : ℕ → ℕ → (ℕ → Row) → (ℕ → ℕ) → List ℕ
table_boxes m n row order = collect (λ k. box_bytes m (row (order k)).box) n
