-- What the arrays stand for: the rows of a table of the model.
use Rattle.std.specs.Prelude.{◌≡◌, Bool, true, false, List, ℕ, ◌<◌, ℤ, Option, None, Some}
use Rattle.model.specs.Sheet.{in_box, WellFormed}
use Rattle.refinement.specs.SheetTable.{Row}
use Rattle.sheet_bytes.specs.declared.Shape.{Shape}
use Rattle.sheet_bytes.specs.declared.Config.{Config}
use Rattle.sheet_bytes.specs.declared.RegionMove.{RegionMove}
use Rattle.sheet_rules.specs.Layout.{move_part}
use Rattle.sheet_rules.specs.Decode.{decode}
use Rattle.sheet_bytes.specs.Three.{Read, box_meant, config_meant, move_three}
use Rattle.table_rules.specs.Arrays.{config_in, box_in}

-- what the refinement is given: a well-formed sheet in bytes, and its counts
pub record Ready (s : List ℕ) (shape : Shape) : Type 0 where
  pub read : Read s shape
  pub well : WellFormed (decode s)

-- row k of the table, in a sheet of V counters
unfoldable pub row_in : ℕ → List ℤ → List ℕ → ℕ → Row
row_in V# c h k = record { representative = config_meant V# (config_in c h k); box = box_meant V# (box_in c h k) }

-- row k has the configuration
abbrev pub holds_in : ℕ → List ℤ → List ℕ → Config → ℕ → Bool
holds_in V# c h x k = in_box (box_meant V# (box_in c h k)) (config_meant V# x)

-- Of a search for a row below n that has the configuration: it is found, or there is none.
pub record Found (V# : ℕ) (c : List ℤ) (h : List ℕ) (x : Config) (n : ℕ) (r : Option ℕ) : Type 0 where
  pub few : (k : ℕ) → r ≡ Some k → k < n
  pub inside : (k : ℕ) → r ≡ Some k → holds_in V# c h x k ≡ true
  pub none : r ≡ None → (k : ℕ) → k < n → holds_in V# c h x k ≡ false

-- none of the rows below k has it
abbrev pub NoneHolds : ℕ → List ℤ → List ℕ → Config → ℕ → Type 0
NoneHolds V# c h x n = (k : ℕ) → k < n → holds_in V# c h x k ≡ false

-- The move that the code reads for row i and action a is the model's, where the row's home is its representative's region.
unfoldable pub move_in : ℕ → List ℕ → ℕ → ℕ → Option RegionMove
move_in V# s region a = move_three V# (move_part s region a)
