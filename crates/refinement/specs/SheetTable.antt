-- Tables of a sheet: a row is a representative and a box. The first table, cuts and new rows by regions and preimages; the boxes of a stable table are
-- class boxes, and its walk gives the chart and the box list.
use Rattle.std.specs.Prelude.{ℕ, ◌≤◌, List, get_or}
use Rattle.model.specs.declared.Rule.{Rule}
use Rattle.model.specs.Sheet.{Configuration, Box, Move, Barred, Sheet, in_box, region_number, region_of, sheet_system, Covered}
use Rattle.model.specs.Blocks.{preimage}
use Rattle.refinement.specs.Table.{Frame, Sound, Stable}

-- A row: a representative and a box.
pub record Row : Type 0 where
  pub representative : Configuration
  pub box : Box

-- what the tables of a sheet are about
abbrev pub sheet_frame : Sheet → Frame Configuration Row
sheet_frame s =
    record {
      system = sheet_system s;
      actions = s.actions;
      start = s.start;
      Covered = Covered s;
      region = region_number s;
      representative = λ r. r.representative;
      has = λ r. in_box r.box;
    }

-- A completed table: at most 255 rows, sound and stable with the stored targets.
pub record Completed (s : Sheet) (n : ℕ) (row : ℕ → Row) (t : ℕ → ℕ → ℕ) : Type 0 where
  pub few : n ≤ 255
  pub sound : Sound (sheet_frame s) n row
  pub stable : Stable (sheet_frame s) n row t

-- the move of action a where x is
abbrev pub move_at : Sheet → ℕ → Configuration → Move
move_at s a x = get_or (region_of s x).moves a Barred

-- x with the box of its region
unfoldable pub region_row : Sheet → Configuration → Row
region_row s x = record { representative = x; box = (region_of s x).box }

-- the row r cut to what an open move leads into the row w
unfoldable pub cut_row : Row → ℕ → List Rule → Row → Row
cut_row r target rules w = record { representative = r.representative; box = preimage r.box target rules w.box }
