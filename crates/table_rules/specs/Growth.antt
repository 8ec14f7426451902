-- The row for a configuration: one that has it, or a new one.
use Rattle.std.specs.Prelude.{◌≡◌, true, List, ℕ, ◌+◌, ◌≤◌, ◌<◌, ℤ, Option, None, Some}
use Rattle.model.specs.Sheet.{region_number}
use Rattle.sheet_bytes.specs.declared.Config.{Config}
use Rattle.sheet_rules.specs.Decode.{decode}
use Rattle.sheet_bytes.specs.Three.{config_meant, box_three}
use Rattle.table_rules.specs.Arrays.{put_values, put_ranges, put_home}
use Rattle.table_rules.specs.Marks.{RowRaised}
use Rattle.table_rules.specs.Sources.{Begun}
use Rattle.table_rules.specs.Meaning.{holds_in, NoneHolds}

-- the cells and homes after the configuration came as row n with the box of its region
unfoldable pub new_cells : ℕ → List ℕ → List ℤ → ℕ → Config → List ℤ
new_cells V# s c n x = put_ranges (put_values c n x.values) n (box_three s (region_number (decode s) (config_meant V# x))).ranges

unfoldable pub new_homes : ℕ → List ℕ → List ℕ → ℕ → Config → List ℕ
new_homes V# s h n x = put_home h n (region_number (decode s) (config_meant V# x)) x.state

-- Of the row for a configuration in arrays of n rows: one of them, and nothing was done; or a new one, with the number n; or none, where there are 255 rows
-- and no more fit.
pub data RowFor (V# : ℕ) (s : List ℕ) (c : List ℤ) (h f d : List ℕ) (n : ℕ) (x : Config) : List ℤ → List ℕ → List ℕ → List ℕ → Option ℕ → Type 0 where
  row_there : (j : ℕ) → j < n → holds_in V# c h x j ≡ true → RowFor V# s c h f d n x c h f d (Some j)
  row_new : {c' : List ℤ} {h' f' d' : List ℕ} → n < 255 → NoneHolds V# c h x n → c' ≡ new_cells V# s c n x → h' ≡ new_homes V# s h n x → RowRaised f f' n → Begun d d' n
      → RowFor V# s c h f d n x c' h' f' d' (Some n)
  row_none : n ≡ 255 → NoneHolds V# c h x n → RowFor V# s c h f d n x c h f d None

-- the number of rows with row j among them
pub record RowsWith (n j r : ℕ) : Type 0 where
  pub old : j < n → r ≡ n
  pub one_more : n ≤ j → r ≡ j + 1
