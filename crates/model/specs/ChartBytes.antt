-- The fields of a sheet's chart, read back from its bytes, and that the fields determine the bytes.
use Rattle.std.specs.Prelude.{◌≡◌, List, ℕ, ◌<◌, length, take}
use Rattle.integers.specs.LittleEndian.{Bytes}
use Rattle.model.specs.Sheet.{Sheet, region_of, step}
use Rattle.model.specs.Blocks.{blocks, block_at, target_byte, chart_mark}
use Rattle.model.specs.Chart.{actions_of, blocks_of, record_at, label_of, target_of}

-- What the fields of a chart leave open: mark, length, and that each number is a byte.
pub record Shaped (c : List ℕ) : Type 0 where
  pub mark : take 5 c ≡ chart_mark
  pub length_right : length c ≡ record_at c (blocks_of c)
  pub bytes : Bytes c

-- Two charts have the same fields.
pub record SameFields (c d : List ℕ) : Type 0 where
  pub actions : actions_of c ≡ actions_of d
  pub blocks : blocks_of c ≡ blocks_of d
  pub labels : (i : ℕ) → i < blocks_of c → label_of c i ≡ label_of d i
  pub targets : (i a : ℕ) → i < blocks_of c → a < actions_of c → target_of c i a ≡ target_of d i a

-- Two sheets' charts agree in the number of actions and of blocks, and index by index in labels and targets.
pub record SameEntries (s t : Sheet) : Type 0 where
  pub actions : s.actions ≡ t.actions
  pub count : length (blocks s) ≡ length (blocks t)
  pub labels : (i : ℕ) → i < length (blocks s) → (region_of s (block_at s i)).label ≡ (region_of t (block_at t i)).label
  pub targets : (i a : ℕ) → i < length (blocks s) → a < s.actions → target_byte s (step s a (block_at s i)) ≡ target_byte t (step t a (block_at t i))
