-- What a reader of a box list sees, from its bytes alone (document 01: "Box list: N records of state (8-bit) and V pairs low, high (16-bit signed)"). A bound
-- takes n bytes, 2 in sheet version 1 and 4 in version 2 (document 02, U4). Definitions and the theorem's statement first, then its proof: record i of a sheet's list is the class of block i.
use Rattle.std.specs.Prelude.{◌≡◌, ℕ, ◌+◌, ◌*◌, ◌<◌, length}
use mathlib.Core.List.{List, [], ◌∷◌, ◌++◌}
use Rattle.std.proofs.Math.ListN.{get_or}
use Rattle.integers.specs.declared.Range.{Range}
use Rattle.integers.specs.LittleEndian.{Holds, signed_at}
use Rattle.systems.specs.Lists.{collect}
use Rattle.model.specs.Sheet.{Box, Region, Sheet, Each}
use Rattle.model.specs.Blocks.{class_of, blocks, block_at, box_list_of}

-- the pair at a place, low, then high: two signed numbers of n bytes
unfoldable pub pair_at : ℕ → List ℕ → ℕ → Range
pair_at n l at = record { low = signed_at n l at; high = signed_at n l (at + n) }

-- where record i begins: a record is a state and V pairs
unfoldable pub list_record : ℕ → ℕ → ℕ → ℕ
list_record n V# i = i * (1 + 2 * n * V#)

-- the range of counter v in record i: the pairs stand behind the state
unfoldable pub listed_range : ℕ → ℕ → List ℕ → ℕ → ℕ → Range
listed_range n V# l i v = pair_at n l (list_record n V# i + 1 + 2 * n * v)

-- The box in record i.
unfoldable pub listed_box : ℕ → ℕ → List ℕ → ℕ → Box
listed_box n V# l i = record { state = get_or l (list_record n V# i) 0; ranges = collect (λ v. listed_range n V# l i v ∷ []) V# }

-- n bytes hold both bounds of a range
pub record RangeHeld (n : ℕ) (r : Range) : Type 0 where
  pub low_held : Holds n r.low
  pub high_held : Holds n r.high

-- n bytes hold the bounds of every region
abbrev pub BoundsHeld : ℕ → Sheet → Type 0
BoundsHeld n s = Each (λ (r : Region). Each (RangeHeld n) r.box.ranges) s.regions

-- The box in each record is the class of its block, whatever stands behind the list.
abbrev pub BoxesListed : ℕ → Sheet → Type 0
BoxesListed n s = (i : ℕ) (rest : List ℕ) → i < length (blocks s) → listed_box n s.counters (box_list_of n s ++ rest) i ≡ class_of s (block_at s i)
