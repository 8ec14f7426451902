-- What the code finds out about a sheet's factors and ranges, and the depth that it goes to. Definitions only; UnitMove, Doublings and depth_bound
-- are the model's.
use Rattle.std.specs.Prelude.{◌≡◌, Bool, true, false, ℕ, ◌≤◌, ◌<◌, max, length}
use Rattle.integers.specs.Range.{size}
use Rattle.model.specs.Sheet.{Sheet, Each, region_at}
use Rattle.depth_rules.specs.DepthBound.{UnitMove, depth_bound}
use Rattle.sheet_bytes.specs.declared.Ranges.{Ranges}

-- an answer whether something holds
pub record Tells (P : Type 0) (t : Bool) : Type 0 where
  pub yes : t ≡ true → P
  pub no : t ≡ false → P → ⊥

-- the moves of region i have no factor other than 1 and -1
abbrev pub UnitRegion : Sheet → ℕ → Type 0
UnitRegion s i = Each UnitMove (region_at s i).moves

-- so have those of every region
abbrev pub UnitFactors : Sheet → Type 0
UnitFactors s = (i : ℕ) → i < length s.regions → UnitRegion s i

-- no range of region i has more than w values
abbrev pub NarrowRegion : Sheet → ℕ → ℕ → Type 0
NarrowRegion s w i = Each (λ r. size r ≤ w) (region_at s i).box.ranges

-- no range of any region has more than w values
abbrev pub NarrowRanges : Sheet → ℕ → Type 0
NarrowRanges s w = (i : ℕ) → i < length s.regions → NarrowRegion s w i

-- the largest of a width and the numbers of values of three ranges
unfoldable pub widened : ℕ → Ranges → ℕ
widened w b = max (max (max w (size b.first)) (size b.second)) (size b.third)

-- The depth that the code goes to, for V# counters, at most n reached classes and m doublings: that at which boxes are exact, and never less than 255.
unfoldable pub exact_depth : ℕ → ℕ → ℕ → ℕ
exact_depth V# n m = max 255 (depth_bound V# n m)
