-- The refinement's table in flat arrays: for each row nine cells (three values, then three ranges, each low and high) and two homes (the number of the region
-- of its representative, and its state); for each action a target and a flag of each of the 255 rows; and lower bounds, first how deep each row is, then where
-- the sources of each begin, and two of the rows with a flag up.
use Rattle.std.specs.Prelude.{◌≡◌, List, ℕ, ◌+◌, ◌*◌, length, get_or, ℤ, pos}
use Rattle.std.proofs.Math.ListN.{set}
use Rattle.integers.specs.declared.Range.{Range}
use Rattle.sheet_bytes.specs.declared.Ranges.{Ranges}
use Rattle.sheet_bytes.specs.declared.RegionBox.{RegionBox}
use Rattle.sheet_bytes.specs.declared.Values.{Values}
use Rattle.sheet_bytes.specs.declared.Config.{Config}

-- the lengths of the arrays, for 255 rows
abbrev pub CellsRoom : List ℤ → Type 0
CellsRoom c = length c ≡ 2295

abbrev pub HomesRoom : List ℕ → Type 0
HomesRoom h = length h ≡ 510

abbrev pub TargetsRoom : List ℕ → Type 0
TargetsRoom t = length t ≡ 2040

abbrev pub FlagsRoom : List ℕ → Type 0
FlagsRoom f = length f ≡ 2040

abbrev pub BoundsRoom : List ℕ → Type 0
BoundsRoom d = length d ≡ 512

-- what is stored of row k
unfoldable pub range_in : List ℤ → ℕ → Range
range_in c at = record { low = get_or c at (pos 0); high = get_or c (at + 1) (pos 0) }

unfoldable pub values_in : List ℤ → ℕ → Values
values_in c k = record { first = get_or c (9 * k) (pos 0); second = get_or c (9 * k + 1) (pos 0); third = get_or c (9 * k + 2) (pos 0) }

unfoldable pub ranges_in : List ℤ → ℕ → Ranges
ranges_in c k = record { first = range_in c (9 * k + 3); second = range_in c (9 * k + 5); third = range_in c (9 * k + 7) }

abbrev pub region_in : List ℕ → ℕ → ℕ
region_in h k = get_or h (2 * k) 0

abbrev pub state_in : List ℕ → ℕ → ℕ
state_in h k = get_or h (2 * k + 1) 0

abbrev pub config_in : List ℤ → List ℕ → ℕ → Config
config_in c h k = record { state = state_in h k; values = values_in c k }

abbrev pub box_in : List ℤ → List ℕ → ℕ → RegionBox
box_in c h k = record { state = state_in h k; ranges = ranges_in c k }

abbrev pub target_in : List ℕ → ℕ → ℕ → ℕ
target_in t k b = get_or t (255 * b + k) 0

abbrev pub flag_in : List ℕ → ℕ → ℕ → ℕ
flag_in f k b = get_or f (255 * b + k) 0

abbrev pub depth_in : List ℕ → ℕ → ℕ
depth_in d k = get_or d k 0

-- a row below which none leads to row k by an action whose flag is down
abbrev pub source_in : List ℕ → ℕ → ℕ
source_in d k = get_or d (255 + k) 0

-- a row below which no flag is up, and one below which this pass has raised none
abbrev pub first_in : List ℕ → ℕ
first_in d = get_or d 510 0

abbrev pub fresh_in : List ℕ → ℕ
fresh_in d = get_or d 511 0

-- the cells after a range, all ranges or all values of row k were stored
unfoldable pub put_range : List ℤ → ℕ → Range → List ℤ
put_range c at r = set (set c at r.low) (at + 1) r.high

unfoldable pub put_ranges : List ℤ → ℕ → Ranges → List ℤ
put_ranges c k r = put_range (put_range (put_range c (9 * k + 3) r.first) (9 * k + 5) r.second) (9 * k + 7) r.third

unfoldable pub put_values : List ℤ → ℕ → Values → List ℤ
put_values c k x = set (set (set c (9 * k) x.first) (9 * k + 1) x.second) (9 * k + 2) x.third

-- the homes after those of row k were stored
unfoldable pub put_home : List ℕ → ℕ → ℕ → ℕ → List ℕ
put_home h k region state = set (set h (2 * k) region) (2 * k + 1) state
