-- Where the fields of a sheet stand (document 01, "The sheet, mark MSH"; document 02, U4, for version 2). Definitions only. A rule and a move
-- record are read from a part of the sheet that starts with them.
use Rattle.std.specs.Prelude.{Bool, true, false, List, [], ◌∷◌, ℕ, ◌+◌, ◌*◌, eqb, get_or, drop, ℤ}
use Rattle.integers.specs.LittleEndian.{unsigned_at, signed_at}

-- the mark
abbrev pub sheet_mark : List ℕ
sheet_mark = 77 ∷ 83 ∷ 72 ∷ []

-- the version, 16-bit
unfoldable pub version_of : List ℕ → ℕ
version_of s = unsigned_at 2 s 3

-- Version 2 is called wide. All that the version decides are the two numbers below.
unfoldable pub wide : List ℕ → Bool
wide s = eqb (version_of s) 2

-- how many bytes a bound or a start value takes
unfoldable pub bound_size : List ℕ → ℕ
bound_size s = elim (wide s) [ true ↦ 4 | false ↦ 2 ]

-- how far from zero an offset may be
unfoldable pub offset_limit : List ℕ → ℕ
offset_limit s = elim (wide s) [ true ↦ 200000000 | false ↦ 4000000 ]

-- V, A and R
abbrev pub counters_of : List ℕ → ℕ
counters_of s = get_or s 5 0

abbrev pub actions_of : List ℕ → ℕ
actions_of s = get_or s 6 0

abbrev pub regions_of : List ℕ → ℕ
regions_of s = get_or s 7 0

abbrev pub start_state : List ℕ → ℕ
start_state s = get_or s 8 0

-- how many bytes a move record and a region record take, for V counters, A actions and n bytes a bound
unfoldable pub move_size : ℕ → ℕ
move_size V# = 2 + 7 * V#

unfoldable pub region_size : ℕ → ℕ → ℕ → ℕ
region_size n V# A# = 3 + 2 * n * V# + A# * move_size V#

-- the start value of counter v, and where it stands
unfoldable pub start_place : List ℕ → ℕ → ℕ
start_place s v = 9 + bound_size s * v

unfoldable pub start_value : List ℕ → ℕ → ℤ
start_value s v = signed_at (bound_size s) s (start_place s v)

-- where region i begins, by the same numbers
abbrev pub place_by : ℕ → ℕ → ℕ → ℕ → ℕ
place_by n V# A# i = 9 + n * V# + i * region_size n V# A#

-- where region i begins; past the last one, the length of the sheet
unfoldable pub region_place : List ℕ → ℕ → ℕ
region_place s i = place_by (bound_size s) (counters_of s) (actions_of s) i

unfoldable pub label_at : List ℕ → ℕ → ℕ
label_at s i = unsigned_at 2 s (region_place s i)

unfoldable pub state_at : List ℕ → ℕ → ℕ
state_at s i = get_or s (region_place s i + 2) 0

-- where the low and the high bound of counter v stand in region i
unfoldable pub low_place : List ℕ → ℕ → ℕ → ℕ
low_place s i v = region_place s i + 3 + 2 * bound_size s * v

unfoldable pub high_place : List ℕ → ℕ → ℕ → ℕ
high_place s i v = low_place s i v + bound_size s

-- where the move record of action a stands in region i
unfoldable pub move_place : List ℕ → ℕ → ℕ → ℕ
move_place s i a = region_place s i + 3 + 2 * bound_size s * counters_of s + a * move_size (counters_of s)

-- the part of the sheet that starts with that record
abbrev pub move_part : List ℕ → ℕ → ℕ → List ℕ
move_part s i a = drop (move_place s i a) s

-- where the rule of counter v stands in a move record
unfoldable pub rule_place : ℕ → ℕ
rule_place v = 2 + 7 * v

-- the fields of a rule, from a part that starts with it
abbrev pub kind_of : List ℕ → ℕ
kind_of p = get_or p 0 0

abbrev pub source_of : List ℕ → ℕ
source_of p = get_or p 1 0

unfoldable pub factor_of : List ℕ → ℤ
factor_of p = signed_at 1 p 2

unfoldable pub offset_of : List ℕ → ℤ
offset_of p = signed_at 4 p 3
