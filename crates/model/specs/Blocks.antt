-- Equivalence classes as boxes, the blocks of a sheet in the chart's order, and the bytes of its chart and box list (document 01, "The chart, mark BCH, and
-- its box list"). Definitions only.
use Rattle.std.specs.Prelude.{Bool, true, false, List, [], ◌∷◌, ◌++◌, ℕ, zero, suc, ◌+◌, ◌*◌, eqb, ltb, length, get_or, set, ℤ, pos, Option, Some, None}
use Rattle.integers.specs.declared.Range.{Range}
use Rattle.integers.specs.Range.{contains, meet, size}
use Rattle.integers.specs.Inverse.{inverse}
use Rattle.integers.specs.LittleEndian.{split, bits_of}
use Rattle.systems.specs.Lists.{collect}
use Rattle.exploration.specs.Exploration.{explore, place}
use Rattle.model.specs.declared.Rule.{Rule}
use Rattle.model.specs.declared.Rule.TheVariants.{Set, Carry}
use Rattle.model.specs.Sheet.{Configuration, Box, Move, Barred, Open, Region, Sheet, in_box, region_of, landing, step, sheet_system}

-- a range that holds nothing
abbrev pub empty : Range
empty = record { low = pos 1; high = pos 0 }

-- the ranges, each emptied
unfoldable pub emptied : List Range → List Range
emptied [] = []
emptied (r ∷ rs) = empty ∷ emptied rs

-- the old values, within the given ranges, that a rule takes into a wanted range: a carry rule cuts its source counter's range,
-- a set rule cuts nothing or everything
unfoldable pub cut : Rule → Range → List Range → List Range
cut (Set offset) wanted rs = elim (contains wanted offset) [ true ↦ rs | false ↦ emptied rs ]
cut (Carry source factor offset) wanted rs = set rs source (meet (get_or rs source empty) (inverse factor offset wanted))

-- the same for each rule and its counter's wanted range
unfoldable pub cuts : List Rule → List Range → List Range → List Range
cuts [] wanted rs = rs
cuts (rule ∷ rules) [] rs = rs
cuts (rule ∷ rules) (w ∷ wanted) rs = cuts rules wanted (cut rule w rs)

-- The preimage of a wanted box under an open move, within a box.
unfoldable pub preimage : Box → ℕ → List Rule → Box → Box
preimage b target rules wanted =
    record {
      state = b.state;
      ranges = elim (eqb target wanted.state) [ true ↦ cuts rules wanted.ranges b.ranges | false ↦ emptied b.ranges ];
    }

-- a box cut, for each open move, by the preimage of the box that belongs to where the move takes x
unfoldable pub narrowed : (Configuration → Box) → Configuration → List Move → Box → Box
narrowed boxOf x [] b = b
narrowed boxOf x (Barred ∷ moves) b = narrowed boxOf x moves b
narrowed boxOf x (Open target rules ∷ moves) b = narrowed boxOf x moves (preimage b target rules (boxOf (landing target rules x)))

-- The configurations that no sequence of at most k actions tells apart from x, as a box.
unfoldable pub class_box : Sheet → ℕ → Configuration → Box
class_box s zero x = (region_of s x).box
class_box s (suc k) x = narrowed (class_box s k) x (region_of s x).moves (region_of s x).box

-- how many value lists the ranges hold
unfoldable pub volume : List Range → ℕ
volume [] = 1
volume (r ∷ rs) = size r * volume rs

-- how many configurations the regions hold
unfoldable pub volumes : List Region → ℕ
volumes [] = 0
volumes (r ∷ rs) = volume r.box.ranges + volumes rs

unfoldable pub configurations : Sheet → ℕ
configurations s = volumes s.regions

-- The class of a configuration: what is equivalent to it, as a box. No longer sequence tells more apart.
unfoldable pub class_of : Sheet → Configuration → Box
class_of s x = class_box s (configurations s) x

-- y is in the class of x
unfoldable pub same_class : Sheet → Configuration → Configuration → Bool
same_class s x y = in_box (class_of s x) y

-- A representative of each block, in the chart's order: the start, then the others as first named, members in order and
-- their actions in order. 255 members are visited, so a list of at most 255 is complete.
unfoldable pub blocks : Sheet → List Configuration
blocks s = explore (sheet_system s) (same_class s) s.actions s.start 255

-- refusal 9: more than 255 blocks
unfoldable pub too_many : Sheet → Bool
too_many s = ltb 255 (length (blocks s))

abbrev pub block_at : Sheet → ℕ → Configuration
block_at s i = get_or (blocks s) i s.start

-- the byte of a target: 255 for barred, or the block's number
unfoldable pub target_byte : Sheet → Option Configuration → ℕ
target_byte s None = 255
target_byte s (Some y) = place (same_class s) (blocks s) y

-- a block's record in the chart: label, then a target for each action
unfoldable pub chart_record : Sheet → ℕ → List ℕ
chart_record s i = split 2 (region_of s (block_at s i)).label ++ collect (λ a. target_byte s (step s a (block_at s i)) ∷ []) s.actions

-- mark and version
abbrev pub chart_mark : List ℕ
chart_mark = 66 ∷ 67 ∷ 72 ∷ 1 ∷ 0 ∷ []

-- The bytes of the sheet's chart.
unfoldable pub chart_of : Sheet → List ℕ
chart_of s = chart_mark ++ (s.actions ∷ length (blocks s) ∷ collect (chart_record s) (length (blocks s)))

-- a signed number in n bytes
abbrev pub signed_bytes : ℕ → ℤ → List ℕ
signed_bytes n z = split n (bits_of n z)

-- the bytes of ranges, low then high, n bytes a bound
unfoldable pub range_bytes : ℕ → List Range → List ℕ
range_bytes n [] = []
range_bytes n (r ∷ rs) = signed_bytes n r.low ++ signed_bytes n r.high ++ range_bytes n rs

-- a block's record in the box list
unfoldable pub box_record : ℕ → Sheet → ℕ → List ℕ
box_record n s i = (class_of s (block_at s i)).state ∷ range_bytes n (class_of s (block_at s i)).ranges

-- The bytes of the sheet's box list, n bytes a bound (2 in sheet version 1).
unfoldable pub box_list_of : ℕ → Sheet → List ℕ
box_list_of n s = collect (box_record n s) (length (blocks s))
