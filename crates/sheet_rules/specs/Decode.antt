-- From the bytes of a sheet to the sheet of the model. Definitions only.
use Rattle.std.specs.Prelude.{true, false, List, [], ◌∷◌, ℕ, eqb, get_or, drop}
use Rattle.integers.specs.declared.Range.{Range}
use Rattle.integers.specs.LittleEndian.{signed_at}
use Rattle.systems.specs.Lists.{collect}
use Rattle.model.specs.declared.Rule.{Rule}
use Rattle.model.specs.declared.Rule.TheVariants.{Set, Carry}
use Rattle.model.specs.Sheet.{Configuration, Box, Move, Barred, Open, Region, Sheet}
use Rattle.sheet_rules.specs.Layout.{counters_of, actions_of, regions_of, start_state, start_value, bound_size, label_at, state_at, low_place, high_place, move_part, rule_place, kind_of, source_of, factor_of, offset_of}

-- f 0, f 1, .., f (n - 1)
abbrev pub listed : {A : Type 0} → (ℕ → A) → ℕ → List A
listed f n = collect (λ i. f i ∷ []) n

-- a rule, from a part that starts with it: kind 0 is set, 1 is carry
unfoldable pub rule_of : List ℕ → Rule
rule_of p = elim (eqb (kind_of p) 0) [ true ↦ Set (offset_of p) | false ↦ Carry (source_of p) (factor_of p) (offset_of p) ]

-- the rule of counter v of a move record
abbrev pub rule_at : List ℕ → ℕ → Rule
rule_at p v = rule_of (drop (rule_place v) p)

-- a move with V rules, from a part that starts with its record: kind 0 is barred, 1 is open
unfoldable pub move_of : ℕ → List ℕ → Move
move_of V# p = elim (eqb (kind_of p) 0) [ true ↦ Barred | false ↦ Open (get_or p 1 0) (listed (rule_at p) V#) ]

unfoldable pub range_at : List ℕ → ℕ → ℕ → Range
range_at s i v = record { low = signed_at (bound_size s) s (low_place s i v); high = signed_at (bound_size s) s (high_place s i v) }

unfoldable pub box_at : List ℕ → ℕ → Box
box_at s i = record { state = state_at s i; ranges = listed (range_at s i) (counters_of s) }

unfoldable pub move_at : List ℕ → ℕ → ℕ → Move
move_at s i a = move_of (counters_of s) (move_part s i a)

unfoldable pub region_at : List ℕ → ℕ → Region
region_at s i = record { label = label_at s i; box = box_at s i; moves = listed (move_at s i) (actions_of s) }

unfoldable pub start_of : List ℕ → Configuration
start_of s = record { state = start_state s; values = listed (start_value s) (counters_of s) }

-- The sheet that the bytes describe.
unfoldable pub decode : List ℕ → Sheet
decode s = record { counters = counters_of s; actions = actions_of s; regions = listed (region_at s) (regions_of s); start = start_of s }
