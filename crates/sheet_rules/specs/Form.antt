-- The form of a sheet: header, counts, length and the values of its fields (document 01, "Turned back", 1 to 4). Definitions only.
-- Checks run by rising number; each looks for the first place such that.
use Rattle.std.specs.Prelude.{Bool, true, false, ◌&&◌, not, List, [], ◌∷◌, ℕ, ◌+◌, eqb, leb, ltb, length, get_or, drop, take}
use Rattle.std.specs.Int.Signed.{le_z}
use Rattle.integers.specs.Range.{near}
use Rattle.answer_rules.specs.declared.Reason.TheVariants.{Header, Count, Length, Field}
use Rattle.answer_rules.specs.Refusal.{Checked, at}
use Rattle.answer_rules.specs.Stages.{and_then, demand, each}
use Rattle.sheet_rules.specs.Layout.{sheet_mark, version_of, offset_limit, counters_of, actions_of, regions_of, start_place, start_value, region_place, label_at, low_place, high_place, move_place, move_part, rule_place, kind_of, source_of, factor_of, offset_of}
use Rattle.sheet_rules.specs.Decode.{range_at}

-- the bytes of two lists are the same
unfoldable pub same_bytes : List ℕ → List ℕ → Bool
same_bytes [] [] = true
same_bytes [] (b ∷ l) = false
same_bytes (a ∷ k) [] = false
same_bytes (a ∷ k) (b ∷ l) = eqb a b && same_bytes k l

-- a number from m to n
abbrev pub from_to : ℕ → ℕ → ℕ → Bool
from_to m n x = leb m x && leb x n

-- 1: fewer bytes than the fixed header, or wrong mark or version: versions are 1 and 2
unfoldable pub check_header : List ℕ → Checked
check_header s = demand (leb 9 (length s) && (same_bytes (take 3 s) sheet_mark && from_to 1 2 (version_of s))) (at Header 0)

-- 2: the first count outside its limits
unfoldable pub check_counts : List ℕ → Checked
check_counts s =
    and_then (demand (from_to 1 3 (counters_of s)) (at Count 5))
    (and_then (demand (from_to 1 8 (actions_of s)) (at Count 6)) (demand (from_to 1 32 (regions_of s)) (at Count 7)))

-- 3: the length is not what the counts give
unfoldable pub check_length : List ℕ → Checked
check_length s = demand (eqb (length s) (region_place s (regions_of s))) (at Length (length s))

-- how far from zero a bound or a start value may be. One of 16 bits, as in version 1, always is that near.
abbrev pub value_limit : ℕ
value_limit = 1000000

-- 4, the start value of counter v
unfoldable pub check_value : List ℕ → ℕ → Checked
check_value s v = demand (near value_limit (start_value s v)) (at Field (start_place s v))

-- 4, counter v in region i: low or high outside its limits, then low above high, which is told at the place of high
unfoldable pub check_bound : List ℕ → ℕ → ℕ → Checked
check_bound s i v =
    and_then (demand (near value_limit (range_at s i v).low) (at Field (low_place s i v)))
    (and_then (demand (near value_limit (range_at s i v).high) (at Field (high_place s i v)))
    (demand (le_z (range_at s i v).low (range_at s i v).high) (at Field (high_place s i v))))

-- 4, the rule at a place, in an open move: the fields in file order, the offset at most so far from zero
unfoldable pub check_rule : ℕ → ℕ → List ℕ → ℕ → Checked
check_rule V# most p place =
    and_then (demand (leb (kind_of p) 1) (at Field place))
    (and_then (demand (elim (eqb (kind_of p) 0) [ true ↦ eqb (source_of p) 0 | false ↦ ltb (source_of p) V# ]) (at Field (place + 1)))
    (and_then (demand (elim (eqb (kind_of p) 0) [ true ↦ near 0 (factor_of p) | false ↦ near 100 (factor_of p) && not (near 0 (factor_of p)) ]) (at Field (place + 2)))
    (demand (near most (offset_of p)) (at Field (place + 3)))))

-- 4, the rule at a place, in a barred move: every field is zero
unfoldable pub check_zero_rule : List ℕ → ℕ → Checked
check_zero_rule p place =
    and_then (demand (eqb (kind_of p) 0) (at Field place))
    (and_then (demand (eqb (source_of p) 0) (at Field (place + 1))) (and_then (demand (near 0 (factor_of p)) (at Field (place + 2))) (demand (near 0 (offset_of p)) (at Field (place + 3)))))

-- 4, the move record at a place
unfoldable pub check_move : ℕ → ℕ → List ℕ → ℕ → Checked
check_move V# most p place =
    and_then (demand (leb (kind_of p) 1) (at Field place))
    (elim (eqb (kind_of p) 0) [
      | true ↦ and_then (demand (eqb (get_or p 1 0) 0) (at Field (place + 1))) (each (λ v. check_zero_rule (drop (rule_place v) p) (place + rule_place v)) V#)
      | false ↦ each (λ v. check_rule V# most (drop (rule_place v) p) (place + rule_place v)) V#
    ])

-- 4, region i: the label 65,535, the bounds, then the moves
unfoldable pub check_fields : List ℕ → ℕ → Checked
check_fields s i =
    and_then (demand (ltb (label_at s i) 65535) (at Field (region_place s i)))
    (and_then (each (check_bound s i) (counters_of s))
    (each (λ a. check_move (counters_of s) (offset_limit s) (move_part s i a) (move_place s i a)) (actions_of s)))

-- 4: the start values, then the regions
unfoldable pub check_limits : List ℕ → Checked
check_limits s = and_then (each (check_value s) (counters_of s)) (each (check_fields s) (regions_of s))
