-- Which bytes are a sheet, and how others are refused (document 01, "Turned back", 1 to 8; the form, 1 to 4, stands in Form.antt). Definitions
-- only. Checks run by rising number; each looks for the first place such that.
use Rattle.std.specs.Prelude.{Bool, true, ◌&&◌, not, List, [], ◌∷◌, ℕ, eqb, Option, Some, None}
use Rattle.integers.specs.Range.{meet, vacant}
use Rattle.systems.specs.Search.{any, all}
use Rattle.answer_rules.specs.declared.Reason.TheVariants.{Label, Overlap, Start, Landing}
use Rattle.answer_rules.specs.Refusal.{Checked, at}
use Rattle.answer_rules.specs.Stages.{and_then, demand, each}
use Rattle.model.specs.Sheet.{Configuration, moved, in_box}
use Rattle.model.specs.Listing.{members}
use Rattle.sheet_rules.specs.Layout.{counters_of, actions_of, regions_of, region_place, label_at, state_at, move_place}
use Rattle.sheet_rules.specs.Decode.{range_at, box_at, move_at, start_of}
use Rattle.sheet_rules.specs.Form.{check_header, check_counts, check_length, check_limits}

-- 5, region j: an earlier region has its label
unfoldable pub check_label : List ℕ → ℕ → Checked
check_label s j = demand (not (any (λ i. eqb (label_at s i) (label_at s j)) j)) (at Label (region_place s j))

-- two boxes share a configuration: they have one state, and each counter's ranges meet
unfoldable pub overlap : List ℕ → ℕ → ℕ → Bool
overlap s i j = eqb (state_at s i) (state_at s j) && all (λ v. not (vacant (meet (range_at s i v) (range_at s j v)))) (counters_of s)

-- 6, region j: an earlier region shares a configuration with it
unfoldable pub check_overlap : List ℕ → ℕ → Checked
check_overlap s j = demand (not (any (λ i. overlap s i j) j)) (at Overlap (region_place s j))

-- the configuration is in some region of the sheet
abbrev pub covered : List ℕ → Configuration → Bool
covered s x = any (λ i. in_box (box_at s i) x) (regions_of s)

-- 7: the start is in no region
unfoldable pub check_start : List ℕ → Checked
check_start s = demand (covered s (start_of s)) (at Start 8)

-- every element of a list passes
unfoldable pub every : {A : Type 0} → (A → Bool) → List A → Bool
every p [] = true
every p (x ∷ l) = p x && every p l

-- a move takes the configuration into some region, or is barred
unfoldable pub lands : List ℕ → Option Configuration → Bool
lands s None = true
lands s (Some y) = covered s y

-- 8, action a of region i: it takes some configuration of the region into no region
unfoldable pub check_landing : List ℕ → ℕ → ℕ → Checked
check_landing s i a = demand (every (λ x. lands s (moved (move_at s i a) x)) (members (box_at s i))) (at Landing (move_place s i a))

-- The check of a sheet.
unfoldable pub sheet_check : List ℕ → Checked
sheet_check s =
    and_then (check_header s)
    (and_then (check_counts s)
    (and_then (check_length s)
    (and_then (check_limits s)
    (and_then (each (check_label s) (regions_of s))
    (and_then (each (check_overlap s) (regions_of s))
    (and_then (check_start s) (each (λ i. each (check_landing s i) (actions_of s)) (regions_of s))))))))
