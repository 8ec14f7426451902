-- What version 1 keeps: its layout and its limits are those that it had before there was a version 2, and so is every answer of check 4.
use Rattle.std.specs.Prelude.{List, ℕ, ltb}
use Rattle.std.specs.Int.Signed.{le_z}
use Rattle.answer_rules.specs.declared.Reason.TheVariants.{Field}
use Rattle.answer_rules.specs.Refusal.{Checked, at}
use Rattle.answer_rules.specs.Stages.{and_then, demand, each}
use Rattle.sheet_rules.specs.Layout.{counters_of, actions_of, region_place, label_at, high_place, move_place, move_part}
use Rattle.sheet_rules.specs.Decode.{range_at}
use Rattle.sheet_rules.specs.Form.{check_move}

-- region i as it was checked: the label 65,535, low above high, then the moves with offsets within 4,000,000 of zero
unfoldable pub former_fields : List ℕ → ℕ → Checked
former_fields s i =
    and_then (demand (ltb (label_at s i) 65535) (at Field (region_place s i)))
    (and_then (each (λ v. demand (le_z (range_at s i v).low (range_at s i v).high) (at Field (high_place s i v))) (counters_of s))
    (each (λ a. check_move (counters_of s) 4000000 (move_part s i a) (move_place s i a)) (actions_of s)))
