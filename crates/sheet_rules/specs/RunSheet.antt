-- The run of an action sequence on a sheet: its checks, its answer and what the lent buffer then holds.
use Rattle.std.specs.Prelude.{List, ℕ, length, Result}
use Rattle.answer_rules.specs.declared.Refusal.{Refusal}
use Rattle.answer_rules.specs.declared.Run.{Run}
use Rattle.answer_rules.specs.Refusal.{Checked}
use Rattle.answer_rules.specs.Stages.{and_then}
use Rattle.answer_rules.specs.Run.{run_checks, ran_by, left_by}
use Rattle.model.specs.Sheet.{sheet_reading}
use Rattle.sheet_rules.specs.Layout.{actions_of}
use Rattle.sheet_rules.specs.Decode.{decode}
use Rattle.sheet_rules.specs.Check.{sheet_check}

-- the sheet is checked, then the sequence and the buffer
unfoldable pub sheet_run_check : List ℕ → List ℕ → ℕ → Checked
sheet_run_check s w room = and_then (sheet_check s) (run_checks (actions_of s) w room)

-- the answer
unfoldable pub sheet_ran : List ℕ → List ℕ → ℕ → Result Run Refusal
sheet_ran s w room = ran_by (sheet_run_check s w room) (sheet_reading (decode s) w)

-- what the buffer then holds
unfoldable pub sheet_left : List ℕ → List ℕ → List ℕ → List ℕ
sheet_left s w old = left_by (sheet_run_check s w (length old)) (sheet_reading (decode s) w) old
