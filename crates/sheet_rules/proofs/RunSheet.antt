-- The run of an action sequence on a sheet: its checks, its answer and what the lent buffer then holds.
use Rattle.std.specs.Prelude.{◌≡◌, List, ℕ, length, Err}
use Rattle.std.proofs.Common.{sym, ap}
use Rattle.answer_rules.specs.declared.Refusal.{Refusal}
use Rattle.answer_rules.specs.Refusal.{Checked}
use Rattle.answer_rules.proofs.Stages.{refused}
use Rattle.answer_rules.specs.Run.{run_checks, left_by}
use Rattle.model.specs.Sheet.{sheet_reading}
use Rattle.sheet_rules.specs.Layout.{actions_of}
use Rattle.sheet_rules.specs.Decode.{decode}
use Rattle.sheet_rules.specs.Check.{sheet_check}
use Rattle.sheet_rules.specs.RunSheet.{sheet_run_check, sheet_left}

-- A sheet that is refused leaves it as it was, whatever the sequence is.
pub refused_leaves : (s w old : List ℕ) (why : Refusal) → sheet_check s ≡ Err why → sheet_left s w old ≡ old
unfolding sheet_left sheet_run_check left_by
refused_leaves s w old why e = sym (ap (λ (c : Checked). left_by c (sheet_reading (decode s) w) old) (refused (run_checks (actions_of s) w (length old)) e))
