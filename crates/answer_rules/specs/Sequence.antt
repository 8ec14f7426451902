-- The checks of a run on its action sequence and its buffer, as the code makes them.
use Rattle.std.specs.Prelude.{List, ℕ, ◌+◌, ◌≤◌, ◌<◌, ltb, length, get_or}
use Rattle.answer_rules.specs.declared.Reason.TheVariants.{Action}
use Rattle.answer_rules.specs.Refusal.{Checked, at}
use Rattle.answer_rules.specs.Stages.{demand}

-- one action
abbrev pub action_check : ℕ → List ℕ → ℕ → Checked
action_check count w i = demand (ltb (get_or w i 0) count) (at Action i)

-- what passing says
pub record Runs (count : ℕ) (w : List ℕ) (room : ℕ) : Type 0 where
  pub short : length w ≤ 4096
  pub actions : (i : ℕ) → i < length w → get_or w i 0 < count
  pub fits : length w + 1 ≤ room
