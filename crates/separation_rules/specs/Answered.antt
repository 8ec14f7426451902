-- What is promised of every call, on the bytes of two charts: when they are called equal, and when a sequence is given and what is then written. What is refused
-- is in Refusals.antt.
use Rattle.std.specs.Prelude.{◌≡◌, List, ℕ, ◌≤◌, length, take, drop}
use Rattle.model.specs.Chart.{actions_of, ChartRules}
use Rattle.separation_rules.specs.Separation.{bytes_needed, EqualBehaviour, IsEvidence}

-- What is asked of a call that is not refused: both charts obey the chart rules, they have as many actions, and the buffer has N1 + N2 - 1 bytes.
pub record Asked (c d : List ℕ) (room : ℕ) : Type 0 where
  pub first_rules : ChartRules c
  pub second_rules : ChartRules d
  pub same_actions : actions_of c ≡ actions_of d
  pub fits : bytes_needed c d ≤ room

-- What is promised where the charts are called equal and the buffer holds new after it: no sequence of whatever length parts them, their bytes are equal, and
-- nothing is written.
pub record SaysEqual (c d old new : List ℕ) : Type 0 where
  pub asked : Asked c d (length old)
  pub behave : EqualBehaviour c d
  pub bytes : c ≡ d
  pub unchanged : new ≡ old

-- What is promised where a sequence of l actions is given: the first l bytes are the evidence, and no other byte is written.
pub record SaysParted (c d : List ℕ) (l : ℕ) (old new : List ℕ) : Type 0 where
  pub asked : Asked c d (length old)
  pub long : length (take l new) ≡ l
  pub given : IsEvidence c d (take l new)
  pub behind : drop l new ≡ drop l old
