-- What is promised of counters that go round.
use Rattle.std.specs.Prelude.{List, ℕ, ◌+◌, ◌-◌, ◌%◌}
use Rattle.systems.specs.Words.{Before}
use Rattle.congruence_rules.specs.Congruence.{Solution}

-- what the first of all solutions is
pub record IsFirst (m s w : ℕ) (xs cs : List ℕ) : Type 0 where
  pub solution : Solution m s w xs cs
  pub first : (ds : List ℕ) → Solution m s w xs ds → Before ds cs → ⊥

-- from s to w it is as far as from 0 to their difference, going round
abbrev pub difference : ℕ → ℕ → ℕ → ℕ
difference m s w = (w + (m - s)) % m
