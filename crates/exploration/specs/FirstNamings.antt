-- Records of targets, and which of them first names each number, and by which action, as noted in two arrays.
use Rattle.std.specs.Prelude.{◌≡◌, List, ℕ, ◌<◌, get_or}
use Rattle.exploration.specs.FirstWords.{Earlier}

-- What is noted for the target of action b in record j, where n records have a target t for each of m actions: record p has the same target by action q,
-- and that is not later.
pub record Noted (n m : ℕ) (t : ℕ → ℕ → ℕ) (j b p q : ℕ) : Type 0 where
  pub record_within : p < n
  pub action_within : q < m
  pub same_target : t p q ≡ t j b
  pub no_later : Earlier j b p q → ⊥

-- The notes for the targets of all pairs from action a of record i on: rs has the records, bs the actions.
pub record NotedFrom (n m : ℕ) (t : ℕ → ℕ → ℕ) (i a : ℕ) (rs bs : List ℕ) : Type 0 where
  pub each : (j b : ℕ) → j < n → b < m → (Earlier j b i a → ⊥) → Noted n m t j b (get_or rs (t j b) 0) (get_or bs (t j b) 0)
