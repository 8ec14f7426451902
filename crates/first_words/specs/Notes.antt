-- Which record first names each block of a chart, and by which action, as noted in two arrays; and the word that the notes give.
use Rattle.std.specs.Prelude.{◌≡◌, List, ℕ, ◌<◌, length, get_or}
use Rattle.exploration.specs.FirstWords.{Earlier}
use Rattle.model.specs.Chart.{actions_of, blocks_of, target_of}

-- an array of notes has an entry for each byte that a target may be
abbrev pub NotesRoom : List ℕ → Type 0
NotesRoom l = length l ≡ 256

-- What is noted for the target of action b in record j: record p has the same target by action q, and that is not later.
pub record Noted (c : List ℕ) (j b p q : ℕ) : Type 0 where
  pub record_within : p < blocks_of c
  pub action_within : q < actions_of c
  pub same_target : target_of c p q ≡ target_of c j b
  pub no_later : Earlier j b p q → ⊥

-- The notes for the targets of all pairs from action a of record i on: rs has the records, bs the actions.
pub record NotedFrom (c : List ℕ) (i a : ℕ) (rs bs : List ℕ) : Type 0 where
  pub each : (j b : ℕ) → j < blocks_of c → b < actions_of c → (Earlier j b i a → ⊥) → Noted c j b (get_or rs (target_of c j b) 0) (get_or bs (target_of c j b) 0)
