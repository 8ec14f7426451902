-- What the code rests on: from the chart that a making wrote to the way, and from its refusals to those of a way.
use Rattle.std.specs.Prelude.{◌≡◌, ℕ, ◌≤◌, length, take, replicate, Result, Ok}
use mathlib.Core.List.{List}
use Rattle.exploration.specs.FirstWords.{Along}
use Rattle.answer_rules.specs.declared.Refusal.{Refusal}
use Rattle.model.specs.Sheet.{WellFormed}
use Rattle.model.specs.Blocks.{chart_of}
use Rattle.model.specs.Chart.{blocks_of, chart_system}
use Rattle.sheet_rules.specs.Decode.{decode}
use Rattle.sheet_rules.specs.Check.{sheet_check}
use Rattle.chart_bytes.specs.Shape.{Shaped}
use Rattle.making_rules.specs.Making.{written_by}
use Rattle.making_rules.specs.Claims.{block_count, chart_length}
use Rattle.access_rules.specs.Access.{request_checks, answered_by}

-- What is answered, and left in the buffer, for block k of a chart: by its checks and, where these pass, the word along the first namings.
pub record Accesses (c : List ℕ) (k : ℕ) (r : Result ℕ Refusal) (old new : List ℕ) : Type 0 where
  pub word : List ℕ
  pub along : request_checks (blocks_of c) k (length old) ≡ Ok tt → Along (chart_system c) k word
  pub answer : r ≡ answered_by (request_checks (blocks_of c) k (length old)) word
  pub left : new ≡ written_by (request_checks (blocks_of c) k (length old)) word old

-- an array of n bytes before anything is made in it
abbrev pub zeros : ℕ → List ℕ
zeros n = replicate n 0

-- What is known of the chart at the front of a buffer where it was made.
pub record Charted (s buffer : List ℕ) : Type 0 where
  pub well : WellFormed (decode s)
  pub passes : sheet_check s ≡ Ok tt
  pub few : block_count s ≤ 255
  pub shaped : Shaped (chart_of (decode s))
  pub front : take (chart_length s (block_count s)) buffer ≡ chart_of (decode s)
  pub room : chart_length s (block_count s) ≤ length buffer
