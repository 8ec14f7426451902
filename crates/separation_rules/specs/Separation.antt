-- Where two charts part (document 02, U2; a shortest separating sequence in the field): the shortest action sequence whose readings on two charts differ, and of
-- several the first in dictionary order by action number; or that there is none. Definitions only.
use Rattle.std.specs.Prelude.{◌≡◌, Bool, true, false, not, List, ℕ, ◌+◌, ◌-◌, ◌≤◌, eqb, leb, length, Option, Some, None, Result, Ok, Err}
use Rattle.systems.specs.System.{same_reading, Below}
use Rattle.systems.specs.Words.{shorter_lists, first_that, Sooner}
use Rattle.answer_rules.specs.declared.Reason.TheVariants.{Room, Actions}
use Rattle.answer_rules.specs.declared.Refusal.{Refusal}
use Rattle.answer_rules.specs.Refusal.{Checked, at}
use Rattle.answer_rules.specs.Stages.{and_then, demand}
use Rattle.answer_rules.specs.Run.{overwrite}
use Rattle.model.specs.Chart.{actions_of, blocks_of, chart_reading}
use Rattle.chart.specs.Check.{chart_check}

-- whether an action sequence parts two charts: its readings, each from block 0, differ
unfoldable pub parts_charts : List ℕ → List ℕ → List ℕ → Bool
parts_charts c d w = not (same_reading (chart_reading c w) (chart_reading d w))

-- The evidence that two charts differ: of all sequences of their actions the first, by length and then in dictionary order, that parts them. Those of fewer
-- actions than both charts have blocks are tried; where none of them parts the charts, no other does (Theorems.antt).
unfoldable pub evidence : List ℕ → List ℕ → Option (List ℕ)
evidence c d = first_that (parts_charts c d) (shorter_lists (actions_of c) (blocks_of c + blocks_of d))

-- the largest number of 64 bits
abbrev pub largest : ℕ
largest = 18446744073709551615

-- a sum that is at most the largest number of 64 bits
unfoldable pub capped : ℕ → ℕ
capped n = elim (leb n largest) [ true ↦ n | false ↦ largest ]

-- the second chart's refusal: the number returned is raised by the first's length
unfoldable pub raised_by : ℕ → Checked → Checked
raised_by l (Ok _) = Ok tt
raised_by l (Err why) = Err (at why.reason (capped (why.returned + l)))

-- the first chart's refusals, then the second's
unfoldable pub charts_check : List ℕ → List ℕ → Checked
charts_check c d = and_then (chart_check c) (raised_by (length c) (chart_check d))

-- how many bytes the buffer needs: N1 + N2 - 1
unfoldable pub bytes_needed : List ℕ → List ℕ → ℕ
bytes_needed c d = blocks_of c + blocks_of d - 1

-- 16 for different numbers of actions, then 10 for a buffer that is too short
unfoldable pub request_check : List ℕ → List ℕ → ℕ → Checked
request_check c d room = and_then (demand (eqb (actions_of c) (actions_of d)) (at Actions 5)) (demand (leb (bytes_needed c d) room) (at Room (bytes_needed c d)))

-- all checks
unfoldable pub pair_check : List ℕ → List ℕ → ℕ → Checked
pair_check c d room = and_then (charts_check c d) (request_check c d room)

-- what is answered: a refusal; or that the charts are equal in behaviour, or that the sequence that parts them is written and has so many actions
abbrev pub Separation : Type 0
Separation = Result (Option ℕ) Refusal

-- the answer: the refusal, or that the charts are equal in behaviour, or how long the sequence is that parts them
unfoldable pub separated_by : Checked → Option (List ℕ) → Separation
separated_by (Ok _) None = Ok None
separated_by (Ok _) (Some w) = Ok (Some (length w))
separated_by (Err why) o = Err why

-- what the buffer then holds: the sequence from its front, and unchanged where there is none
unfoldable pub left_by : Checked → Option (List ℕ) → List ℕ → List ℕ
left_by (Ok _) None old = old
left_by (Ok _) (Some w) old = overwrite w old
left_by (Err why) o old = old

-- Two charts are equal in behaviour when no sequence, of whatever length and actions, parts them.
abbrev pub EqualBehaviour : List ℕ → List ℕ → Type 0
EqualBehaviour c d = (w : List ℕ) → chart_reading c w ≡ chart_reading d w

-- What is promised of the evidence:
pub record IsEvidence (c d w : List ℕ) : Type 0 where
  -- it has actions of the charts alone, and no more than the buffer has room for,
  pub of_actions : Below (actions_of c) w
  pub short : length w ≤ bytes_needed c d
  -- its readings differ, and so do their entries alone,
  pub parts : chart_reading c w ≡ chart_reading d w → ⊥
  pub entries_differ : (chart_reading c w).entries ≡ (chart_reading d w).entries → ⊥
  -- and no sequence that parts the charts, of whatever actions, is shorter, or of that length and earlier in dictionary order
  pub first : (v : List ℕ) → (chart_reading c v ≡ chart_reading d v → ⊥) → Sooner v w → ⊥
