-- The way to a block (document 02, U1; an access sequence in the field): the shortest action sequence that leads from a sheet's start to a block of its chart,
-- and of several the first in dictionary order by action number. Definitions only.
use Rattle.std.specs.Prelude.{◌≡◌, Bool, not, List, [], ℕ, ◌-◌, ◌<◌, leb, ltb, length, Option, Some, None, Result, Ok, Err}
use Rattle.systems.specs.System.{Below}
use Rattle.systems.specs.Words.{ended, shorter_lists, first_that, Sooner}
use Rattle.answer_rules.specs.declared.Reason.TheVariants.{Blocks, Room, Block}
use Rattle.answer_rules.specs.declared.Refusal.{Refusal}
use Rattle.answer_rules.specs.Refusal.{Checked, at}
use Rattle.answer_rules.specs.Stages.{and_then, demand}
use Rattle.model.specs.Sheet.{Configuration, Sheet, in_box, sheet_system, sheet_reading}
use Rattle.model.specs.Blocks.{class_of, blocks, block_at, too_many}
use Rattle.model.specs.Theorems.{InBlock}
use Rattle.sheet_rules.specs.Decode.{decode}
use Rattle.sheet_rules.specs.Check.{sheet_check}

-- where an action sequence leads from the sheet's start
abbrev pub end_of : Sheet → List ℕ → Configuration
end_of s w = ended (sheet_system s) w s.start

-- whether that is a configuration of block k
unfoldable pub leads_into : Sheet → ℕ → List ℕ → Bool
leads_into s k w = in_box (class_of s (block_at s k)) (end_of s w)

-- what a search has found; there is a way to every block (Theorems.antt), so that nothing is never found
unfoldable pub or_empty : Option (List ℕ) → List ℕ
or_empty None = []
or_empty (Some w) = w

-- The way to block k: of all sequences of the sheet's actions the first, by length and then in dictionary order, that leads into the block. Those of fewer
-- actions than there are blocks are tried.
unfoldable pub way_to : Sheet → ℕ → List ℕ
way_to s k = or_empty (first_that (leads_into s k) (shorter_lists s.actions (length (blocks s))))

-- 15 for a block number not below n, then 10 for a buffer of fewer than n - 1 bytes
unfoldable pub request_checks : ℕ → ℕ → ℕ → Checked
request_checks n k room = and_then (demand (ltb k n) (at Block n)) (demand (leb (n - 1) room) (at Room (n - 1)))

-- all checks: the sheet's, then 9 for more than 255 blocks, then 15 and 10
unfoldable pub way_checks : List ℕ → ℕ → ℕ → Checked
way_checks s k room = and_then (sheet_check s) (and_then (demand (not (too_many (decode s))) (at Blocks 0)) (request_checks (length (blocks (decode s))) k room))

-- the answer: the refusal, or how long the way is
unfoldable pub answered_by : Checked → List ℕ → Result ℕ Refusal
answered_by (Ok _) w = Ok (length w)
answered_by (Err why) w = Err why

-- What is promised of the way to block k of a sheet:
pub record IsWay (s : Sheet) (k : ℕ) (w : List ℕ) : Type 0 where
  -- it has actions of the sheet alone, and fewer than there are blocks,
  pub of_actions : Below s.actions w
  pub short : length w < length (blocks s)
  -- it leads from the start to a configuration of the block, with nothing barred on the way,
  pub arrives : InBlock s k (end_of s w)
  pub unbarred : (sheet_reading s w).barred ≡ None
  -- and no sequence that leads to one, of whatever actions, is shorter, or of that length and earlier in dictionary order
  pub first : (v : List ℕ) → InBlock s k (end_of s v) → Sooner v w → ⊥
