-- Making a chart (document 01): what is checked, what is answered, and what the two lent buffers then hold.
use Rattle.std.specs.Prelude.{◌≡◌, not, List, ℕ, ◌+◌, ◌*◌, leb, length, Result, Ok, Err}
use Rattle.answer_rules.specs.declared.Reason.TheVariants.{Blocks, Room}
use Rattle.answer_rules.specs.declared.Refusal.{Refusal}
use Rattle.answer_rules.specs.Refusal.{Checked, at}
use Rattle.answer_rules.specs.Stages.{and_then, demand}
use Rattle.answer_rules.specs.Run.{overwrite}
use Rattle.model.specs.Sheet.{Sheet}
use Rattle.model.specs.Blocks.{blocks, too_many, chart_of, box_list_of}
use Rattle.sheet_rules.specs.Layout.{bound_size}
use Rattle.sheet_rules.specs.Decode.{decode}
use Rattle.sheet_rules.specs.Check.{sheet_check}

-- how many bytes the chart takes, and the box list with w bytes a bound
unfoldable pub chart_size : Sheet → ℕ
chart_size s = 7 + length (blocks s) * (2 + s.actions)

unfoldable pub list_size : ℕ → Sheet → ℕ
list_size w s = length (blocks s) * (1 + 2 * w * s.counters)

-- 10 for the first short buffer, chart, then list, by the lengths needed and those that the buffers have
unfoldable pub rooms_for : ℕ → ℕ → ℕ → ℕ → Checked
rooms_for c l chart list = and_then (demand (leb c chart) (at Room c)) (demand (leb l list) (at Room l))

-- 9 for more than 255 blocks, then 10, with w bytes a bound
unfoldable pub block_checks : ℕ → Sheet → ℕ → ℕ → Checked
block_checks w s chart list = and_then (demand (not (too_many s)) (at Blocks 0)) (rooms_for (chart_size s) (list_size w s) chart list)

-- all checks, for buffers of given lengths
unfoldable pub make_checks : List ℕ → ℕ → ℕ → Checked
make_checks s chart list = and_then (sheet_check s) (block_checks (bound_size s) (decode s) chart list)

-- the answer: the refusal, or the number of blocks
unfoldable pub made_by : Checked → Sheet → Result ℕ Refusal
made_by (Ok _) s = Ok (length (blocks s))
made_by (Err why) s = Err why

-- what a buffer then holds: unchanged on refusal
unfoldable pub written_by : Checked → List ℕ → List ℕ → List ℕ
written_by (Ok _) front old = overwrite front old
written_by (Err why) front old = old

-- What is answered and left in the buffers is what the checks say, with w bytes a bound.
pub record Makes (checks : Checked) (w : ℕ) (s : Sheet) (r : Result ℕ Refusal) (chart chart' list list' : List ℕ) : Type 0 where
  pub answer : r ≡ made_by checks s
  pub chart_left : chart' ≡ written_by checks (chart_of s) chart
  pub list_left : list' ≡ written_by checks (box_list_of w s) list
