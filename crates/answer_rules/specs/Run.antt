-- A run of an action sequence (document 01): what is checked, what is answered and what the lent buffer then holds. The same for sheets and charts.
use Rattle.std.specs.Prelude.{Bool, true, false, List, ◌++◌, ℕ, ◌+◌, ltb, leb, length, get_or, drop, Option, Some, None, Result, Ok, Err}
use Rattle.systems.specs.System.{Reading}
use Rattle.answer_rules.specs.declared.Reason.TheVariants.{Length, Room, Action}
use Rattle.answer_rules.specs.declared.Refusal.{Refusal}
use Rattle.answer_rules.specs.declared.Run.{Run}
use Rattle.answer_rules.specs.Refusal.{Checked, at}
use Rattle.answer_rules.specs.Stages.{and_then, demand, each}

-- 3 above 4,096 actions, 11 at the first action not below the number of actions, 10 for a buffer below n + 1 entries
unfoldable pub run_checks : ℕ → List ℕ → ℕ → Checked
run_checks actions w room =
    and_then (demand (leb (length w) 4096) (at Length (length w)))
    (and_then (each (λ i. demand (ltb (get_or w i 0) actions) (at Action i)) (length w)) (demand (leb (length w + 1) room) (at Room (length w + 1))))

-- the first barred action, once the action at a further index was taken or, where it was barred, skipped
unfoldable pub noted_at : Option ℕ → ℕ → Bool → Option ℕ
noted_at None index true = Some index
noted_at None index false = None
noted_at (Some k) index barred = Some k

-- the answer: the refusal, or how many entries were read and which action was barred first
unfoldable pub ran_by : Checked → Reading → Result Run Refusal
ran_by (Ok _) r = Ok (record { entries = length r.entries; barred = r.barred })
ran_by (Err why) r = Err why

-- a list written over another from the front
unfoldable pub overwrite : List ℕ → List ℕ → List ℕ
overwrite front old = front ++ drop (length front) old

-- what the buffer then holds: unchanged on refusal
unfoldable pub left_by : Checked → Reading → List ℕ → List ℕ
left_by (Ok _) r old = overwrite r.entries old
left_by (Err why) r old = old
