-- Refusals: a reason, which has a number in document 01's table "Turned back" or in document 02, and what is returned.
use Rattle.std.specs.Prelude.{List, ◌++◌, ℕ, Result, ⊤, codes, decimal}
use Rattle.answer_rules.specs.declared.Reason.{Reason}
use Rattle.answer_rules.specs.declared.Reason.TheVariants.{Header, Count, Length, Field, Label, Overlap, Start, Landing, Blocks, Room, Action, Numbering, Bars, Unparted, Block, Actions, NoSetPoint, GoRound}
use Rattle.answer_rules.specs.declared.Refusal.{Refusal}

-- what a check gives: it passed, or it was refused
abbrev pub Checked : Type 0
Checked = Result ⊤ Refusal

-- the number of a reason
abbrev pub number_of : Reason → ℕ
number_of Header = 1
number_of Count = 2
number_of Length = 3
number_of Field = 4
number_of Label = 5
number_of Overlap = 6
number_of Start = 7
number_of Landing = 8
number_of Blocks = 9
number_of Room = 10
number_of Action = 11
number_of Numbering = 12
number_of Bars = 13
number_of Unparted = 14
number_of Block = 15
number_of Actions = 16
number_of NoSetPoint = 19
number_of GoRound = 22

-- the refusal for a reason, with what is returned
abbrev pub at : Reason → ℕ → Refusal
at why p = record { reason = why; returned = p }

-- what a refusal prints: its number and what is returned
abbrev pub text_of : Refusal → List ℕ
text_of why = codes "refused " ++ decimal (number_of why.reason) ++ codes " at " ++ decimal why.returned
