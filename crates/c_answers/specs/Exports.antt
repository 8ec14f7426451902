-- Answers as C sees them: document 01's number of a refusal, 0 where it was done, and what is returned.
use Rattle.std.specs.Prelude.{true, false, ℕ, eqb, ℤ, Option, Some, None, unwrap_or, Result, Ok, Err}
use Rattle.model.specs.declared.Rule.{Rule}
use Rattle.model.specs.declared.Rule.TheVariants.{Set, Carry}
use Rattle.set_point_rules.specs.declared.SetPoint.{SetPoint}
use Rattle.answer_rules.specs.declared.Refusal.{Refusal}
use Rattle.answer_rules.specs.declared.Run.{Run}
use Rattle.answer_rules.specs.Refusal.{Checked, number_of}

-- the number of any answer
abbrev pub number_told : {T : Type 0} → Result T Refusal → ℕ
number_told (Ok x) = 0
number_told (Err why) = number_of why.reason

-- what any answer returns, by what one that was done returns
abbrev pub returned_by : {T : Type 0} → (T → ℕ) → Result T Refusal → ℕ
returned_by f (Ok x) = f x
returned_by f (Err why) = why.returned

-- what a parameter holds after an answer: what it held before on refusal
abbrev pub stored_by : {T A : Type 0} → (T → A) → Result T Refusal → A → A
stored_by f (Ok x) before = f x
stored_by f (Err why) before = before

-- a check: 0 where it passed
abbrev pub check_returned : Checked → ℕ
check_returned = returned_by (λ x. 0)

-- a depth, a number of blocks, the length of a way
abbrev pub value_returned : Result ℕ Refusal → ℕ
value_returned = returned_by (λ n. n)

-- a run: the number of entries written
abbrev pub run_returned : Result Run Refusal → ℕ
run_returned = returned_by (λ run. run.entries)

-- the index of the first barred action, or the length of the sequence where nothing was barred
abbrev pub run_barred : Result Run Refusal → ℕ → ℕ → ℕ
run_barred ran actions before = stored_by (λ run. unwrap_or run.barred actions) ran before

-- where two charts part: the length of the sequence, which is 0 where they are equal; whether they are is stored apart
abbrev pub part_returned : Result (Option ℕ) Refusal → ℕ
part_returned = returned_by (λ parted. unwrap_or parted 0)

abbrev pub equal_of : Option ℕ → ℕ
equal_of None = 1
equal_of (Some n) = 0

abbrev pub part_equal : Result (Option ℕ) Refusal → ℕ → ℕ
part_equal = stored_by equal_of

-- a rule from a kind, as in a rule record, and its numbers: kind 1 is a carry, here from counter 0, and no other kind is
unfoldable pub rule_from : ℕ → ℤ → ℤ → Rule
rule_from kind factor offset = elim (eqb kind 1) [ true ↦ Carry 0 factor offset | false ↦ Set offset ]

-- a set-point: 0 where it was answered, with its old value and remainder
abbrev pub point_returned : Result SetPoint Refusal → ℕ
point_returned = returned_by (λ point. 0)

abbrev pub point_old : Result SetPoint Refusal → ℤ → ℤ
point_old = stored_by (λ point. point.old)

abbrev pub point_remainder : Result SetPoint Refusal → ℤ → ℤ
point_remainder = stored_by (λ point. point.remainder)

-- a counter that goes round: the number of counts given, eight, or 0 where there are none
abbrev pub given_of : {A : Type 0} → Option A → ℕ
given_of None = 0
given_of (Some counts) = 8

abbrev pub solved_returned : {A : Type 0} → Result (Option A) Refusal → ℕ
solved_returned = returned_by given_of
