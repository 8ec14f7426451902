-- The form of a chart after its header (document 01, "Turned back"): refusals 4, 12 and 13, each at the first place in file order.
use Rattle.std.specs.Prelude.{Bool, true, false, not, ◌||◌, List, ℕ, eqb, ltb, leb}
use Rattle.systems.specs.Search.{all}
use Rattle.answer_rules.specs.declared.Reason.TheVariants.{Field, Numbering, Bars}
use Rattle.answer_rules.specs.Refusal.{Checked, at}
use Rattle.answer_rules.specs.Stages.{and_then, demand, each}
use Rattle.model.specs.Chart.{actions_of, blocks_of, record_at, label_of, target_of, next_in, next_unnamed}
use Rattle.chart_bytes.specs.Header.{target_at}

-- 4: a target that is neither a block's number nor 255
unfoldable pub target_check : List ℕ → ℕ → ℕ → Checked
target_check c i a = demand (eqb (target_of c i a) 255 || ltb (target_of c i a) (blocks_of c)) (at Field (target_at c i a))

-- the fields of a record: the label 65,535, then the targets
unfoldable pub fields_check : List ℕ → ℕ → Checked
fields_check c i = and_then (demand (ltb (label_of c i) 65535) (at Field (record_at c i))) (each (target_check c i) (actions_of c))

unfoldable pub limits_check : List ℕ → Checked
limits_check c = each (fields_check c) (blocks_of c)

-- 12: a record after block 0 that no earlier record named; a target, 255 apart, above the next unnamed number m
unfoldable pub record_check : List ℕ → ℕ → ℕ → Checked
record_check c i m = demand (eqb i 0 || ltb i m) (at Numbering (record_at c i))

unfoldable pub order_check : List ℕ → ℕ → ℕ → ℕ → Checked
order_check c i a m = demand (eqb (target_of c i a) 255 || leb (target_of c i a) m) (at Numbering (target_at c i a))

unfoldable pub number_check : List ℕ → ℕ → ℕ → Checked
number_check c i m = and_then (record_check c i m) (each (λ a. order_check c i a (next_in c i m a)) (actions_of c))

unfoldable pub numbers_check : List ℕ → Checked
numbers_check c = each (λ i. number_check c i (next_unnamed c i)) (blocks_of c)

-- two targets are both barred, or both not
unfoldable pub same_bar : ℕ → ℕ → Bool
same_bar t u = elim (eqb t 255) [ true ↦ eqb u 255 | false ↦ not (eqb u 255) ]

-- two blocks bar the same actions
unfoldable pub same_bars : List ℕ → ℕ → ℕ → Bool
same_bars c i j = all (λ a. same_bar (target_of c i a) (target_of c j a)) (actions_of c)

-- 13: a label of an earlier record, with other actions barred
unfoldable pub bar_check : List ℕ → ℕ → ℕ → Checked
bar_check c j i = demand (not (eqb (label_of c i) (label_of c j)) || same_bars c i j) (at Bars (record_at c j))

unfoldable pub bars_check : List ℕ → Checked
bars_check c = each (λ j. each (bar_check c j) j) (blocks_of c)
