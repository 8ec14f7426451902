-- The check of a chart (document 01, "Turned back"): refusals 1, 2, 3, 4, 12, 13 and 14, each at the first place in file order.
use Rattle.std.specs.Prelude.{List, ℕ, eqb}
use Rattle.answer_rules.specs.declared.Reason.TheVariants.{Unparted}
use Rattle.answer_rules.specs.Refusal.{Checked, at}
use Rattle.answer_rules.specs.Stages.{and_then, demand, each}
use Rattle.model.specs.Chart.{blocks_of, record_at, round_class}
use Rattle.chart_bytes.specs.Header.{header_check}
use Rattle.chart_form.specs.Form.{limits_check, numbers_check, bars_check}

-- 14: a block that is in the class of an earlier one when all rounds of refinement are done
unfoldable pub class_check : List ℕ → (ℕ → ℕ) → ℕ → Checked
class_check c f j = demand (eqb (f j) j) (at Unparted (record_at c j))

unfoldable pub classes_check : List ℕ → Checked
classes_check c = each (class_check c (round_class c (blocks_of c))) (blocks_of c)

-- all that comes before 14
unfoldable pub form_check : List ℕ → Checked
form_check c = and_then (header_check c) (and_then (limits_check c) (and_then (numbers_check c) (bars_check c)))

-- The check of a chart.
unfoldable pub chart_check : List ℕ → Checked
chart_check c = and_then (form_check c) (classes_check c)
