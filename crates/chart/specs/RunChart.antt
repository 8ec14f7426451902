-- The run of an action sequence on a chart: its checks, its answer and what the lent buffer then holds.
use Rattle.std.specs.Prelude.{List, ℕ, length, Result}
use Rattle.answer_rules.specs.declared.Refusal.{Refusal}
use Rattle.answer_rules.specs.declared.Run.{Run}
use Rattle.answer_rules.specs.Refusal.{Checked}
use Rattle.answer_rules.specs.Stages.{and_then}
use Rattle.answer_rules.specs.Run.{run_checks, ran_by, left_by}
use Rattle.model.specs.Chart.{actions_of, chart_reading}
use Rattle.chart.specs.Check.{chart_check}

-- the chart is checked, then the sequence and the buffer
unfoldable pub chart_run_check : List ℕ → List ℕ → ℕ → Checked
chart_run_check c w room = and_then (chart_check c) (run_checks (actions_of c) w room)

-- the answer
unfoldable pub chart_ran : List ℕ → List ℕ → ℕ → Result Run Refusal
chart_ran c w room = ran_by (chart_run_check c w room) (chart_reading c w)

-- what the buffer then holds
unfoldable pub chart_left : List ℕ → List ℕ → List ℕ → List ℕ
chart_left c w old = left_by (chart_run_check c w (length old)) (chart_reading c w) old
