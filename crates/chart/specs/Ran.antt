-- A run's answer and buffer by what its checks say.
use Rattle.std.specs.Prelude.{◌≡◌, List, ℕ, length, Result, Ok, Err}
use Rattle.answer_rules.specs.declared.Refusal.{Refusal}
use Rattle.answer_rules.specs.declared.Run.{Run}
use Rattle.answer_rules.proofs.Stages.{then_fine}
use Rattle.answer_rules.specs.Run.{run_checks, ran_by, left_by}
use Rattle.answer_rules.proofs.Walk.{run_done, run_refused}
use Rattle.answer_rules.specs.Sequence.{Runs}
use Rattle.answer_rules.proofs.Sequence.{sequence_passed}
use Rattle.model.specs.Chart.{actions_of, chart_reading}
use Rattle.chart.specs.Check.{chart_check}
use Rattle.chart.specs.RunChart.{chart_run_check, chart_ran, chart_left}
use Rattle.chart.specs.Accepted.{Formed, check_passed}

pub run_passed : (c w : List ℕ) (room : ℕ) → chart_run_check c w room ≡ Ok tt → Formed c × Runs (actions_of c) w room
unfolding chart_run_check
run_passed c w room e =
    let (p, q) = then_fine (chart_check c) (run_checks (actions_of c) w room) e in
    (check_passed c p, sequence_passed (actions_of c) w room q)

pub ran_done : (c w old : List ℕ) {r : Result Run Refusal} {l : List ℕ} → chart_run_check c w (length old) ≡ Ok tt → r ≡ ran_by (Ok tt) (chart_reading c w)
    → l ≡ left_by (Ok tt) (chart_reading c w) old → (r ≡ chart_ran c w (length old)) × (l ≡ chart_left c w old)
unfolding chart_ran chart_left
ran_done c w old e p q = run_done (chart_reading c w) old e p q

pub ran_refused : (c w old : List ℕ) {why : Refusal} → chart_run_check c w (length old) ≡ Err why
    → (Err why ≡ chart_ran c w (length old)) × (old ≡ chart_left c w old)
unfolding chart_ran chart_left
ran_refused c w old e = run_refused (chart_reading c w) old e
