-- A well-formed sheet with at most 255 blocks: its chart is accepted, and runs on the two give the same answer and the same buffer.
use Rattle.std.specs.Prelude.{◌≡◌, List, ℕ, ◌≤◌, length, Ok}
use Rattle.std.proofs.Common.{sym, ◌∙◌}
use Rattle.std.proofs.Math.Path.{ap}
use Rattle.systems.specs.System.{System, Reading, reading, Alike}
use Rattle.answer_rules.specs.Refusal.{Checked}
use Rattle.answer_rules.specs.Stages.{and_then}
use Rattle.answer_rules.specs.Run.{run_checks, ran_by, left_by}
use Rattle.model.specs.Sheet.{Sheet, sheet_reading, WellFormed}
use Rattle.model.specs.Blocks.{blocks, chart_of}
use Rattle.model.specs.Chart.{actions_of, chart_system, chart_reading}
use Rattle.model.proofs.ChartBytes.{chart_of_actions}
use Rattle.model.proofs.ChartRules.{chart_rules, chart_reading_lem}
use Rattle.chart.specs.Check.{chart_check}
use Rattle.chart.specs.RunChart.{chart_run_check, chart_ran, chart_left}
use Rattle.chart.specs.Accepted.{accepted}

-- A run on any system whose start reads like block 0 of an accepted chart, with the chart's actions, once its own check passed:
-- the same answer and the same buffer, whatever the sequence and the buffer, refused ones too.
pub same_run : {X : Type 0} (s : System X) (x : X) (c : List ℕ) (check : Checked) → Alike s (chart_system c) x 0 → check ≡ Ok tt → chart_check c ≡ Ok tt
    → (w old : List ℕ)
    → (ran_by (and_then check (run_checks (actions_of c) w (length old))) (reading s w x) ≡ chart_ran c w (length old))
    × (left_by (and_then check (run_checks (actions_of c) w (length old))) (reading s w x) old ≡ chart_left c w old)
unfolding chart_ran chart_left chart_run_check chart_reading
same_run s x c check r e h w old =
    let k = ap (λ (q : Checked). and_then q (run_checks (actions_of c) w (length old))) (e ∙ sym h) in (
      ap (λ (q : Checked). ran_by q (reading s w x)) k ∙ ap (ran_by (and_then (chart_check c) (run_checks (actions_of c) w (length old)))) (r w),
      ap (λ (q : Checked). left_by q (reading s w x) old) k
          ∙ ap (λ (q : Reading). left_by (and_then (chart_check c) (run_checks (actions_of c) w (length old))) q old) (r w),
    )

module _ (s : Sheet) (W : WellFormed s) (few : length (blocks s) ≤ 255) where
  -- the chart is accepted
  pub chart_accepted : chart_check (chart_of s) ≡ Ok tt
  chart_accepted = (accepted (chart_of s)).1 (chart_rules s W few)

  -- For every action sequence and buffer, refused ones too, the sheet's run and the chart's give the same answer and the same buffer.
  pub runs_agree : (w old : List ℕ)
      → (ran_by (run_checks s.actions w (length old)) (sheet_reading s w) ≡ chart_ran (chart_of s) w (length old))
      × (left_by (run_checks s.actions w (length old)) (sheet_reading s w) old ≡ chart_left (chart_of s) w old)
  unfolding chart_ran chart_left chart_run_check and_then
  runs_agree w old =
      let k : run_checks s.actions w (length old) ≡ and_then (chart_check (chart_of s)) (run_checks (actions_of (chart_of s)) w (length old)) =
      ap (λ (n : ℕ). run_checks n w (length old)) (sym (chart_of_actions s))
      ∙ ap (λ (q : Checked). and_then q (run_checks (actions_of (chart_of s)) w (length old))) (sym chart_accepted) in (
        ap (λ (q : Checked). ran_by q (sheet_reading s w)) k
            ∙ ap (ran_by (and_then (chart_check (chart_of s)) (run_checks (actions_of (chart_of s)) w (length old)))) (sym (chart_reading_lem s W few w)),
        ap (λ (q : Checked). left_by q (sheet_reading s w) old) k
            ∙ ap
            (λ (q : Reading). left_by (and_then (chart_check (chart_of s)) (run_checks (actions_of (chart_of s)) w (length old))) q old)
            (sym (chart_reading_lem s W few w)),
      )
