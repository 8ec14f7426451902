use mathlib.Core.Path.{sym, ap, ◌∙◌}
use mathlib.Core.List.{List}
use Prim.Native.Nat.{ℕ}
use Rattle.std.proofs.Common.{Ok}
use Rattle.answer_rules.proofs.Stages.{passed, refused, handed_up}
use Rattle.answer_rules.specs.Run.{run_checks}
use Rattle.model.specs.Chart.{actions_of}
use Rattle.chart.specs.RunChart.{chart_run_check}
use Rattle.chart.specs.Accepted.{check_passed}
use Rattle.chart.proofs.check_run.Goals as goal

pub returns-in_err-check : goal.returns-in_err-check
unfolding chart_run_check
returns-in_err-check c =
    handed_up c.from_residual.ensures ∙ refused _ (sym (refused _ (sym c.check.ensures ∙ c.in_err-check.was)))

pub over-chart-requires : goal.over-chart-requires
over-chart-requires c = (check_passed c.args.c.now (sym c.check.ensures ∙ c.in_ok-check.was)).shape

pub returns-in_err-check_sequence : goal.returns-in_err-check_sequence
unfolding chart_run_check
returns-in_err-check_sequence c =
    let s = c.args in
    let n = c.actions.ensures.value ∙ ap actions_of c.over-chart.ensures in
    let q = c.check_sequence.ensures ∙ ap (λ (n : ℕ). run_checks n s.actions.now s.room) n in
    handed_up c.from_residual-in_err-check_sequence.ensures
    ∙ refused _ (sym (passed (sym c.check.ensures ∙ c.in_ok-check.was) (sym c.in_err-check_sequence.was ∙ q)))

pub returns : goal.returns
unfolding chart_run_check
returns c =
    let s = c.args in
    let n = c.actions.ensures.value ∙ ap actions_of c.over-chart.ensures in
    let q = c.check_sequence.ensures ∙ ap (λ (n : ℕ). run_checks n s.actions.now s.room) n in
    passed (sym (passed (sym c.check.ensures ∙ c.in_ok-check.was) (sym c.in_ok-check_sequence.was ∙ q))) (ap (λ (x : List ℕ). Ok x) c.over-chart.ensures)
