use mathlib.Core.Path.{sym, ◌∙◌}
use lib.ListN.{length}
use Rattle.answer_rules.proofs.Stages.{handed_up, then_ok, then_err}
use Rattle.chart.specs.Ran.{run_passed, ran_done, ran_refused}
use Rattle.chart.proofs.run.Goals as goal

pub returns-in_err-chart : goal.returns-in_err-chart
returns-in_err-chart c =
    let s = c.args in
    let k = ran_refused s.c.now s.actions.now s.entries.now (then_err _ _ (sym c.check_run.ensures ∙ c.in_err-chart.was)) in
    record { value = handed_up c.from_residual.ensures ∙ k.0; entries_after = k.1 }

pub walk-requires : goal.walk-requires
walk-requires c =
    let s = c.args in
    let (q, e) = then_ok _ (sym c.check_run.ensures ∙ c.in_ok-chart.was) in
    let p = run_passed s.c.now s.actions.now (length s.entries.now) q in
    record { targets_right = rw (sym e) at p.0.targets; by_index = rw (sym e) at p.1.actions; actions_in_bounds = p.1.fits }

pub returns : goal.returns
returns c =
    let s = c.args in
    let (q, e) = then_ok _ (sym c.check_run.ensures ∙ c.in_ok-chart.was) in
    let k = ran_done s.c.now s.actions.now s.entries.now q (rw e at c.walk.ensures.value) (rw e at c.walk.ensures.entries_after) in
    record { value = k.0; entries_after = k.1 }
