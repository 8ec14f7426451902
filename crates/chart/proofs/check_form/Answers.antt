use mathlib.Core.Path.{sym, ap, ◌∙◌}
use mathlib.Core.List.{List}
use Prim.Native.Nat.{ℕ}
use Rattle.std.proofs.Common.{Ok}
use Rattle.answer_rules.proofs.Stages.{passed, refused, handed_up, then_ok, then_err}
use Rattle.chart.specs.Check.{form_check}
use Rattle.chart.proofs.check_form.Goals as goal

pub returns-in_err-chart-clause-value : goal.returns-in_err-chart-clause-value
unfolding form_check
returns-in_err-chart-clause-value c =
    handed_up c.from_residual.ensures ∙ refused _ (sym (refused _ (then_err _ _ (sym c.new.ensures ∙ c.in_err-chart.was))))

pub returns-in_err-check_limits-clause-value : goal.returns-in_err-check_limits-clause-value
unfolding form_check
returns-in_err-check_limits-clause-value c =
    let (h, e) = then_ok _ (sym c.new.ensures ∙ c.in_ok-chart.was) in
    let l = rw e at c.check_limits.ensures in
    handed_up c.from_residual-in_err-check_limits.ensures ∙ refused _ (sym (passed h (refused _ (sym l ∙ c.in_err-check_limits.was))))

pub returns-in_err-check_numbers-clause-value : goal.returns-in_err-check_numbers-clause-value
unfolding form_check
returns-in_err-check_numbers-clause-value c =
    let (h, e) = then_ok _ (sym c.new.ensures ∙ c.in_ok-chart.was) in
    let l = rw e at c.check_limits.ensures in
    let n = rw e at c.check_numbers.ensures in
    handed_up c.from_residual-in_err-check_numbers.ensures
    ∙ refused _ (sym (passed h (passed (sym l ∙ c.in_ok-check_limits.was) (refused _ (sym n ∙ c.in_err-check_numbers.was)))))

pub check_bars-requires : goal.check_bars-requires
check_bars-requires c = record { holds = c.by_labels.ensures.holds }

pub returns-in_err-check_bars-clause-value : goal.returns-in_err-check_bars-clause-value
unfolding form_check
returns-in_err-check_bars-clause-value c =
    let (h, e) = then_ok _ (sym c.new.ensures ∙ c.in_ok-chart.was) in
    let l = rw e at c.check_limits.ensures in
    let n = rw e at c.check_numbers.ensures in
    let b = rw e at c.check_bars.ensures in
    handed_up c.from_residual-in_err-check_bars.ensures
    ∙ refused _ (sym (passed h (passed (sym l ∙ c.in_ok-check_limits.was) (passed (sym n ∙ c.in_ok-check_numbers.was) (sym c.in_err-check_bars.was ∙ b)))))

pub returns-clause-value : goal.returns-clause-value
unfolding form_check
returns-clause-value c =
    let (h, e) = then_ok _ (sym c.new.ensures ∙ c.in_ok-chart.was) in
    let l = rw e at c.check_limits.ensures in
    let n = rw e at c.check_numbers.ensures in
    let b = rw e at c.check_bars.ensures in
    passed
    (sym (passed h (passed (sym l ∙ c.in_ok-check_limits.was) (passed (sym n ∙ c.in_ok-check_numbers.was) (sym c.in_ok-check_bars.was ∙ b)))))
    (ap (λ (x : List ℕ). Ok x) e)

pub returns-clause-holds : goal.returns-clause-holds
returns-clause-holds c =
    let (h, e) = then_ok _ (sym c.new.ensures ∙ c.in_ok-chart.was) in
    rw e at c.by_labels.ensures.holds
