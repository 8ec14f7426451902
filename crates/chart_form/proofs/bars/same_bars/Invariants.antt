use Rattle.std.specs.Prelude.{◌≡◌, true}
use Rattle.systems.specs.Search.{all}
use Rattle.model.specs.Chart.{target_of}
use Rattle.chart_form.specs.Form.{same_bar}
use Rattle.chart_form.proofs.bars.same_bars.Given as goal

abbrev pub invariant-loop-a : goal.invariant-loop-a
invariant-loop-a l = all (λ a. same_bar (target_of l.c l.i a) (target_of l.c l.j a)) l.a ≡ true
