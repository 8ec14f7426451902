use Rattle.std.specs.Prelude.{◌≡◌, Ok}
use Rattle.answer_rules.specs.Stages.{each}
use Rattle.chart_form.specs.Form.{target_check}
use Rattle.chart_form.proofs.limits.check_targets.Given as goal

abbrev pub invariant-loop-a : goal.invariant-loop-a
invariant-loop-a l = each (target_check l.c l.i) l.a ≡ Ok tt
