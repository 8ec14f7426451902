use Rattle.std.specs.Prelude.{◌≡◌, Ok}
use Rattle.answer_rules.specs.Stages.{each}
use Rattle.chart_form.specs.Form.{fields_check}
use Rattle.chart_form.proofs.limits.check_limits.Given as goal

abbrev pub invariant-loop-i : goal.invariant-loop-i
invariant-loop-i l = each (fields_check l.c) l.i ≡ Ok tt
