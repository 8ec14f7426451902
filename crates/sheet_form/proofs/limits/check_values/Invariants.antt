use mathlib.Core.Path.{◌≡◌}
use Rattle.std.specs.Prelude.{Ok}
use Rattle.answer_rules.specs.Stages.{each}
use Rattle.sheet_rules.specs.Form.{check_value}
use Rattle.sheet_form.proofs.limits.check_values.Given as goal

abbrev pub invariant-loop-v : goal.invariant-loop-v
invariant-loop-v l = each (check_value l.s) l.v ≡ Ok tt
