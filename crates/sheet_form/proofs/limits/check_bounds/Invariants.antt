use mathlib.Core.Path.{◌≡◌}
use Rattle.std.specs.Prelude.{Ok}
use Rattle.answer_rules.specs.Stages.{each}
use Rattle.sheet_rules.specs.Form.{check_bound}
use Rattle.sheet_form.proofs.limits.check_bounds.Given as goal

abbrev pub invariant-loop-v : goal.invariant-loop-v
invariant-loop-v l = each (check_bound l.s l.i) l.v ≡ Ok tt
