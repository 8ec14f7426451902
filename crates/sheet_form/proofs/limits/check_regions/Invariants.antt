use mathlib.Core.Path.{◌≡◌}
use Rattle.std.specs.Prelude.{Ok}
use Rattle.answer_rules.specs.Stages.{each}
use Rattle.sheet_rules.specs.Form.{check_fields}
use Rattle.sheet_form.proofs.limits.check_regions.Given as goal

abbrev pub invariant-loop-i : goal.invariant-loop-i
invariant-loop-i l = each (check_fields l.s) l.i ≡ Ok tt
