use mathlib.Core.Path.{◌≡◌}
use Rattle.std.specs.Prelude.{Ok}
use Rattle.answer_rules.specs.Stages.{each}
use Rattle.sheet_form.specs.Limits.{check_one}
use Rattle.sheet_form.proofs.limits.check_rules.Given as goal

abbrev pub invariant-loop-v : goal.invariant-loop-v
invariant-loop-v l = each (check_one l.counters l.most l.part l.place) l.v ≡ Ok tt
