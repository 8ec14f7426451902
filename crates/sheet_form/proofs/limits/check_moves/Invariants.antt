use mathlib.Core.Path.{◌≡◌}
use Rattle.std.specs.Prelude.{Ok}
use Rattle.answer_rules.specs.Stages.{each}
use Rattle.sheet_form.specs.Limits.{move_checked}
use Rattle.sheet_form.proofs.limits.check_moves.Given as goal

abbrev pub invariant-loop-a : goal.invariant-loop-a
invariant-loop-a l = each (move_checked l.s l.i) l.a ≡ Ok tt
