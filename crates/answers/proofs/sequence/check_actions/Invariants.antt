use mathlib.Core.Path.{◌≡◌}
use Rattle.std.specs.Prelude.{Ok}
use Rattle.answer_rules.specs.Stages.{each}
use Rattle.answer_rules.specs.Sequence.{action_check}
use Rattle.answers.proofs.sequence.check_actions.Given as goal

abbrev pub invariant-loop-i : goal.invariant-loop-i
invariant-loop-i l = each (action_check l.count l.actions) l.i ≡ Ok tt
