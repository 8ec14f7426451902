use mathlib.Core.Path.{◌≡◌}
use Rattle.std.specs.Prelude.{Ok}
use Rattle.answer_rules.specs.Stages.{each}
use Rattle.sheet_rules.specs.Check.{check_label}
use Rattle.sheet_regions.proofs.regions.check_labels.Given as goal

abbrev pub invariant-loop-j : goal.invariant-loop-j
invariant-loop-j l = each (check_label l.s) l.j ≡ Ok tt
