use mathlib.Core.Path.{◌≡◌}
use Rattle.std.specs.Prelude.{Ok}
use Rattle.answer_rules.specs.Stages.{each}
use Rattle.sheet_rules.specs.Layout.{actions_of}
use Rattle.sheet_rules.specs.Check.{check_landing}
use Rattle.sheet_regions.proofs.landing.check_landing.Given as goal

abbrev pub invariant-loop-a : goal.invariant-loop-a
invariant-loop-a l = (l.answer ≡ Ok tt) × (each (check_landing l.s l.i) l.a ≡ Ok tt)

abbrev pub invariant-regions : goal.invariant-regions
invariant-regions l = (l.answer ≡ Ok tt) × (each (λ i. each (check_landing l.s i) (actions_of l.s)) l.i ≡ Ok tt)
