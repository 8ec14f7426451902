use Rattle.std.specs.Prelude.{◌≡◌}
use Rattle.model.specs.Chart.{target_of}
use Rattle.reader_rules.specs.Reading.{eight_targets}
use Rattle.reader.proofs.steps.targets_of.Given as goal

abbrev pub invariant-loop-a : goal.invariant-loop-a
invariant-loop-a l = l.targets ≡ eight_targets (target_of l.c l.i) l.a
