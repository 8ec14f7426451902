use Rattle.std.specs.Prelude.{◌≡◌, Ok}
use Rattle.answer_rules.specs.Stages.{each}
use Rattle.chart_bytes.specs.Classes.{entry}
use Rattle.chart.specs.Check.{class_check}
use Rattle.chart.proofs.classes.check_table.Given as goal

abbrev pub invariant-loop-j : goal.invariant-loop-j
invariant-loop-j l = each (class_check l.c (entry l.f)) l.j ≡ Ok tt
