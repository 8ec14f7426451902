use Rattle.std.specs.Prelude.{◌≡◌, ◌≤◌}
use Rattle.model.specs.Chart.{next_in}
use Rattle.chart_form.proofs.numbering.next_in.Given as goal

abbrev pub invariant-loop-a : goal.invariant-loop-a
invariant-loop-a l = record { next : l.next ≡ next_in l.c l.i l.before l.a; few : l.next ≤ 255 }
