use Rattle.std.specs.Prelude.{◌≡◌, List, ℕ, Ok}
use Rattle.answer_rules.specs.Refusal.{Checked}
use Rattle.answer_rules.specs.Stages.{each}
use Rattle.model.specs.Chart.{round_class}
use Rattle.chart_form.specs.Form.{bar_check}
use Rattle.chart_form.proofs.bars.check_bars.Given as goal

-- record j against the first of its label
abbrev pub later : List ℕ → ℕ → Checked
later c j = bar_check c j (round_class c 0 j)

abbrev pub invariant-loop-j : goal.invariant-loop-j
invariant-loop-j l = each (later l.c) l.j ≡ Ok tt
