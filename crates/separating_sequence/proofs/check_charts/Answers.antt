use mathlib.Core.Path.{ap, ◌∙◌}
use Rattle.std.proofs.Common.{rules}
use lib.ListN.{length}
use Rattle.answer_rules.proofs.Stages.{stop, go_on, handed_up}
use Rattle.separation_rules.specs.Separation.{raised_by, charts_check}
use Rattle.separating_sequence.specs.Machine.{raised_call}
use Rattle.separating_sequence.proofs.check_charts.Goals as goal

pub returns-in_err-check : goal.returns-in_err-check
unfolding charts_check
returns-in_err-check c = handed_up c.from_residual.ensures ∙ stop _ c.check.ensures c.in_err-check.was

pub returns : goal.returns
unfolding charts_check
returns c =
    let l = length c.args.c.now in
    go_on c.check.ensures c.in_ok-check.was (raised_call l c.check-2.result c.map_err.result (λ e f k. search rules) c.map_err.ensures.cases ∙ ap (raised_by l) c.check-2.ensures)
