use mathlib.Core.Path.{◌∙◌}
use Rattle.answer_rules.proofs.Stages.{handed_up}
use Rattle.chart.specs.Depth.{check_done, check_turned}
use Rattle.chart.proofs.check.Goals as goal

pub returns-in_err-depth : goal.returns-in_err-depth
returns-in_err-depth c = handed_up c.from_residual.ensures ∙ check_turned c.args.c.now c.depth.ensures c.in_err-depth.was

pub returns : goal.returns
returns c = check_done c.args.c.now c.depth.ensures c.in_ok-depth.was
