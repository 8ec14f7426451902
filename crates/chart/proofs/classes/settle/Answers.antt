use mathlib.Core.Path.{◌∙◌}
use Rattle.answer_rules.proofs.Stages.{handed_up}
use Rattle.model.specs.ChartDepth.{depth_of}
use Rattle.chart.specs.Apart.{table_check}
use Rattle.chart.specs.Depth.{depth_done, depth_turned}
use Rattle.chart.proofs.classes.settle.Goals as goal

pub returns-in_err-check_table : goal.returns-in_err-check_table
returns-in_err-check_table c =
    let s = c.args.c.now in
    let e = c.check_table.ensures ∙ table_check s c.refine_all-depth.new.f c.refine_all-depth.ensures.holds_2 in
    record {
      value = handed_up c.from_residual.ensures ∙ depth_turned (depth_of s) e c.in_err-check_table.was;
    }

pub returns : goal.returns
returns c =
    let s = c.args.c.now in
    let e = c.check_table.ensures ∙ table_check s c.refine_all-depth.new.f c.refine_all-depth.ensures.holds_2 in
    record {
      value = depth_done e c.in_ok-check_table.was c.refine_all-depth.ensures.value;
    }
