use Rattle.std.proofs.Common.{sym, ◌∙◌}
use lib.Seq.{length-take-le}
use Rattle.answer_rules.proofs.Stages.{handed_up}
use Rattle.access_rules.proofs.Machine.{charted, front_counted, front_chart, front_asks, front_way, way_refused}
use Rattle.access_sequence.proofs.find.Goals as goal

pub returns-in_err-make-clause-value : goal.returns-in_err-make-clause-value
returns-in_err-make-clause-value c =
    handed_up c.from_residual.ensures
    ∙ (way_refused c.args.sheet.now c.args.block _ c.args.actions.now (λ j. (c.type_inv.sheet j).fits) c.make.ensures.value c.in_err-make.was).0

pub returns-in_err-make-clause-actions_after : goal.returns-in_err-make-clause-actions_after
returns-in_err-make-clause-actions_after c =
    (way_refused c.args.sheet.now c.args.block _ c.args.actions.now (λ j. (c.type_inv.sheet j).fits) c.make.ensures.value c.in_err-make.was).1

pub chart_length-length-requires : goal.chart_length-length-requires
chart_length-length-requires c =
    let C = charted c.args.sheet.now (λ j. (c.type_inv.sheet j).fits) c.chart-2-1.given c.make.ensures.value c.in_ok-make.was c.make.ensures.chart_after in
    front_counted C

pub slice_bounds-chart-end : goal.slice_bounds-chart-end
slice_bounds-chart-end c =
    let C = charted c.args.sheet.now (λ j. (c.type_inv.sheet j).fits) c.chart-2-1.given c.make.ensures.value c.in_ok-make.was c.make.ensures.chart_after in
    (front_chart C c.chart_length-length.ensures).0

pub slice_bounds-over-end : goal.slice_bounds-over-end
slice_bounds-over-end c =
    let C = charted c.args.sheet.now (λ j. (c.type_inv.sheet j).fits) c.chart-2-1.given c.make.ensures.value c.in_ok-make.was c.make.ensures.chart_after in
    sym (length-take-le c.chart_length-length.result c.make.new.chart (front_chart C c.chart_length-length.ensures).0)

pub over-made-requires : goal.over-made-requires
over-made-requires c =
    let C = charted c.args.sheet.now (λ j. (c.type_inv.sheet j).fits) c.chart-2-1.given c.make.ensures.value c.in_ok-make.was c.make.ensures.chart_after in
    (front_asks C c.chart_length-length.ensures).0

pub find_on_chart-requires : goal.find_on_chart-requires
find_on_chart-requires c =
    let C = charted c.args.sheet.now (λ j. (c.type_inv.sheet j).fits) c.chart-2-1.given c.make.ensures.value c.in_ok-make.was c.make.ensures.chart_after in
    rw (sym c.over-made.ensures) at (front_asks C c.chart_length-length.ensures).1

pub returns-clause-value : goal.returns-clause-value
returns-clause-value c =
    let C = charted c.args.sheet.now (λ j. (c.type_inv.sheet j).fits) c.chart-2-1.given c.make.ensures.value c.in_ok-make.was c.make.ensures.chart_after in
    let A = rw c.over-made.ensures at c.find_on_chart.ensures in
    (front_way C c.chart_length-length.ensures c.args.block c.find_on_chart.result c.args.actions.now c.find_on_chart.new.actions A).0

pub returns-clause-actions_after : goal.returns-clause-actions_after
returns-clause-actions_after c =
    let C = charted c.args.sheet.now (λ j. (c.type_inv.sheet j).fits) c.chart-2-1.given c.make.ensures.value c.in_ok-make.was c.make.ensures.chart_after in
    let A = rw c.over-made.ensures at c.find_on_chart.ensures in
    (front_way C c.chart_length-length.ensures c.args.block c.find_on_chart.result c.args.actions.now c.find_on_chart.new.actions A).1
