use Rattle.chart_bytes.specs.Shape.{label_fits, label_number}
use Rattle.chart_bytes.proofs.chart.Chart.label.Goals as goal

pub unsigned16-requires : goal.unsigned16-requires
unsigned16-requires c =
    rw (← c.self.view_is) at (label_fits c.args.self.now c.record_at.ensures.shaped c.args.i c.record_at.result c.requires c.record_at.ensures.value)

pub returns : goal.returns
returns c =
    label_number c.args.self.now c.args.i c.record_at.result c.unsigned16.result c.record_at.ensures.value (rw c.self.view_is at c.unsigned16.ensures)
