use Rattle.chart_bytes.specs.Acting.{writes_label, writes_barred}
use Rattle.chart_bytes.proofs.chart.Chart.entry_of.Goals as goal

pub returns-in-Some : goal.returns-in-Some
returns-in-Some c = rw c.in-Some.is (writes_label c.args.self.now c.in-Some.block c.label.ensures)

pub returns-in-None : goal.returns-in-None
returns-in-None c = rw c.in-None.is (writes_barred c.args.self.now)
