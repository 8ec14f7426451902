use native.Mathlib.Omega.{arith}
use Rattle.reader_rules.proofs.Theorems.{opened_shaped}
use Rattle.chart_listing.proofs.list_chart.Goals as goal

pub bounds-chart-5 : goal.bounds-chart-5
bounds-chart-5 g c = omega (arith, (opened_shaped c.args.chart.now c.in-Ok.ensures.0).header)

pub bounds-chart-6 : goal.bounds-chart-6
bounds-chart-6 g c = omega (arith, (opened_shaped c.args.chart.now c.in-Ok.ensures.0).header)
