use Rattle.std.proofs.Common.{rules}
use Rattle.chart_bytes.specs.Shape.{target_byte}
use Rattle.chart_bytes.proofs.chart.Chart.target_of.Goals as goal

pub returns : goal.returns
returns c =
    let at = c.target_at in (
      rw c.self.view_is (target_byte c.args.self.now c.args.i c.args.a at.result at.ensures.0),
      search rules,
    )
