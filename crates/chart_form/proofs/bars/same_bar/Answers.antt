use Rattle.chart_form.specs.Records.{bars_same}
use Rattle.chart_form.proofs.bars.same_bar.Goals as goal

pub returns : goal.returns
returns c = bars_same c.args.t c.args.u
