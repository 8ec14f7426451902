use Rattle.chart_bytes.specs.Acting.{open_target, acts_barred, acts_open}
use Rattle.chart_bytes.proofs.chart.Chart.act.Goals as goal

pub returns-then-target-eq255-clause-step : goal.returns-then-target-eq255-clause-step
returns-then-target-eq255-clause-step c =
    let t = c.target_of-target in
    acts_barred c.args.self.now c.args.block c.args.action t.result c.requires.block_bound.1 t.ensures.0 c.if-target-eq255.true

pub returns-else-target-eq255-clause-step : goal.returns-else-target-eq255-clause-step
returns-else-target-eq255-clause-step c =
    let t = c.target_of-target in
    acts_open c.args.self.now c.args.block c.args.action t.result c.requires.block_bound.1 t.ensures.0 c.if-target-eq255.false t.ensures.1

pub returns-else-target-eq255-clause-target_there : goal.returns-else-target-eq255-clause-target_there
returns-else-target-eq255-clause-target_there c =
    let t = c.target_of-target in
    open_target c.args.self.now c.requires.targets_right c.args.block c.args.action t.result c.requires.block_bound.0 c.requires.block_bound.1 t.ensures.0 c.if-target-eq255.false
