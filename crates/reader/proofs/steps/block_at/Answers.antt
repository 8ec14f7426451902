use Rattle.reader_rules.proofs.Steps.{block_as}
use Rattle.reader.proofs.steps.block_at.Goals as goal

pub returns : goal.returns
returns c = block_as c.args.c.now c.args.i c.label.ensures c.targets_of.ensures
