use Rattle.table_passes.specs.Steps.{answer_done}
use Rattle.minimize.proofs.table.refine.Goals as goal

pub returns : goal.returns
returns c = answer_done c.requires.ready c.stabilize.ensures
