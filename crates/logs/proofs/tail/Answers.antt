use Rattle.log_rules.proofs.Machine.{part_from}
use Rattle.logs.proofs.tail.Goals as goal

pub returns : goal.returns
returns c =
    let s = c.args in
    part_from s.log s.start
