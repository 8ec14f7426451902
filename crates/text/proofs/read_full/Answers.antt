use Rattle.std.proofs.Common.{arith}
use Rattle.text.proofs.read_full.Goals as goal

pub returns : goal.returns
returns c = omega arith
