use mathlib.Core.Path.{◌∙◌}
use Rattle.integers.proofs.Bits.{joined_two}
use Rattle.machine_integers.proofs.bytes.unsigned16.Goals as goal

pub returns : goal.returns
returns c = c.from_le_bytes.ensures ∙ joined_two c.args.s.now c.args.at
