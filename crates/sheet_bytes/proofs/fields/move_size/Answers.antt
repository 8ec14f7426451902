use mathlib.Core.Path.{refl}
use Rattle.sheet_rules.specs.Layout.{move_size}
use Rattle.sheet_bytes.proofs.fields.move_size.Goals as goal

pub returns : goal.returns
unfolding move_size
returns c = refl
