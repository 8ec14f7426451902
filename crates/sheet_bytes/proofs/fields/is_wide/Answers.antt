use Prim.Native.Nat.{ℕ}
use mathlib.Core.Path.{ap}
use lib.Dec.{eqb}
use Rattle.sheet_rules.specs.Layout.{version_of, wide}
use Rattle.sheet_bytes.proofs.fields.is_wide.Goals as goal

pub returns : goal.returns
unfolding wide version_of
returns c = ap (λ (v : ℕ). eqb v 2) c.unsigned16.ensures
