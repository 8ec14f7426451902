use mathlib.Core.Path.{◌∙◌, ap}
use Prim.Native.Nat.{ℕ}
use native.Mathlib.Omega.{arith}
use Rattle.integers.specs.LittleEndian.{unsigned_at}
use Rattle.sheet_rules.specs.Layout.{label_at}
use Rattle.sheet_bytes.specs.Three.{read_of}
use Rattle.sheet_bytes.specs.Fields.{region_within}
use Rattle.sheet_bytes.proofs.sheet.Sheet.label_at.Goals as goal

pub unsigned16-requires : goal.unsigned16-requires
unsigned16-requires c = rw c.self.view_is (omega (arith, region_within (read_of c.region_place.ensures.shaped) c.args.i c.region_place.result c.requires c.region_place.ensures.value))

pub returns : goal.returns
unfolding label_at
returns c = (rw c.self.view_is at c.unsigned16.ensures) ∙ ap (λ (p : ℕ). unsigned_at 2 c.args.self.now p) c.region_place.ensures.value
