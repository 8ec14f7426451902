use mathlib.Core.Path.{ap}
use Prim.Native.Nat.{ℕ, ◌+◌}
use native.Mathlib.Omega.{arith}
use lib.ListN.{get_or}
use Rattle.sheet_rules.specs.Layout.{state_at}
use Rattle.sheet_bytes.specs.Three.{read_of}
use Rattle.sheet_bytes.specs.Fields.{region_within, sheet_short}
use Rattle.sheet_bytes.proofs.sheet.Sheet.state_at.Goals as goal

pub overflow_add-at : goal.overflow_add-at
overflow_add-at c =
    omega (arith, region_within (read_of c.region_place-at.ensures.shaped) c.args.i c.region_place-at.result c.requires c.region_place-at.ensures.value, sheet_short (read_of c.region_place-at.ensures.shaped))

pub bounds-self-inside-at : goal.bounds-self-inside-at
bounds-self-inside-at c = rw c.self.view_is (omega (arith, region_within (read_of c.region_place-at.ensures.shaped) c.args.i c.region_place-at.result c.requires c.region_place-at.ensures.value))

pub returns : goal.returns
unfolding state_at
returns c = rw c.self.view_is (ap (λ (p : ℕ). get_or c.args.self.now (p + 2) 0) c.region_place-at.ensures.value)
