use native.Mathlib.Omega.{arith}
use mathlib.Core.Path.{ap}
use Prim.Native.Nat.{ℕ}
use Rattle.sheet_rules.specs.Layout.{counters_of, actions_of, regions_of}
use Rattle.sheet_bytes.proofs.fields.shape_of.Goals as goal

pub overflow_cast-result : goal.overflow_cast-result
overflow_cast-result c = omega (arith, c.type_inv.s 5)

pub overflow_cast-result-2 : goal.overflow_cast-result-2
overflow_cast-result-2 c = omega (arith, c.type_inv.s 6)

pub overflow_cast-result-3 : goal.overflow_cast-result-3
overflow_cast-result-3 c = omega (arith, c.type_inv.s 7)

pub returns : goal.returns
returns c =
    let s = c.args.s.now in
    ap (λ (w : ℕ). record { counters = counters_of s; actions = actions_of s; regions = regions_of s; width = w }) c.bound_size.ensures
