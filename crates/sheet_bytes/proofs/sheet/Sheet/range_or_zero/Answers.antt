use native.Mathlib.Omega.{arith}
use Rattle.sheet_rules.specs.Layout.{counters_of}
use mathlib.Core.Path.{sym, ◌∙◌}
use Rattle.sheet_rules.specs.Decode.{range_at}
use Rattle.sheet_bytes.specs.Three.{padded_in, padded_out, zero_range}
use Rattle.sheet_bytes.proofs.sheet.Sheet.range_or_zero.Goals as goal

pub returns-then-v-self : goal.returns-then-v-self
returns-then-v-self c =
    let R = rw c.self.view_is at c.self.invariant.read in
    c.range_at.ensures ∙ sym (padded_in zero_range (range_at c.args.self.now c.args.i) (counters_of c.args.self.now) c.args.v (omega (arith, R.counters_are, c.if-v-self.true)))

pub range_at-requires : goal.range_at-requires
range_at-requires c =
    let R = rw c.self.view_is at c.self.invariant.read in
    (c.requires, omega (arith, R.counters_are, c.if-v-self.true))

pub returns-else-v-self : goal.returns-else-v-self
returns-else-v-self c =
    let R = rw c.self.view_is at c.self.invariant.read in
    sym (padded_out zero_range (range_at c.args.self.now c.args.i) (counters_of c.args.self.now) c.args.v (omega (arith, R.counters_are, c.if-v-self.false)))
