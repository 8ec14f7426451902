use native.Mathlib.Omega.{arith}
use mir.Syntax.{w64}
use mir.Val.{SFits}
use mir.ValLaws.{to_z-of_z}
use Rattle.sheet_bytes.specs.Fields.{start_in, start_out}
use Rattle.std.proofs.Common.{rules}
use Rattle.sheet_bytes.proofs.sheet.Sheet.start_or_zero.Goals as goal

pub returns-then-v-self : goal.returns-then-v-self
returns-then-v-self c =
    let R = rw c.self.view_is at c.self.invariant.read in
    let value = c.start_value in
    let fv : SFits w64 value.result = search rules in
    simp (to_z-of_z w64) (start_in R c.args.v c.start_value.result c.if-v-self.true c.start_value.ensures)

pub returns-else-v-self : goal.returns-else-v-self
returns-else-v-self c =
    let R = rw c.self.view_is at c.self.invariant.read in
    start_out R c.args.v c.if-v-self.false

pub start_value-requires : goal.start_value-requires
start_value-requires c =
    let R = rw c.self.view_is at c.self.invariant.read in
    omega (arith, R.counters_are, c.if-v-self.true)
