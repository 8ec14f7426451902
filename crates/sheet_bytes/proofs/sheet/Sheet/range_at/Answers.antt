use native.Mathlib.Omega.{arith}
use mir.Syntax.{w64}
use mir.Val.{SFits}
use mir.ValLaws.{to_z-of_z}
use Rattle.sheet_bytes.specs.Fields.{width_right, sheet_short, low_within, range_read}
use Rattle.std.proofs.Common.{rules}
use Rattle.sheet_bytes.proofs.sheet.Sheet.range_at.Goals as goal

pub bound_at-low-requires : goal.bound_at-low-requires
bound_at-low-requires c =
    let R = rw c.self.view_is at c.self.invariant.read in
    record {
      two_or_four = width_right R;
      width_in_bounds = rw c.self.view_is (omega (arith, c.low_place-at.ensures.value, low_within R c.args.i c.args.v c.requires.0 c.requires.1));
    }

pub overflow_add-at : goal.overflow_add-at
overflow_add-at c =
    let R = rw c.self.view_is at c.self.invariant.read in
    omega (arith, c.low_place-at.ensures.value, sheet_short R, low_within R c.args.i c.args.v c.requires.0 c.requires.1)

pub bound_at-high-requires : goal.bound_at-high-requires
bound_at-high-requires c =
    let R = rw c.self.view_is at c.self.invariant.read in
    record {
      two_or_four = width_right R;
      width_in_bounds = rw c.self.view_is (omega (arith, c.low_place-at.ensures.value, low_within R c.args.i c.args.v c.requires.0 c.requires.1));
    }

pub returns : goal.returns
returns c =
    let R = rw c.self.view_is at c.self.invariant.read in
    let low = c.bound_at-low in
    let high = c.bound_at-high in
    let fl : SFits w64 low.result = search rules in
    let fh : SFits w64 high.result = search rules in
    simp (to_z-of_z w64) (range_read R c.args.i c.args.v c.low_place-at.result low.result high.result c.low_place-at.ensures.value (rw c.self.view_is at low.ensures) (rw c.self.view_is at high.ensures))
