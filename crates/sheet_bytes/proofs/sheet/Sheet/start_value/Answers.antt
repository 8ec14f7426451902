use native.Mathlib.Omega.{arith}
use mir.Syntax.{w64}
use mir.Val.{SFits}
use mir.ValLaws.{to_z-of_z}
use Rattle.sheet_bytes.specs.Fields.{width_right, start_within, start_value_lem}
use Rattle.std.proofs.Common.{rules}
use Rattle.sheet_bytes.proofs.sheet.Sheet.start_value.Goals as goal

pub bound_at-requires : goal.bound_at-requires
bound_at-requires c =
    let R = rw c.self.view_is at c.self.invariant.read in
    record {
      two_or_four = width_right R;
      width_in_bounds = rw c.self.view_is (omega (arith, c.start_place.ensures.value, start_within R c.args.v c.requires));
    }

pub returns : goal.returns
returns c =
    let R = rw c.self.view_is at c.self.invariant.read in
    let f : SFits w64 c.bound_at.result = search rules in
    simp (to_z-of_z w64) (start_value_lem R c.args.v c.start_place.result c.bound_at.result c.start_place.ensures.value (rw c.self.view_is at c.bound_at.ensures))
