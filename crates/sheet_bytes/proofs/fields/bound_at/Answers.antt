use native.Mathlib.Omega.{arith}
use mir.Syntax.{w64}
use mir.Val.{SFits}
use mir.ValLaws.{to_z-of_z}
use Rattle.sheet_bytes.specs.Fields.{bound_of, not_two}
use Rattle.std.proofs.Common.{rules}
use Rattle.sheet_bytes.proofs.fields.bound_at.Goals as goal

pub returns-then-width-eq2 : goal.returns-then-width-eq2
returns-then-width-eq2 c =
    let f : SFits w64 c.signed16.result = search rules in
    simp (to_z-of_z w64) (bound_of 2 c.args.width c.args.s.now c.args.at c.if-width-eq2.true c.signed16.ensures)

pub signed32-requires : goal.signed32-requires
signed32-requires c = omega (arith, not_two c.args.width c.requires.two_or_four c.if-width-eq2.false)

pub returns : goal.returns
returns c =
    let f : SFits w64 c.signed32.result = search rules in
    simp (to_z-of_z w64) (bound_of 4 c.args.width c.args.s.now c.args.at (not_two c.args.width c.requires.two_or_four c.if-width-eq2.false) c.signed32.ensures)
