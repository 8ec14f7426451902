use native.Mathlib.Omega.{arith}
use mir.Syntax.{w64}
use mir.Val.{SFits}
use mir.ValLaws.{to_z-of_z}
use Rattle.sheet_bytes.specs.Fields.{header_within, start_read}
use Rattle.std.proofs.Common.{rules}
use Rattle.sheet_bytes.proofs.sheet.Sheet.start.Goals as goal

pub bounds-self-inside-8 : goal.bounds-self-inside-8
bounds-self-inside-8 c = omega (arith, header_within c.self.invariant.read)

pub returns-clause-value : goal.returns-clause-value
returns-clause-value c =
    let x = c.start_or_zero in
    let y = c.start_or_zero-2 in
    let z = c.start_or_zero-3 in
    let fx : SFits w64 x.result = search rules in
    let fy : SFits w64 y.result = search rules in
    let fz : SFits w64 z.result = search rules in
    rw c.self.view_is (simp (to_z-of_z w64) (start_read c.args.self.now x.result y.result z.result x.ensures y.ensures z.ensures))

pub returns-clause-shaped : goal.returns-clause-shaped
returns-clause-shaped c =
    let R = rw c.self.view_is at c.self.invariant.read in
    R.shaped

pub returns-clause-bytes : goal.returns-clause-bytes
returns-clause-bytes c = rw c.self.view_is at c.self.invariant.bytes
