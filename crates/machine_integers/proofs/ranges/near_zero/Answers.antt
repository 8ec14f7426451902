use Prim.Native.Nat.{◌<◌, ◌^◌}
use native.Mathlib.Omega.{arith}
use mir.Syntax.{w64}
use mir.Facts.{to_z_pos}
use mir.ValLaws.{to_z-of_z}
use Rattle.integers.proofs.Quotient.{near_by, minus_number_fits}
use Rattle.machine_integers.proofs.ranges.near_zero.Goals as goal

pub overflow_sub-low : goal.overflow_sub-low
overflow_sub-low c =
    let k : c.args.n < 2 ^ 63 = omega (arith, c.ranges.n) in
    simp (to_z_pos w64) (minus_number_fits c.args.n (omega (arith, c.ranges.n)))

pub returns : goal.returns
returns c =
    let n = c.args.n in
    let f = c.ranges.z in
    let b : n < 2 ^ 32 = omega (arith, c.ranges.n) in
    let k : n < 2 ^ 63 = omega arith in
    let m = minus_number_fits n b in
    near_by n c.args.z (simp (to_z-of_z w64, to_z_pos w64) at c.has.ensures)
