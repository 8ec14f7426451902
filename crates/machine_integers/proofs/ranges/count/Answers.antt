use mir.Syntax.{w64}
use mir.Val.{SFits}
use mir.ValLaws.{to_z-of_z}
use mir.Facts.{Fits-nat_abs}
use Rattle.integers.proofs.Machine.{difference_fits, last_fits, size_machine, size_vacant}
use Rattle.std.proofs.Common.{rules}
use Rattle.machine_integers.proofs.ranges.count.Goals as goal

pub overflow_sub-result : goal.overflow_sub-result
overflow_sub-result c =
    let r = c.args.r in
    let fl : SFits w64 r.low = search rules in
    let fh : SFits w64 r.high = search rules in
    simp (to_z-of_z w64) (difference_fits r c.requires)

pub overflow_add-result : goal.overflow_add-result
overflow_add-result c =
    let r = c.args.r in
    let fl : SFits w64 r.low = search rules in
    let fh : SFits w64 r.high = search rules in
    let fd = difference_fits r c.requires in
    simp (to_z-of_z w64) (last_fits r c.requires)

pub overflow_cast-result : goal.overflow_cast-result
overflow_cast-result c =
    let r = c.args.r in
    let fl : SFits w64 r.low = search rules in
    let fh : SFits w64 r.high = search rules in
    let fd = difference_fits r c.requires in
    let fs = last_fits r c.requires in
    let e = simp (to_z-of_z w64) at c.if-r.false in
    simp (to_z-of_z w64) ((size_machine r e).0, Fits-nat_abs tt fs)

pub returns-then-r : goal.returns-then-r
returns-then-r c =
    let r = c.args.r in
    let fl : SFits w64 r.low = search rules in
    let fh : SFits w64 r.high = search rules in
    size_vacant r (simp (to_z-of_z w64) at c.if-r.true)

pub returns-else-r : goal.returns-else-r
returns-else-r c =
    let r = c.args.r in
    let fl : SFits w64 r.low = search rules in
    let fh : SFits w64 r.high = search rules in
    let fd = difference_fits r c.requires in
    let fs = last_fits r c.requires in
    let e = simp (to_z-of_z w64) at c.if-r.false in
    simp (to_z-of_z w64) (size_machine r e).1
