use lib.Dec.{lit≤}
use native.Mathlib.Omega.{arith}
use mir.Syntax.{w64}
use mir.Val.{SFits}
use mir.ValLaws.{to_z-of_z}
use Rattle.integers.proofs.RangeLaws.{within_size, within_out}
use Rattle.integers.specs.Machine.{back64}
use Rattle.integers.proofs.Machine.{within_back}
use Rattle.integers.proofs.Inverse.{ends_inverse}
use Rattle.integers.proofs.Dividend.{wide_asked}
use Rattle.std.proofs.Common.{rules}
use Rattle.machine_integers.proofs.division.inverse_range.Goals as goal

pub lower_end-requires : goal.lower_end-requires
lower_end-requires c =
    let f = c.requires.fact in
    let b = c.requires.within in
    let w = c.requires.range_within in
    let l = within_size (within_back (lit≤ tt) w.low_within) in
    let h = within_size (within_back (lit≤ tt) w.high_within) in
    record {
      fact = (wide_asked {c = back64 c.args.wanted.low} {d = back64 c.args.wanted.high} f b (within_out 1000000 _ (omega (arith, l, h))) (within_out 1000000 _ (omega (arith, l, h)))).0;
      within = (wide_asked {c = back64 c.args.wanted.low} {d = back64 c.args.wanted.high} f b (within_out 1000000 _ (omega (arith, l, h))) (within_out 1000000 _ (omega (arith, l, h)))).1.0;
      within_2 = (wide_asked {c = back64 c.args.wanted.low} {d = back64 c.args.wanted.high} f b (within_out 1000000 _ (omega (arith, l, h))) (within_out 1000000 _ (omega (arith, l, h)))).1.1;
    }

pub upper_end-requires : goal.upper_end-requires
upper_end-requires c =
    let f = c.requires.fact in
    let b = c.requires.within in
    let w = c.requires.range_within in
    let l = within_size (within_back (lit≤ tt) w.low_within) in
    let h = within_size (within_back (lit≤ tt) w.high_within) in
    record {
      fact = (wide_asked {c = back64 c.args.wanted.low} {d = back64 c.args.wanted.high} f b (within_out 1000000 _ (omega (arith, l, h))) (within_out 1000000 _ (omega (arith, l, h)))).0;
      within = (wide_asked {c = back64 c.args.wanted.low} {d = back64 c.args.wanted.high} f b (within_out 1000000 _ (omega (arith, l, h))) (within_out 1000000 _ (omega (arith, l, h)))).1.0;
      within_2 = (wide_asked {c = back64 c.args.wanted.low} {d = back64 c.args.wanted.high} f b (within_out 1000000 _ (omega (arith, l, h))) (within_out 1000000 _ (omega (arith, l, h)))).1.1;
    }

pub returns : goal.returns
returns c =
    let a = c.args in
    let r = a.wanted in
    let told = c.struct_told-4-1.given in
    let lower = c.lower_end in
    let upper = c.upper_end in
    let ff = c.ranges.f in
    let fb = c.ranges.b in
    let fl : SFits w64 r.low = search rules in
    let fh : SFits w64 r.high = search rules in
    let ll : SFits w64 lower.result = search rules in
    let uu : SFits w64 upper.result = search rules in
    let l = simp (to_z-of_z w64) at lower.ensures in
    let u = simp (to_z-of_z w64) at upper.ensures in
    simp (to_z-of_z w64) (ends_inverse a.f a.b r lower.result upper.result c.requires.fact.0 l u)
