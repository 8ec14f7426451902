use mathlib.Core.Path.{sym, subst}
use lib.Dec.{lit≤}
use lib.IntN.{pos, negsuc, neg_ℤ}
use native.Mathlib.Omega.{arith}
use Rattle.integers.proofs.Order.{up_neg, dn_neg}
use Rattle.integers.proofs.RangeLaws.{within_size, within_out, within_neg}
use Rattle.integers.specs.Machine.{back64}
use Rattle.integers.proofs.Machine.{within_back}
use Rattle.integers.proofs.Quotient.{bits_some}
use Rattle.integers.specs.Inverse.{UpperEnd}
use Rattle.integers.proofs.Cases.{high_pos_nonneg, high_pos_neg, high_neg_nonneg, high_neg_neg, upper_pos, upper_neg}
use Rattle.integers.proofs.Dividend.{dividend_fits, moved_fits, twice_fits, quotient_fits, moved_quotient_fits, quotient_read, moved_read, tested_nonneg, tested_below, tested_pos, tested_neg}
use Rattle.machine_integers.proofs.division.upper_end.Goals as goal

pub overflow_sub-n : goal.overflow_sub-n
overflow_sub-n c =
    let (n, wf) = c.requires.fact in
    let wb = c.requires.within in
    let (wc, wd) = c.requires.within_2 in
    dividend_fits wd wb

pub nonzero_div-result : goal.nonzero_div-result
nonzero_div-result c =
    let (n, wf) = c.requires.fact in
    let wb = c.requires.within in
    let (wc, wd) = c.requires.within_2 in
    (bits_some _ c.ranges.f n, quotient_fits wd wb _)

pub overflow_sub-result : goal.overflow_sub-result
overflow_sub-result c =
    let (n, wf) = c.requires.fact in
    let wb = c.requires.within in
    let (wc, wd) = c.requires.within_2 in
    let f = back64 c.args.f in
    let w = within_size (within_back (lit≤ tt) wf) in
    moved_fits wd wb _ (within_out 100 _ (omega (arith, w, up_neg f, dn_neg f)))

pub overflow_add-result : goal.overflow_add-result
overflow_add-result c =
    let (n, wf) = c.requires.fact in
    let wb = c.requires.within in
    let (wc, wd) = c.requires.within_2 in
    let f = back64 c.args.f in
    let w = within_size (within_back (lit≤ tt) wf) in
    twice_fits wd wb _ _ (within_out 100 _ (omega (arith, w, up_neg f, dn_neg f))) (within_out 100 _ (omega (arith, w, up_neg f, dn_neg f)))

pub nonzero_div-result-else-n-ge0 : goal.nonzero_div-result-else-n-ge0
nonzero_div-result-else-n-ge0 c =
    let (n, wf) = c.requires.fact in
    let wb = c.requires.within in
    let (wc, wd) = c.requires.within_2 in
    let f = back64 c.args.f in
    let w = within_size (within_back (lit≤ tt) wf) in
    (bits_some _ c.ranges.f n, moved_quotient_fits wd wb _ _ _ (within_out 100 _ (omega (arith, w, up_neg f, dn_neg f))) (within_out 100 _ (omega (arith, w, up_neg f, dn_neg f))))

pub overflow_sub-n-else-f-gt0 : goal.overflow_sub-n-else-f-gt0
overflow_sub-n-else-f-gt0 c =
    let (n, wf) = c.requires.fact in
    let wb = c.requires.within in
    let (wc, wd) = c.requires.within_2 in
    dividend_fits wc wb

pub overflow_sub-result-then-n-ge0-2 : goal.overflow_sub-result-then-n-ge0-2
overflow_sub-result-then-n-ge0-2 c =
    let (n, wf) = c.requires.fact in
    let wb = c.requires.within in
    let (wc, wd) = c.requires.within_2 in
    let f = back64 c.args.f in
    let w = within_size (within_back (lit≤ tt) wf) in
    moved_fits wc wb _ (within_out 100 _ (omega (arith, w, up_neg f, dn_neg f)))

pub overflow_sub-result-then-n-ge0-2-2 : goal.overflow_sub-result-then-n-ge0-2-2
overflow_sub-result-then-n-ge0-2-2 c =
    let (n, wf) = c.requires.fact in
    let wb = c.requires.within in
    let (wc, wd) = c.requires.within_2 in
    let f = back64 c.args.f in
    let w = within_size (within_back (lit≤ tt) wf) in
    twice_fits wc wb _ _ (within_out 100 _ (omega (arith, w, up_neg f, dn_neg f))) (within_out 100 _ (omega (arith, w, up_neg f, dn_neg f)))

pub nonzero_div-result-then-n-ge0-2 : goal.nonzero_div-result-then-n-ge0-2
nonzero_div-result-then-n-ge0-2 c =
    let (n, wf) = c.requires.fact in
    let wb = c.requires.within in
    let (wc, wd) = c.requires.within_2 in
    let f = back64 c.args.f in
    let w = within_size (within_back (lit≤ tt) wf) in
    (bits_some _ c.ranges.f n, moved_quotient_fits wc wb _ _ _ (within_out 100 _ (omega (arith, w, up_neg f, dn_neg f))) (within_out 100 _ (omega (arith, w, up_neg f, dn_neg f))))

pub nonzero_div-result-else-n-ge0-2 : goal.nonzero_div-result-else-n-ge0-2
nonzero_div-result-else-n-ge0-2 c =
    let (n, wf) = c.requires.fact in
    let wb = c.requires.within in
    let (wc, wd) = c.requires.within_2 in
    (bits_some _ c.ranges.f n, quotient_fits wc wb _)

pub returns-then-n-ge0 : goal.returns-then-n-ge0
returns-then-n-ge0 c =
    let a = c.args in
    let (n, wf) = c.requires.fact in
    let wb = c.requires.within in
    let (wc, wd) = c.requires.within_2 in
    let h = tested_pos c.ranges.f c.if-f-gt0.true in
    let k = tested_nonneg wd wb c.if-n-ge0.true in
    let e = quotient_read wd wb wf in
    subst (UpperEnd a.f a.b a.c a.d) (sym e) (upper_pos h (high_pos_nonneg a.f a.b a.d h k))

pub returns-else-n-ge0 : goal.returns-else-n-ge0
returns-else-n-ge0 c =
    let a = c.args in
    let (n, wf) = c.requires.fact in
    let wb = c.requires.within in
    let (wc, wd) = c.requires.within_2 in
    let h = tested_pos c.ranges.f c.if-f-gt0.true in
    let k = tested_below wd wb c.if-n-ge0.false in
    let e = moved_read wd wb neg_ℤ (pos 1) wf (within_neg wf) (within_out 100 (pos 1) (omega arith)) in
    subst (UpperEnd a.f a.b a.c a.d) (sym e) (upper_pos h (high_pos_neg a.f a.b a.d h k))

pub returns-then-n-ge0-2 : goal.returns-then-n-ge0-2
returns-then-n-ge0-2 c =
    let a = c.args in
    let (n, wf) = c.requires.fact in
    let wb = c.requires.within in
    let (wc, wd) = c.requires.within_2 in
    let h = tested_neg c.ranges.f n c.if-f-gt0.false in
    let k = tested_nonneg wc wb c.if-n-ge0-2.true in
    let e = moved_read wc wb neg_ℤ (negsuc 0) wf (within_neg wf) (within_out 100 (negsuc 0) (omega arith)) in
    subst (UpperEnd a.f a.b a.c a.d) (sym e) (upper_neg h (high_neg_nonneg a.f a.b a.c h k))

pub returns-else-n-ge0-2 : goal.returns-else-n-ge0-2
returns-else-n-ge0-2 c =
    let a = c.args in
    let (n, wf) = c.requires.fact in
    let wb = c.requires.within in
    let (wc, wd) = c.requires.within_2 in
    let h = tested_neg c.ranges.f n c.if-f-gt0.false in
    let k = tested_below wc wb c.if-n-ge0-2.false in
    let e = quotient_read wc wb wf in
    subst (UpperEnd a.f a.b a.c a.d) (sym e) (upper_neg h (high_neg_neg a.f a.b a.c h k))
