use mathlib.Core.Path.{sym, subst}
use lib.Dec.{lit≤}
use lib.IntN.{pos, negsuc}
use native.Mathlib.Omega.{arith}
use Rattle.integers.proofs.RangeLaws.{within_size, within_out}
use Rattle.integers.proofs.Machine.{within_back}
use Rattle.integers.proofs.Quotient.{bits_some}
use Rattle.integers.specs.Inverse.{LowerEnd}
use Rattle.integers.proofs.Cases.{low_pos_nonneg, low_pos_neg, low_neg_nonneg, low_neg_neg, lower_pos, lower_neg}
use Rattle.integers.proofs.Dividend.{dividend_fits, moved_fits, twice_fits, quotient_fits, moved_quotient_fits, quotient_read, moved_read, tested_nonneg, tested_below, tested_pos, tested_neg}
use Rattle.machine_integers.proofs.division.lower_end.Goals as goal

pub overflow_sub-n : goal.overflow_sub-n
overflow_sub-n c =
    let (n, wf) = c.requires.fact in
    let wb = c.requires.within in
    let (wc, wd) = c.requires.within_2 in
    dividend_fits wc wb

pub overflow_add-result : goal.overflow_add-result
overflow_add-result c =
    let (n, wf) = c.requires.fact in
    let wb = c.requires.within in
    let (wc, wd) = c.requires.within_2 in
    let w = within_size (within_back (lit≤ tt) wf) in
    moved_fits wc wb _ (within_out 100 _ (omega (arith, w)))

pub overflow_sub-result : goal.overflow_sub-result
overflow_sub-result c =
    let (n, wf) = c.requires.fact in
    let wb = c.requires.within in
    let (wc, wd) = c.requires.within_2 in
    let w = within_size (within_back (lit≤ tt) wf) in
    twice_fits wc wb _ _ (within_out 100 _ (omega (arith, w))) (within_out 100 _ (omega (arith, w)))

pub nonzero_div-result : goal.nonzero_div-result
nonzero_div-result c =
    let (n, wf) = c.requires.fact in
    let wb = c.requires.within in
    let (wc, wd) = c.requires.within_2 in
    let w = within_size (within_back (lit≤ tt) wf) in
    (bits_some _ c.ranges.f n, moved_quotient_fits wc wb _ _ _ (within_out 100 _ (omega (arith, w))) (within_out 100 _ (omega (arith, w))))

pub nonzero_div-result-else-n-ge0 : goal.nonzero_div-result-else-n-ge0
nonzero_div-result-else-n-ge0 c =
    let (n, wf) = c.requires.fact in
    let wb = c.requires.within in
    let (wc, wd) = c.requires.within_2 in
    (bits_some _ c.ranges.f n, quotient_fits wc wb _)

pub overflow_sub-n-else-f-gt0 : goal.overflow_sub-n-else-f-gt0
overflow_sub-n-else-f-gt0 c =
    let (n, wf) = c.requires.fact in
    let wb = c.requires.within in
    let (wc, wd) = c.requires.within_2 in
    dividend_fits wd wb

pub nonzero_div-result-then-n-ge0-2 : goal.nonzero_div-result-then-n-ge0-2
nonzero_div-result-then-n-ge0-2 c =
    let (n, wf) = c.requires.fact in
    let wb = c.requires.within in
    let (wc, wd) = c.requires.within_2 in
    (bits_some _ c.ranges.f n, quotient_fits wd wb _)

pub overflow_add-result-else-n-ge0-2 : goal.overflow_add-result-else-n-ge0-2
overflow_add-result-else-n-ge0-2 c =
    let (n, wf) = c.requires.fact in
    let wb = c.requires.within in
    let (wc, wd) = c.requires.within_2 in
    let w = within_size (within_back (lit≤ tt) wf) in
    moved_fits wd wb _ (within_out 100 _ (omega (arith, w)))

pub overflow_add-result-else-n-ge0-2-2 : goal.overflow_add-result-else-n-ge0-2-2
overflow_add-result-else-n-ge0-2-2 c =
    let (n, wf) = c.requires.fact in
    let wb = c.requires.within in
    let (wc, wd) = c.requires.within_2 in
    let w = within_size (within_back (lit≤ tt) wf) in
    twice_fits wd wb _ _ (within_out 100 _ (omega (arith, w))) (within_out 100 _ (omega (arith, w)))

pub nonzero_div-result-else-n-ge0-2 : goal.nonzero_div-result-else-n-ge0-2
nonzero_div-result-else-n-ge0-2 c =
    let (n, wf) = c.requires.fact in
    let wb = c.requires.within in
    let (wc, wd) = c.requires.within_2 in
    let w = within_size (within_back (lit≤ tt) wf) in
    (bits_some _ c.ranges.f n, moved_quotient_fits wd wb _ _ _ (within_out 100 _ (omega (arith, w))) (within_out 100 _ (omega (arith, w))))

pub returns-then-n-ge0 : goal.returns-then-n-ge0
returns-then-n-ge0 c =
    let a = c.args in
    let (n, wf) = c.requires.fact in
    let wb = c.requires.within in
    let (wc, wd) = c.requires.within_2 in
    let h = tested_pos c.ranges.f c.if-f-gt0.true in
    let k = tested_nonneg wc wb c.if-n-ge0.true in
    let e = moved_read wc wb (λ z. z) (negsuc 0) wf wf (within_out 100 (negsuc 0) (omega arith)) in
    subst (LowerEnd a.f a.b a.c a.d) (sym e) (lower_pos h (low_pos_nonneg a.f a.b a.c h k))

pub returns-else-n-ge0 : goal.returns-else-n-ge0
returns-else-n-ge0 c =
    let a = c.args in
    let (n, wf) = c.requires.fact in
    let wb = c.requires.within in
    let (wc, wd) = c.requires.within_2 in
    let h = tested_pos c.ranges.f c.if-f-gt0.true in
    let k = tested_below wc wb c.if-n-ge0.false in
    let e = quotient_read wc wb wf in
    subst (LowerEnd a.f a.b a.c a.d) (sym e) (lower_pos h (low_pos_neg a.f a.b a.c h k))

pub returns-then-n-ge0-2 : goal.returns-then-n-ge0-2
returns-then-n-ge0-2 c =
    let a = c.args in
    let (n, wf) = c.requires.fact in
    let wb = c.requires.within in
    let (wc, wd) = c.requires.within_2 in
    let h = tested_neg c.ranges.f n c.if-f-gt0.false in
    let k = tested_nonneg wd wb c.if-n-ge0-2.true in
    let e = quotient_read wd wb wf in
    subst (LowerEnd a.f a.b a.c a.d) (sym e) (lower_neg h (low_neg_nonneg a.f a.b a.d h k))

pub returns-else-n-ge0-2 : goal.returns-else-n-ge0-2
returns-else-n-ge0-2 c =
    let a = c.args in
    let (n, wf) = c.requires.fact in
    let wb = c.requires.within in
    let (wc, wd) = c.requires.within_2 in
    let h = tested_neg c.ranges.f n c.if-f-gt0.false in
    let k = tested_below wd wb c.if-n-ge0-2.false in
    let e = moved_read wd wb (λ z. z) (pos 1) wf wf (within_out 100 (pos 1) (omega arith)) in
    subst (LowerEnd a.f a.b a.c a.d) (sym e) (lower_neg h (low_neg_neg a.f a.b a.d h k))
