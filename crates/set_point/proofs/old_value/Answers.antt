use mathlib.Core.Path.{sym, ◌∙◌}
use lib.Dec.{lit≤}
use lib.IntN.{pos}
use lib.Signed.{◌<ℤ◌}
use Rattle.integers.proofs.Order.{ints}
use Rattle.integers.specs.Machine.{back64}
use Rattle.integers.proofs.Machine.{within_read}
use Rattle.integers.proofs.Inverse.{by_sign}
use Rattle.set_point.specs.Machine.{high_old, low_old}
use Rattle.set_point.proofs.old_value.Goals as goal

pub returns-then-factor-gt0 : goal.returns-then-factor-gt0
returns-then-factor-gt0 c =
    let (n, wf) = c.requires.fact in
    let wb = c.requires.within in
    let wy = c.requires.within_2 in
    let t = c.if-factor-gt0.true in
    let h : pos 0 <ℤ back64 c.args.factor = omega ints in
    high_old wf wb wy c.inverse_range-exact.ensures h

pub returns-else-factor-gt0 : goal.returns-else-factor-gt0
returns-else-factor-gt0 c =
    let (n, wf) = c.requires.fact in
    let wb = c.requires.within in
    let wy = c.requires.within_2 in
    let t = c.if-factor-gt0.false in
    let h : back64 c.args.factor <ℤ pos 0 = by_sign _ (λ z. n (sym (within_read (lit≤ tt) wf) ∙ z)) (λ k. absurd (omega ints)) (λ k. k) in
    low_old wf wb wy c.inverse_range-exact.ensures h
