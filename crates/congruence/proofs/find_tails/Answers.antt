use Prim.Native.Nat.{◌-◌, ◌+◌}
use Rattle.std.proofs.Common.{◌≡◌}
use native.Mathlib.Omega.{arith}
use Rattle.congruence.specs.Tails.{tails_begun, tails_all, tail_small, tails_next}
use Rattle.congruence.proofs.find_tails.Goals as goal

pub loop-at-init : goal.loop-at-init
loop-at-init c =
    let s = c.args in
    tails_begun s.modulus s.increments.now c.requires.modulus_nonzero.0 c.requires.increments_len_bound.0

pub euclid-requires : goal.euclid-requires
euclid-requires c =
    let l = c.loop-at in
    let (a, b) = c.requires.modulus_nonzero in
    let (n, f) = c.requires.increments_len_bound in
    let (d, e) = tail_small a l.invariant (l.at - 1 + 1) (omega arith) (omega arith) in
    record { modulus_nonzero = (d, omega (arith, b, e)); increment_bound = omega (arith, f (l.at - 1) (omega arith)) }

pub loop-at-preserved : goal.loop-at-preserved
loop-at-preserved c =
    let l = c.loop-at in
    let (a, b) = c.requires.modulus_nonzero in
    let (n, f) = c.requires.increments_len_bound in
    let q : l.at - 1 + 1 ≡ l.at = omega arith in
    tails_next a (omega arith) (omega arith) n l.invariant (rw q at c.euclid.ensures.bezout) c.euclid.ensures.factor_bound

pub returns : goal.returns
returns c = tails_all (omega arith) c.loop-at.invariant
