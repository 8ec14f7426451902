use Prim.Native.Nat.{◌+◌, ◌*◌}
use native.Mathlib.Omega.{arith}
use native.Mathlib.Nat.{mod-lt}
use lib.ListN.{get_or}
use Rattle.congruence.specs.Tails.{tail_small, tail_falls}
use Rattle.congruence.specs.Machine.{product_fits, filling_begun, here_divides, count_is, filling_next, filling_ended}
use Rattle.congruence.proofs.first_solution.Goals as goal

pub loop-at-init : goal.loop-at-init
loop-at-init c =
    let s = c.args in
    let m = c.requires.modulus_nonzero in
    let (b, h) = c.requires.difference_bound in
    filling_begun s.modulus s.difference s.increments.now b h

pub least_count-count-requires : goal.least_count-count-requires
least_count-count-requires c =
    let l = c.loop-at in
    let (a, b) = c.requires.modulus_nonzero in
    let d = c.requires.difference_bound in
    let (n, f) = c.requires.increments_len_bound in
    let t = c.requires.tails in
    let (some, most) = tail_small a t l.at (omega arith) (omega arith) in
    record {
      divisor_nonzero = (some, omega (arith, most, tail_falls a t l.at (omega arith) (omega arith)));
      factor_bound = (t.small l.at (omega arith) (omega arith), l.invariant.left_small);
      divisor = here_divides a b t (omega arith) l.invariant;
    }

pub overflow_mul-count : goal.overflow_mul-count
overflow_mul-count c =
    let l = c.loop-at in
    let s = c.args in
    let (a, b) = c.requires.modulus_nonzero in
    let d = c.requires.difference_bound in
    let (n, f) = c.requires.increments_len_bound in
    let t = c.requires.tails in
    let after = tail_small a t (l.at + 1) (omega arith) (omega arith) in
    let small = f l.at (omega arith) in
    omega (arith, product_fits c.least_count-count.result (get_or s.increments.now l.at 0) (omega (arith, b, after, c.least_count-count.ensures.by_index, c.least_count-count.ensures.upper_bound)) (omega arith))

pub minus-left-requires : goal.minus-left-requires
minus-left-requires c =
    let l = c.loop-at in
    let s = c.args in
    let m = c.requires.modulus_nonzero in
    let (d, v) = c.requires.difference_bound in
    record {
      modulus_nonzero = m;
      from_bound = (omega (arith, d, l.invariant.left_small), omega (arith, mod-lt (c.least_count-count.result * get_or s.increments.now l.at 0) m.0));
    }

pub loop-at-preserved : goal.loop-at-preserved
loop-at-preserved c =
    let l = c.loop-at in
    let (a, b) = c.requires.modulus_nonzero in
    let d = c.requires.difference_bound in
    let (n, f) = c.requires.increments_len_bound in
    let t = c.requires.tails in
    let F = l.invariant in
    let count = count_is a b t (omega arith) F c.least_count-count.ensures.by_index in
    filling_next a b t (omega arith) F n count c.minus-left.ensures

pub returns : goal.returns
returns c =
    let m = c.requires.modulus_nonzero in
    let d = c.requires.difference_bound in
    let (n, f) = c.requires.increments_len_bound in
    let t = c.requires.tails in
    filling_ended n (omega arith) c.loop-at.invariant
