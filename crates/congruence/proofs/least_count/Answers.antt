use mathlib.Core.Path.{sym}
use Prim.Native.Nat.{◌*◌, ◌/◌}
use native.Mathlib.Omega.{arith}
use native.Mathlib.Nat.{mod-lt, div-le_self}
use Rattle.congruence_rules.proofs.Greedy.{bezout_least}
use Rattle.congruence.specs.Machine.{product_fits, quotient_some}
use Rattle.congruence.proofs.least_count.Goals as goal

pub overflow_mul-result : goal.overflow_mul-result
overflow_mul-result c =
    let s = c.args in
    let small = div-le_self s.left s.here.divisor in
    let d = c.requires.divisor_nonzero in
    let (f, b) = c.requires.factor_bound in
    let v = c.requires.divisor in
    omega (arith, product_fits (s.left / s.here.divisor) s.here.factor (omega arith) f)

pub nonzero_rem-result : goal.nonzero_rem-result
nonzero_rem-result c =
    let s = c.args in
    let (d, e) = c.requires.divisor_nonzero in
    quotient_some s.after s.here.divisor d e

pub returns : goal.returns
returns c =
    let s = c.args in
    let (d, e) = c.requires.divisor_nonzero in
    let f = c.requires.factor_bound in
    let v = c.requires.divisor in
    let period = quotient_some s.after s.here.divisor d e in
    let less = mod-lt (s.left / s.here.divisor * s.here.factor) period in
    record {
      by_index = λ increment B. sym (bezout_least (omega arith) B v);
      upper_bound = omega (arith, less, div-le_self s.after s.here.divisor);
    }
