use mathlib.Core.Path.{◌≡◌, sym, subst}
use Prim.Native.Nat.{ℕ, ◌+◌, ◌-◌, ◌*◌, ◌/◌, ◌%◌}
use native.Mathlib.Omega.{arith}
use native.Mathlib.Nat.{mod-lt, div-le_self}
use Rattle.congruence_rules.specs.Euclid.{OnTheWay}
use Rattle.congruence_rules.proofs.Euclid.{begun, divided, ended}
use Rattle.congruence.specs.Machine.{product_fits}
use Rattle.congruence.proofs.euclid.Goals as goal

pub loop-next-init : goal.loop-next-init
loop-next-init c = (begun c.args.modulus c.args.increment, omega arith, omega arith, omega arith, omega arith)

pub nonzero_div-quotient : goal.nonzero_div-quotient
nonzero_div-quotient c = omega arith

pub nonzero_rem-rest : goal.nonzero_rem-rest
nonzero_rem-rest c = omega arith

pub overflow_mul-quotient : goal.overflow_mul-quotient
overflow_mul-quotient c =
    let l = c.loop-next in
    let q = div-le_self l.divisor l.next in
    let p = product_fits (l.divisor / l.next) l.next_factor (omega arith) (omega arith) in
    omega arith

pub nonzero_rem-quotient : goal.nonzero_rem-quotient
nonzero_rem-quotient c = omega arith

pub minus-rest_factor-requires : goal.minus-rest_factor-requires
minus-rest_factor-requires c =
    let l = c.loop-next in
    let m = c.args.modulus in
    record {
      modulus_nonzero = (omega arith, omega arith);
      from_bound = (omega arith, omega (arith, mod-lt (l.divisor / l.next * l.next_factor) {m = m} (omega arith)));
    }

pub loop-next-smaller : goal.loop-next-smaller
loop-next-smaller c = omega (arith, mod-lt c.loop-next.divisor {m = c.loop-next.next} (omega arith))

pub loop-next-preserved : goal.loop-next-preserved
loop-next-preserved c =
    let l = c.loop-next in
    let s = c.args in
    let e = c.minus-rest_factor.ensures in
    let way = subst (OnTheWay s.modulus s.increment l.next l.next_factor (l.divisor % l.next)) (sym e) (divided (omega arith) l.invariant.0) in
    let rest = mod-lt l.divisor {m = l.next} (omega arith) in
    let less = mod-lt (l.factor + (s.modulus - (l.divisor / l.next * l.next_factor) % s.modulus)) {m = s.modulus} (omega arith) in
    (way, omega arith, omega arith, omega arith, omega arith)

pub returns : goal.returns
returns c =
    let l = c.loop-next in
    let s = c.args in
    let e : l.next ≡ 0 = omega arith in
    record {
      bezout = ended (subst (λ (y : ℕ). OnTheWay s.modulus s.increment l.divisor l.factor y l.next_factor) e l.invariant.0);
      factor_bound = omega arith;
    }
