use native.Mathlib.Omega.{arith}
use native.Mathlib.Nat.{mod-lt}
use Prim.Native.Nat.{◌+◌, ◌-◌}
use Rattle.std.proofs.Common.{◌∙◌}
use Rattle.answer_rules.proofs.Stages.{handed_up, demand_for}
use Rattle.congruence.specs.Machine.{asked_by, gives_refused, divisor_above, left_over, gives_none, gives_done}
use Rattle.congruence.proofs.solve.Goals as goal

pub returns-in_err-demanded : goal.returns-in_err-demanded
returns-in_err-demanded c =
    let s = c.args in
    handed_up c.from_residual.ensures
    ∙ gives_refused s.modulus s.start s.wanted s.increments.now _ c.is_allowed.ensures (demand_for _ c.demanded.ensures c.at.ensures) c.in_err-demanded.was

pub minus-difference-requires : goal.minus-difference-requires
minus-difference-requires c =
    let A = asked_by _ _ c.is_allowed.ensures c.demanded.ensures c.in_ok-demanded.was in
    let (a, b) = A.modulus in
    record { modulus_nonzero = (omega arith, b); from_bound = (omega (arith, A.wanted), omega (arith, A.start)) }

pub find_tails-tails-requires : goal.find_tails-tails-requires
find_tails-tails-requires c =
    let A = asked_by _ _ c.is_allowed.ensures c.demanded.ensures c.in_ok-demanded.was in
    let (a, b) = A.modulus in
    record { modulus_nonzero = (omega arith, b); increments_len_bound = (A.some_increments.1, A.increments) }

pub nonzero_rem-difference : goal.nonzero_rem-difference
nonzero_rem-difference c =
    let A = asked_by _ _ c.is_allowed.ensures c.demanded.ensures c.in_ok-demanded.was in
    let all = c.find_tails-tails.ensures.divisors 0 (omega arith) (omega arith) in
    divisor_above A all

pub returns-then-difference-tails-ne0 : goal.returns-then-difference-tails-ne0
returns-then-difference-tails-ne0 c =
    let A = asked_by _ _ c.is_allowed.ensures c.demanded.ensures c.in_ok-demanded.was in
    let all = c.find_tails-tails.ensures.divisors 0 (omega arith) (omega arith) in
    gives_none A c.minus-difference.ensures all c.if-difference-tails-ne0.true

pub first_solution-requires : goal.first_solution-requires
first_solution-requires c =
    let s = c.args in
    let A = asked_by _ _ c.is_allowed.ensures c.demanded.ensures c.in_ok-demanded.was in
    let (a, b) = A.modulus in
    let tails = c.find_tails-tails.ensures in
    let e = c.minus-difference.ensures in
    let d = mod-lt (s.wanted + (s.modulus - s.start)) {m = s.modulus} (omega arith) in
    record {
      modulus_nonzero = (omega arith, b);
      difference_bound = (omega (arith, e, d), left_over s.modulus s.increments.now (tails.divisors 0 (omega arith) (omega arith)) c.if-difference-tails-ne0.false);
      increments_len_bound = (A.some_increments.1, A.increments);
      tails = tails;
    }

pub returns : goal.returns
returns c =
    let A = asked_by _ _ c.is_allowed.ensures c.demanded.ensures c.in_ok-demanded.was in
    let all = c.find_tails-tails.ensures.divisors 0 (omega arith) (omega arith) in
    gives_done A c.minus-difference.ensures all c.if-difference-tails-ne0.false c.first_solution.ensures
