use native.Mathlib.Omega.{arith}
use Rattle.congruence.specs.Machine.{beyond, by_increments}
use Rattle.congruence.proofs.is_allowed.Goals as goal

pub returns-then-modulus-lt2 : goal.returns-then-modulus-lt2
returns-then-modulus-lt2 c = beyond (λ A. omega (arith, A.modulus))

pub returns-then-modulus-gt65536 : goal.returns-then-modulus-gt65536
returns-then-modulus-gt65536 c = beyond (λ A. omega (arith, A.modulus))

pub returns-then-start-modulus : goal.returns-then-start-modulus
returns-then-start-modulus c = beyond (λ A. omega (arith, A.start))

pub returns-then-wanted-modulus : goal.returns-then-wanted-modulus
returns-then-wanted-modulus c = beyond (λ A. omega (arith, A.wanted))

pub returns-then-increments-lt1 : goal.returns-then-increments-lt1
returns-then-increments-lt1 c = beyond (λ A. omega (arith, A.some_increments))

pub returns-then-increments-gt8 : goal.returns-then-increments-gt8
returns-then-increments-gt8 c = beyond (λ A. omega (arith, A.some_increments))

pub returns : goal.returns
returns c =
    let s = c.args in
    by_increments s.increments.now (omega arith, omega arith) (omega arith, omega arith) (omega arith, omega arith) c.are_below.ensures
