use native.Mathlib.Omega.{arith}
use Rattle.systems.proofs.Laws.{below_next}
use Rattle.congruence.specs.Machine.{below_stopped, below_passed}
use Rattle.congruence.proofs.are_below.Goals as goal

pub loop-number-init : goal.loop-number-init
loop-number-init c = λ k h. absurd (omega arith)

pub returns-then-number-modulus : goal.returns-then-number-modulus
returns-then-number-modulus c =
    let s = c.args in
    below_stopped s.modulus s.numbers.now c.loop-number.number-index (omega arith) (omega arith)

pub loop-number-preserved : goal.loop-number-preserved
loop-number-preserved c = below_next c.loop-number.number-index c.loop-number.invariant (omega arith)

pub returns : goal.returns
returns c =
    let s = c.args in
    below_passed s.modulus s.numbers.now (λ i h. c.loop-number.invariant i (omega arith))
