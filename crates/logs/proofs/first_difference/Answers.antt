use native.Mathlib.Omega.{arith}
use Rattle.log_rules.proofs.Machine.{stopped, ended}
use Rattle.logs.proofs.first_difference.Goals as goal

pub returns-then-first-at : goal.returns-then-first-at
returns-then-first-at c =
    let s = c.args in
    stopped s.first.now s.second.now c.min-both.result c.loop-at.at c.min-both.ensures (omega arith) c.loop-at.invariant (λ e. omega arith)

pub returns : goal.returns
returns c =
    let s = c.args in
    ended s.first.now s.second.now c.min-both.result c.min-both.result c.min-both.ensures (omega arith) (λ k h. c.loop-at.invariant k (omega arith))
