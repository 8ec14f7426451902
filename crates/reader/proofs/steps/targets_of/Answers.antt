use mathlib.Core.Path.{◌≡◌, ap, ◌∙◌}
use mathlib.Core.List.{List}
use Prim.Native.Nat.{ℕ}
use native.Mathlib.Omega.{arith}
use lib.ListN.{set}
use Rattle.model.specs.Chart.{actions_of, target_of}
use Rattle.reader_rules.specs.Reading.{eight_targets, targets_of}
use Rattle.reader_rules.proofs.Steps.{eight_none, eight_more}
use Rattle.reader.proofs.steps.targets_of.Goals as goal

pub loop-a-init : goal.loop-a-init
loop-a-init c = eight_none (target_of c.args.c.now c.args.i)

pub loop-a-preserved : goal.loop-a-preserved
loop-a-preserved c =
    let s = c.args in
    let l = c.loop-a in
    ap (λ (t : List ℕ). set t l.a c.target_of.result) l.invariant
    ∙ eight_more (target_of s.c.now s.i) l.a c.target_of.result (omega (arith, c.actions-a-end.ensures.shaped.actions_few)) c.target_of.ensures.0

pub returns : goal.returns
unfolding targets_of
returns c =
    let s = c.args in
    let e : c.loop-a.a ≡ actions_of s.c.now = omega arith in
    c.loop-a.invariant ∙ ap (eight_targets (target_of s.c.now s.i)) e
