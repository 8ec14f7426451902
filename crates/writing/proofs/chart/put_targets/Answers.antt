use native.Mathlib.Omega.{arith}
use Prim.Native.Nat.{ℕ, ◌+◌}
use mathlib.Core.Path.{◌≡◌, refl, ap, ◌∙◌}
use lib.ListN.{set, length-set}
use Rattle.systems.specs.Lists.{collect}
use Rattle.systems.proofs.Lists.{length_each}
use Rattle.table_rules.specs.Arrays.{target_in}
use Rattle.writing.specs.Numbers.{entry_in}
use Rattle.writing.specs.Stored.{stored, stored_start, stored_one, stored_more}
use Rattle.writing.specs.ChartBytes.{target_byte, target_bytes}
use Rattle.writing.proofs.chart.put_targets.Goals as goal

pub loop-a-init : goal.loop-a-init
loop-a-init c = (omega arith, refl, stored_start (target_byte c.args.targets.now c.args.number.now c.args.i) c.args.out.now c.args.at)

pub overflow_mul-j : goal.overflow_mul-j
overflow_mul-j c = omega arith

pub overflow_add-j : goal.overflow_add-j
overflow_add-j c = omega arith

pub bounds-targets-a : goal.bounds-targets-a
bounds-targets-a c = omega arith

pub overflow_add-out : goal.overflow_add-out
overflow_add-out c = omega arith

pub bounds-out-at : goal.bounds-out-at
bounds-out-at c = omega arith

pub overflow_step-a : goal.overflow_step-a
overflow_step-a c = omega arith

pub loop-a-smaller : goal.loop-a-smaller
loop-a-smaller c = omega arith

pub loop-a-preserved : goal.loop-a-preserved
loop-a-preserved c =
    let at = c.loop-a in
    let t = c.args.targets.now in
    let number = c.args.number.now in
    let i = c.args.i in
    let place = c.args.at + at.a in (
      omega arith,
      omega (arith, length-set at.out place (entry_in number (target_in t i at.a))),
      stored_more (target_byte t number i) c.args.out.now at.out (set at.out place (entry_in number (target_in t i at.a))) c.args.at place at.a at.invariant.2
          (stored_one at.out place (entry_in number (target_in t i at.a))) (omega (arith, length_each (λ a. entry_in number (target_in t i a)) at.a)),
    )

pub shape_of-out : goal.shape_of-out
shape_of-out c = omega arith

pub returns : goal.returns
unfolding target_bytes
returns c =
    let at = c.loop-a in
    let e : at.a ≡ c.args.actions = omega arith in
    at.invariant.2 ∙ ap (λ (k : ℕ). stored c.args.out.now c.args.at (collect (target_byte c.args.targets.now c.args.number.now c.args.i) k)) e
