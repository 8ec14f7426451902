use mathlib.Core.Path.{refl, sym, ap, ◌∙◌}
use Rattle.answer_rules.proofs.Stages.{then_ok, then_err}
use Rattle.model.specs.Chart.{blocks_of}
use Rattle.reader_rules.proofs.Steps.{step_headless, step_block, step_past, hands_none, hands_block, next_told}
use Rattle.reader.proofs.steps.block_of.Goals as goal

pub returns-in_default : goal.returns-in_default
returns-in_default c =
    let s = c.args in
    let h = hands_none s.chart.now s.next (step_headless s.chart.now s.next refl (then_err _ _ (sym c.new.ensures ∙ c.in_default.is))) in
    record { handed = h; next = next_told s.chart.now s.next h }

pub block_at-requires : goal.block_at-requires
block_at-requires c = record { i_bound = rw c.blocks-2.ensures.value at c.if-next-blocks.true }

pub returns-then-next-blocks : goal.returns-then-next-blocks
returns-then-next-blocks c =
    let s = c.args in
    let (h, e) = then_ok _ (sym c.new.ensures ∙ c.in-Ok.is) in
    let n = c.blocks-2.ensures.value ∙ ap blocks_of e in
    let b = hands_block s.chart.now s.next (step_block s.chart.now s.next refl h (rw n at c.if-next-blocks.true)) (rw e at c.block_at.ensures) in
    record { handed = b; next = next_told s.chart.now s.next b }

pub returns-else-next-blocks : goal.returns-else-next-blocks
returns-else-next-blocks c =
    let s = c.args in
    let (h, e) = then_ok _ (sym c.new.ensures ∙ c.in-Ok.is) in
    let n = c.blocks-2.ensures.value ∙ ap blocks_of e in
    let b = hands_none s.chart.now s.next (step_past s.chart.now s.next refl h (rw n at c.if-next-blocks.false)) in
    record { handed = b; next = next_told s.chart.now s.next b }
