use mathlib.Core.Path.{sym, ◌∙◌}
use native.Mathlib.Omega.{arith}
use Rattle.reader_rules.proofs.Steps.{step_moves, step_stays}
use Rattle.reader.proofs.Reader.next_block.Goals as goal

pub returns-in_err-block-clause-next : goal.returns-in_err-block-clause-next
returns-in_err-block-clause-next c =
    let r = c.args.self.now in
    sym (step_stays r.chart.now r.next (sym c.peek.ensures.handed ∙ c.in_err-block.was))

pub overflow_add-self : goal.overflow_add-self
overflow_add-self c =
    let r = c.args.self.now in
    omega (arith, (step_moves r.chart.now r.next (sym c.peek.ensures.handed ∙ c.in_ok-block.was)).1)

pub returns-clause-next : goal.returns-clause-next
returns-clause-next c =
    let r = c.args.self.now in
    sym (step_moves r.chart.now r.next (sym c.peek.ensures.handed ∙ c.in_ok-block.was)).0
