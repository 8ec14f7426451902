use mathlib.Core.Path.{◌∙◌}
use native.Mathlib.Omega.{arith}
use Rattle.answer_rules.proofs.Stages.{each_none, loop_stop, loop_more, loop_end, handed_up}
use Rattle.model.specs.Chart.{blocks_of}
use Rattle.chart_form.specs.Bars.{bars_first}
use Rattle.chart_form.proofs.bars.check_bars.Invariants.{later}
use Rattle.chart_form.proofs.bars.check_bars.Goals as goal

pub loop-j-init : goal.loop-j-init
loop-j-init c = each_none (later c.args.c.now)

pub returns-in_err-check_later : goal.returns-in_err-check_later
returns-in_err-check_later c =
    let s = c.args.c.now in
    let l = c.loop-j in
    handed_up c.from_residual.ensures ∙ loop_stop (later s) l.j (blocks_of s) l.invariant c.check_later.ensures c.in_err-check_later.was (omega arith)
    ∙ bars_first s

pub loop-j-preserved : goal.loop-j-preserved
loop-j-preserved c = loop_more (later c.args.c.now) c.loop-j.j c.loop-j.invariant c.check_later.ensures c.in_ok-check_later.was

pub returns : goal.returns
returns c =
    let s = c.args.c.now in
    loop_end (later s) c.loop-j.j (blocks_of s) c.loop-j.invariant (omega arith) (omega arith) ∙ bars_first s
