use mathlib.Core.Path.{◌∙◌}
use native.Mathlib.Omega.{arith}
use Rattle.answer_rules.proofs.Stages.{each_none, loop_stop, loop_more, loop_end, handed_up, demand_for}
use Rattle.model.specs.Chart.{blocks_of}
use Rattle.chart_bytes.specs.Classes.{entry}
use Rattle.chart.specs.Check.{class_check}
use Rattle.chart.specs.Apart.{class_tested}
use Rattle.chart.proofs.classes.check_table.Goals as goal

pub loop-j-init : goal.loop-j-init
loop-j-init c = each_none (class_check c.args.c.now (entry c.args.f.now))

pub returns-in_err-demanded : goal.returns-in_err-demanded
returns-in_err-demanded c =
    let s = c.args in
    let l = c.loop-j in
    handed_up c.from_residual.ensures
    ∙ loop_stop (class_check s.c.now (entry s.f.now)) l.j (blocks_of s.c.now) l.invariant
    (class_tested s.c.now (entry s.f.now) l.j c.record_at.ensures.value (demand_for _ c.demanded.ensures c.at.ensures)) c.in_err-demanded.was (omega arith)

pub loop-j-preserved : goal.loop-j-preserved
loop-j-preserved c =
    let s = c.args in
    let l = c.loop-j in
    loop_more (class_check s.c.now (entry s.f.now)) l.j l.invariant
    (class_tested s.c.now (entry s.f.now) l.j c.record_at.ensures.value (demand_for _ c.demanded.ensures c.at.ensures)) c.in_ok-demanded.was

pub returns : goal.returns
returns c =
    let s = c.args in
    loop_end (class_check s.c.now (entry s.f.now)) c.loop-j.j (blocks_of s.c.now) c.loop-j.invariant (omega arith) (omega arith)
