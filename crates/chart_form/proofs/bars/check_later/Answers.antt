use native.Mathlib.Omega.{arith}
use Rattle.answer_rules.proofs.Stages.{demand_for}
use Rattle.chart_form.specs.Bars.{bar_later}
use Rattle.chart_bytes.specs.Classes.{holds_ordered}
use Rattle.chart_form.proofs.bars.check_later.Goals as goal

pub same_bars-requires : goal.same_bars-requires
same_bars-requires c =
    let b = holds_ordered c.args.c.now c.args.f.now 0 c.requires.holds c.args.j c.requires.j_bound in
    record { i_bound = (omega arith, c.requires.j_bound) }

pub record_at-at-requires : goal.record_at-at-requires
record_at-at-requires c =
    let b = holds_ordered c.args.c.now c.args.f.now 0 c.requires.holds c.args.j c.requires.j_bound in
    omega arith

pub returns : goal.returns
returns c =
    let h = c.requires.j_bound in
    bar_later c.args.c.now c.args.j h (c.requires.holds.at c.args.j h) c.same_bars.ensures c.record_at-at.ensures.value (demand_for _ c.demanded.ensures c.at.ensures)
