use mathlib.Core.Path.{ap, ◌∙◌}
use native.Mathlib.Omega.{arith}
use Rattle.answer_rules.proofs.Stages.{stop, go_on, handed_up, demand_for}
use Rattle.separating_sequence.specs.Machine.{charts_shaped, counts_by, room_by}
use Rattle.separation_rules.specs.Separation.{request_check, pair_check}
use Rattle.model.specs.Chart.{actions_of, blocks_of}
use Rattle.separating_sequence.proofs.check_pair.Goals as goal

pub returns-in_err-check_charts : goal.returns-in_err-check_charts
unfolding pair_check
returns-in_err-check_charts c = handed_up c.from_residual.ensures ∙ stop _ c.check_charts.ensures c.in_err-check_charts.was

pub over-first-requires : goal.over-first-requires
over-first-requires c = (charts_shaped c.args.c.now c.args.d.now c.check_charts.ensures c.in_ok-check_charts.was).0

pub over-second-requires : goal.over-second-requires
over-second-requires c = (charts_shaped c.args.c.now c.args.d.now c.check_charts.ensures c.in_ok-check_charts.was).1

pub returns-in_err-demanded : goal.returns-in_err-demanded
unfolding pair_check request_check
returns-in_err-demanded c =
    let e = counts_by c.args.c.now c.args.d.now (c.actions.ensures.value ∙ ap actions_of c.over-first.ensures) (c.actions-2.ensures.value ∙ ap actions_of c.over-second.ensures) (demand_for _ c.demanded.ensures c.at.ensures) in
    handed_up c.from_residual-in_err-demanded.ensures ∙ go_on c.check_charts.ensures c.in_ok-check_charts.was (stop _ e c.in_err-demanded.was)

pub overflow_add-needed : goal.overflow_add-needed
overflow_add-needed c =
    let (S, S') = charts_shaped c.args.c.now c.args.d.now c.check_charts.ensures c.in_ok-check_charts.was in
    omega (arith, S.blocks_few, S'.blocks_few, S.blocks_some, c.blocks-2.ensures.value ∙ ap blocks_of c.over-first.ensures, c.blocks-3.ensures.value ∙ ap blocks_of c.over-second.ensures)

pub overflow_sub-needed : goal.overflow_sub-needed
overflow_sub-needed c =
    let (S, S') = charts_shaped c.args.c.now c.args.d.now c.check_charts.ensures c.in_ok-check_charts.was in
    omega (arith, S.blocks_few, S'.blocks_few, S.blocks_some, c.blocks-2.ensures.value ∙ ap blocks_of c.over-first.ensures, c.blocks-3.ensures.value ∙ ap blocks_of c.over-second.ensures)

pub returns : goal.returns
unfolding pair_check request_check
returns c =
    let s = c.args in
    let e = counts_by s.c.now s.d.now (c.actions.ensures.value ∙ ap actions_of c.over-first.ensures) (c.actions-2.ensures.value ∙ ap actions_of c.over-second.ensures) (demand_for _ c.demanded.ensures c.at.ensures) in
    let f = room_by s.c.now s.d.now s.room (c.blocks-2.ensures.value ∙ ap blocks_of c.over-first.ensures) (c.blocks-3.ensures.value ∙ ap blocks_of c.over-second.ensures) (demand_for _ c.demanded-2.ensures c.at-2.ensures) in
    go_on c.check_charts.ensures c.in_ok-check_charts.was (go_on e c.in_ok-demanded.was f)
