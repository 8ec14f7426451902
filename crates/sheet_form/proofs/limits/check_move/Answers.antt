use mathlib.Core.Path.{◌∙◌}
use native.Mathlib.Omega.{arith}
use lib.ListN.{length}
use Rattle.answer_rules.proofs.Stages.{stop, go_on, handed_up, demand_for}
use Rattle.sheet_bytes.specs.Fields.{move_some}
use Rattle.sheet_rules.specs.Form.{check_move}
use Rattle.sheet_form.specs.Limits.{move_zero, move_open}
use Rattle.sheet_form.proofs.limits.check_move.Goals as goal

pub bounds-part-0 : goal.bounds-part-0
bounds-part-0 c = omega (arith, move_some c.args.counters (length c.args.part.now) c.requires.counters_bound.1)

pub returns-in_err-demanded : goal.returns-in_err-demanded
unfolding check_move
returns-in_err-demanded c = handed_up c.from_residual.ensures ∙ stop _ (demand_for _ c.demanded.ensures c.at.ensures) c.in_err-demanded.was

pub bounds-part-0-2 : goal.bounds-part-0-2
bounds-part-0-2 c = omega (arith, move_some c.args.counters (length c.args.part.now) c.requires.counters_bound.1)

pub returns-then-part-ne0 : goal.returns-then-part-ne0
returns-then-part-ne0 c =
    go_on (demand_for _ c.demanded.ensures c.at.ensures) c.in_ok-demanded.was c.check_rules.ensures
    ∙ move_open c.args.counters c.args.most c.args.part.now c.args.place c.if-part-ne0.true

pub bounds-part-1 : goal.bounds-part-1
bounds-part-1 c = omega (arith, move_some c.args.counters (length c.args.part.now) c.requires.counters_bound.1)

pub returns-in_err-demanded-2 : goal.returns-in_err-demanded-2
returns-in_err-demanded-2 c =
    handed_up c.from_residual-in_err-demanded-2.ensures
    ∙ go_on (demand_for _ c.demanded.ensures c.at.ensures) c.in_ok-demanded.was (stop _ (demand_for _ c.demanded-2.ensures c.at-2.ensures) c.in_err-demanded-2.was)
    ∙ move_zero c.args.counters c.args.most c.args.part.now c.args.place c.if-part-ne0.false

pub returns : goal.returns
returns c =
    go_on (demand_for _ c.demanded.ensures c.at.ensures) c.in_ok-demanded.was (go_on (demand_for _ c.demanded-2.ensures c.at-2.ensures) c.in_ok-demanded-2.was c.check_rules-2.ensures)
    ∙ move_zero c.args.counters c.args.most c.args.part.now c.args.place c.if-part-ne0.false
