use native.Mathlib.Omega.{arith}
use Rattle.std.proofs.Common.{◌∙◌, ◌+◌, ◌*◌}
use Rattle.answer_rules.proofs.Stages.{stop, go_on, handed_up, demand_for}
use Rattle.sheet_bytes.specs.Fields.{pairs_small}
use Rattle.writing.specs.Stored.{rows_small}
use Rattle.making_rules.specs.Making.{rooms_for}
use Rattle.charting.proofs.check_rooms.Goals as goal

pub overflow_add-needed : goal.overflow_add-needed
overflow_add-needed c = omega (arith, c.requires.0.actions_small)

pub overflow_mul-needed : goal.overflow_mul-needed
overflow_mul-needed c =
    let a = c.args in
    omega (arith, rows_small a.n (2 + a.shape.actions) c.requires.1 (omega (arith, c.requires.0.actions_small)))

pub overflow_add-needed-2 : goal.overflow_add-needed-2
overflow_add-needed-2 c =
    let a = c.args in
    omega (arith, rows_small a.n (2 + a.shape.actions) c.requires.1 (omega (arith, c.requires.0.actions_small)))

pub overflow_mul-needed-2 : goal.overflow_mul-needed-2
overflow_mul-needed-2 c = omega (arith, c.requires.0.width_small)

pub overflow_mul-needed-3 : goal.overflow_mul-needed-3
overflow_mul-needed-3 c = omega (arith, pairs_small c.requires.0)

pub overflow_add-needed-3 : goal.overflow_add-needed-3
overflow_add-needed-3 c = omega (arith, pairs_small c.requires.0)

pub overflow_mul-needed-4 : goal.overflow_mul-needed-4
overflow_mul-needed-4 c =
    let a = c.args in
    omega (arith, rows_small a.n (1 + 2 * a.shape.width * a.shape.counters) c.requires.1 (omega (arith, pairs_small c.requires.0)))

pub returns-in_err-demanded : goal.returns-in_err-demanded
unfolding rooms_for
returns-in_err-demanded c =
    handed_up c.from_residual.ensures
    ∙ stop _ (demand_for _ c.demanded.ensures c.at.ensures) c.in_err-demanded.was

pub returns : goal.returns
unfolding rooms_for
returns c =
    go_on (demand_for _ c.demanded.ensures c.at.ensures) c.in_ok-demanded.was
    (demand_for _ c.demanded-2.ensures c.at-2.ensures)
