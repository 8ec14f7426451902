use native.Mathlib.Omega.{arith}
use mathlib.Core.Path.{refl, sym, subst}
use Rattle.sheet_bytes.specs.Space.{land_three}
use Rattle.sheet_bytes.specs.Three.{shape_is}
use Rattle.table_rules.proofs.Padding.{rules_safe}
use Rattle.sheet_bytes.specs.Three.{shape_is}
use Rattle.table_rules.proofs.Growth.{row_few}
use Rattle.table_passes.specs.State.{actions_few}
use Rattle.table_passes.specs.Steps.{OrTooMany, values_known, next_covered, placed, led_many}
use Rattle.table_passes.proofs.steps.lead.Goals as goal

pub land-x-requires-clause-rules_safe : goal.land-x-requires-clause-rules_safe
land-x-requires-clause-rules_safe c = rules_safe c.requires.open_at.fits

pub land-x-requires-clause-values_within : goal.land-x-requires-clause-values_within
land-x-requires-clause-values_within c =
    let (hi, ha) = c.requires.i_lt_n in
    values_known c.requires.ready c.requires.state c.args.i c.args.a hi ha c.requires.open_at (land_three c.args.m c.config_in.result) c.config_in.result refl c.config_in.ensures

pub row_for-requires-clause-covered : goal.row_for-requires-clause-covered
row_for-requires-clause-covered c =
    let (hi, ha) = c.requires.i_lt_n in
    next_covered c.requires.ready c.requires.state c.args.i c.args.a hi ha c.requires.open_at c.land-x.result c.config_in.result c.land-x.ensures c.config_in.ensures

pub returns-in_err-j : goal.returns-in_err-j
returns-in_err-j c =
    let (hi, ha) = c.requires.i_lt_n in
    subst (OrTooMany c.args.s.now _) (sym c.from_residual.ensures)
    (led_many c.requires.ready c.requires.state c.args.i c.args.a hi ha c.requires.open_at c.land-x.result c.config_in.result c.land-x.ensures c.config_in.ensures c.row_for.ensures c.in_err-j.was)

pub rows_with-rows-requires : goal.rows_with-rows-requires
rows_with-rows-requires c = row_few c.requires.state.working.few c.row_for.ensures c.in_ok-j.was

pub settle-requires-clause-actions_bound : goal.settle-requires-clause-actions_bound
settle-requires-clause-actions_bound c =
    let (hi, ha) = c.requires.i_lt_n in
    let P =
    placed c.requires.ready c.requires.state c.args.i c.args.a hi ha c.requires.open_at c.land-x.result c.config_in.result c.land-x.ensures c.config_in.ensures c.row_for.ensures c.in_ok-j.was (omega (arith, c.requires.state.flags_room))
    (omega (arith, c.requires.state.bounds_room)) c.rows_with-rows.ensures in
    rw (shape_is c.shape.ensures.read) (actions_few c.requires.ready, P.state.working.few, P.own_below, ha, P.below)

pub settle-requires-clause-cuttable : goal.settle-requires-clause-cuttable
settle-requires-clause-cuttable c =
    let (hi, ha) = c.requires.i_lt_n in
    let P =
    placed c.requires.ready c.requires.state c.args.i c.args.a hi ha c.requires.open_at c.land-x.result c.config_in.result c.land-x.ensures c.config_in.ensures c.row_for.ensures c.in_ok-j.was (omega (arith, c.requires.state.flags_room))
    (omega (arith, c.requires.state.bounds_room)) c.rows_with-rows.ensures in
    rw (shape_is c.shape.ensures.read) P.cuttable

pub returns : goal.returns
returns c =
    let (hi, ha) = c.requires.i_lt_n in
    let P =
    placed c.requires.ready c.requires.state c.args.i c.args.a hi ha c.requires.open_at c.land-x.result c.config_in.result c.land-x.ensures c.config_in.ensures c.row_for.ensures c.in_ok-j.was (omega (arith, c.requires.state.flags_room))
    (omega (arith, c.requires.state.bounds_room)) c.rows_with-rows.ensures in
    P.settled c.settle.new.cells c.settle.new.targets c.settle.new.flags c.settle.new.bounds c.settle.ensures.targets_after (omega (arith, c.settle.ensures.bounds_room)) (rw (shape_is c.shape.ensures.read) at c.settle.ensures.settled)
