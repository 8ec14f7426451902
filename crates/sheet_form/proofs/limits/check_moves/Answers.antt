use mathlib.Core.Path.{◌∙◌}
use native.Mathlib.Omega.{arith}
use Rattle.answer_rules.proofs.Stages.{each_none, loop_stop, loop_more, loop_end, handed_up}
use Rattle.sheet_rules.specs.Layout.{actions_of}
use Rattle.sheet_bytes.specs.Fields.{counters_limit, part_whole, move_within, sheet_short}
use Rattle.sheet_form.specs.Limits.{check_moves, move_checked, move_checked_lem}
use Rattle.sheet_form.proofs.limits.check_moves.Goals as goal

pub loop-a-init : goal.loop-a-init
loop-a-init c = each_none (move_checked c.args.s.now c.args.i)

pub move_place-place-requires : goal.move_place-place-requires
move_place-place-requires c = (c.requires, omega (arith, c.loop-a-test.true, c.shape-shape.ensures.read.actions_are))

pub move_part-requires : goal.move_part-requires
move_part-requires c = (c.requires, omega (arith, c.loop-a-test.true, c.shape-shape.ensures.read.actions_are))

pub check_move-requires-clause-counters_bound : goal.check_move-requires-clause-counters_bound
check_move-requires-clause-counters_bound c =
    let R = c.shape-shape.ensures.read in
    (counters_limit R, part_whole R c.move_part.ensures.whole)

pub check_move-requires-clause-place_bound : goal.check_move-requires-clause-place_bound
check_move-requires-clause-place_bound c =
    omega (arith, move_within c.shape-shape.ensures.read c.args.i c.loop-a.a c.move_place-place.result c.requires (omega (arith, c.loop-a-test.true, c.shape-shape.ensures.read.actions_are)) c.move_place-place.ensures.value, sheet_short c.shape-shape.ensures.read)

pub returns-in_err-check_move : goal.returns-in_err-check_move
unfolding check_moves
returns-in_err-check_move c =
    handed_up c.from_residual.ensures
    ∙ loop_stop (move_checked c.args.s.now c.args.i) c.loop-a.a (actions_of c.args.s.now) c.loop-a.invariant (move_checked_lem c.shape-shape.ensures.read c.args.i c.loop-a.a c.move_place-place.ensures.value c.offset_limit-most.ensures c.move_part.ensures.part c.check_move.ensures) c.in_err-check_move.was (omega (arith, c.shape-shape.ensures.read.actions_are))

pub loop-a-preserved : goal.loop-a-preserved
loop-a-preserved c =
    loop_more (move_checked c.args.s.now c.args.i) c.loop-a.a c.loop-a.invariant (move_checked_lem c.shape-shape.ensures.read c.args.i c.loop-a.a c.move_place-place.ensures.value c.offset_limit-most.ensures c.move_part.ensures.part c.check_move.ensures) c.in_ok-check_move.was

pub returns : goal.returns
unfolding check_moves
returns c =
    loop_end (move_checked c.args.s.now c.args.i) c.loop-a.a (actions_of c.args.s.now) c.loop-a.invariant (omega (arith, c.shape-shape.ensures.read.actions_are)) (omega (arith, c.shape-shape.ensures.read.actions_are))
