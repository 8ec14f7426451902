use Rattle.std.proofs.Common.{◌+◌, ◌*◌, sym, ◌∙◌, length}
use Rattle.answer_rules.proofs.Stages.{handed_up}
use Rattle.sheet_rules.specs.Layout.{bound_size}
use Rattle.sheet_rules.specs.Decode.{decode}
use Rattle.sheet_bytes.specs.Three.{shape_of, shape_is}
use Rattle.sheet_bytes.specs.Fields.{small}
use Rattle.making_rules.proofs.Making.{makes_refused, makes_done, makes_answer, rooms_fit}
use Rattle.charting.specs.Tabled.{rooms_checked, table_blocks}
use Rattle.charting.proofs.make_blocks.Goals as goal

pub check_rooms-requires : goal.check_rooms-requires
check_rooms-requires c = (small c.shape.ensures.read, c.requires.table.completed.few)

pub returns-in_err-check_rooms : goal.returns-in_err-check_rooms
returns-in_err-check_rooms c =
    let chart = c.args.chart.now in
    let list = c.args.list.now in
    makes_answer (handed_up c.from_residual.ensures)
    (makes_refused (bound_size c.args.s.now) (decode c.args.s.now) chart list
    (sym c.in_err-check_rooms.was ∙ (rw (shape_is c.shape.ensures.read) at c.check_rooms.ensures) ∙ rooms_checked c.requires.ready c.requires.table (length chart) (length list)))

pub write_both-requires-clause-actions_in_bounds : goal.write_both-requires-clause-actions_in_bounds
write_both-requires-clause-actions_in_bounds c =
    let n = c.args.n in
    let shape = shape_of c.args.s.now in
    (rooms_fit (7 + n * (2 + shape.actions)) (n * (1 + 2 * shape.width * shape.counters)) (length c.args.chart.now) (length c.args.list.now)
    (sym (rw (shape_is c.shape.ensures.read) at c.check_rooms.ensures) ∙ c.in_ok-check_rooms.was)).0

pub write_both-requires-clause-counters_in_bounds : goal.write_both-requires-clause-counters_in_bounds
write_both-requires-clause-counters_in_bounds c =
    let n = c.args.n in
    let shape = shape_of c.args.s.now in
    (rooms_fit (7 + n * (2 + shape.actions)) (n * (1 + 2 * shape.width * shape.counters)) (length c.args.chart.now) (length c.args.list.now)
    (sym (rw (shape_is c.shape.ensures.read) at c.check_rooms.ensures) ∙ c.in_ok-check_rooms.was)).1

pub returns : goal.returns
returns c =
    let R = c.requires.ready in
    let D = c.requires.table in
    let chart = c.args.chart.now in
    let list = c.args.list.now in
    makes_done (bound_size c.args.s.now) (decode c.args.s.now) c.args.n chart c.write_both.new.chart list c.write_both.new.list
    (sym c.in_ok-check_rooms.was ∙ (rw (shape_is c.shape.ensures.read) at c.check_rooms.ensures) ∙ rooms_checked R D (length chart) (length list)) (table_blocks R D) c.write_both.ensures.chart_after c.write_both.ensures.list_after
