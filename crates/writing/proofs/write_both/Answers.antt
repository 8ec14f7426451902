use native.Mathlib.Omega.{arith}
use Prim.Native.Nat.{ℕ}
use mathlib.Core.Path.{ap, ◌∙◌}
use mathlib.Core.List.{List}
use lib.ListN.{get_or-replicate}
use Rattle.answer_rules.specs.Run.{overwrite}
use Rattle.sheet_bytes.specs.Three.{shape_is}
use Rattle.sheet_bytes.specs.Fields.{width_right}
use Rattle.table_passes.specs.State.{counters_few}
use Rattle.writing.specs.Written.{table_walkable, table_placed, table_bounded, table_chart_lem, table_boxes_lem}
use Rattle.writing.proofs.write_both.Goals as goal

pub number_rows-requires : goal.number_rows-requires
number_rows-requires c =
    let R = c.requires.ready in
    let D = c.requires.table in
    rw (shape_is c.shape-shape.ensures.read) (record {
      unnumbered = λ k h. get_or-replicate 256 k 255 0 (omega arith);
      walkable = table_walkable R D;
    })

pub write_chart-requires : goal.write_chart-requires
write_chart-requires c =
    let R = c.requires.ready in
    let D = c.requires.table in
    let order = c.number_rows.new.order in
    let number = c.number_rows.new.number in
    let N = rw (shape_is c.shape-shape.ensures.read) at c.number_rows.ensures in
    record {
      n_bound = (D.completed.few, table_placed R D order number N);
      actions_in_bounds = c.requires.actions_in_bounds;
    }

pub write_boxes-requires : goal.write_boxes-requires
write_boxes-requires c =
    let R = c.requires.ready in
    let D = c.requires.table in
    let order = c.number_rows.new.order in
    let number = c.number_rows.new.number in
    let N = rw (shape_is c.shape-shape.ensures.read) at c.number_rows.ensures in
    rw (shape_is c.shape-shape.ensures.read) (record {
      two_or_four = (width_right R.read, counters_few R, D.completed.few);
      all_bounded = table_bounded R D order number N c.shape-shape.ensures.bytes;
      counters_in_bounds = c.requires.counters_in_bounds;
    })

pub returns : goal.returns
returns c =
    let R = c.requires.ready in
    let D = c.requires.table in
    let order = c.number_rows.new.order in
    let number = c.number_rows.new.number in
    let N = rw (shape_is c.shape-shape.ensures.read) at c.number_rows.ensures in
    record {
      chart_after = c.write_chart.ensures ∙ ap (λ (l : List ℕ). overwrite l c.args.chart.now) (table_chart_lem R D order number N);
      list_after = (rw (shape_is c.shape-shape.ensures.read) at c.write_boxes.ensures) ∙ ap (λ (l : List ℕ). overwrite l c.args.list.now) (table_boxes_lem R D order number N);
    }
