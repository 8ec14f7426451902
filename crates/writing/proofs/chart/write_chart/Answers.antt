use native.Mathlib.Omega.{arith}
use Rattle.sheet_rules.specs.Layout.{actions_of}
use Rattle.sheet_bytes.specs.Fields.{actions_limit}
use Rattle.writing.specs.ChartBytes.{chart_stored}
use Rattle.writing.proofs.chart.write_chart.Goals as goal

pub put_header-requires : goal.put_header-requires
put_header-requires c =
    let limit = actions_limit c.shape-shape.ensures.read in
    record { in_bounds = omega arith; actions_bound = (omega arith, omega arith) }

pub put_records-requires : goal.put_records-requires
put_records-requires c =
    let limit = actions_limit c.shape-shape.ensures.read in
    record {
      n_bound = c.requires.n_bound;
      actions_in_bounds = omega arith;
    }

pub shape_of-out : goal.shape_of-out
shape_of-out c = omega arith

pub returns : goal.returns
returns c =
    chart_stored c.args.s.now c.args.homes.now c.args.targets.now c.args.order.now c.args.number.now c.args.out.now c.put_header.new.out
    c.put_records.new.out (actions_of c.args.s.now) c.args.n c.requires.actions_in_bounds (rw c.shape-shape.ensures.read.actions_are at c.put_header.ensures) c.put_records.ensures
