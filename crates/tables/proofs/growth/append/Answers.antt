use native.Mathlib.Omega.{arith}
use Rattle.sheet_rules.specs.Layout.{counters_of}
use Rattle.sheet_bytes.specs.Three.{config_meant}
use Rattle.table_rules.proofs.Meaning.{covered_few}
use Rattle.table_rules.proofs.Growth.{cells_new, homes_new}
use Rattle.tables.proofs.growth.append.Goals as goal

pub box_at-b-requires : goal.box_at-b-requires
box_at-b-requires c =
    omega (arith, c.region_of-region.ensures, covered_few c.requires.ready (config_meant (counters_of c.args.s.now) c.args.x) c.requires.covered)

pub returns : goal.returns
returns c =
    let V# = counters_of c.args.s.now in
    record {
      cells_after = cells_new V# c.args.s.now c.args.cells.now c.put_values.new.cells c.put_ranges.new.cells c.args.n c.region_of-region.result c.args.x c.box_at-b.result
          c.region_of-region.ensures c.box_at-b.ensures c.put_values.ensures c.put_ranges.ensures;
      homes_after = homes_new V# c.args.s.now c.args.homes.now c.put_home.new.homes c.args.n c.region_of-region.result c.args.x c.region_of-region.ensures c.put_home.ensures;
      row_raised = c.raise_row.ensures;
      begun = c.begin_row.ensures;
      flags_room = omega arith;
      bounds_room = omega arith;
    }
