use native.Mathlib.Omega.{arith}
use Rattle.sheet_bytes.specs.Fields.{small, region_read}
use Rattle.sheet_bytes.proofs.sheet.Sheet.region_place.Goals as goal

pub place_by-requires : goal.place_by-requires
place_by-requires c =
    let R = rw c.self.view_is at c.self.invariant.read in
    record { small = small R; i_le_regions = omega (arith, c.requires, R.regions_are) }

pub returns-clause-value : goal.returns-clause-value
returns-clause-value c =
    let R = rw c.self.view_is at c.self.invariant.read in
    region_read R c.args.i c.place_by.result c.place_by.ensures

pub returns-clause-shaped : goal.returns-clause-shaped
returns-clause-shaped c =
    let R = rw c.self.view_is at c.self.invariant.read in
    R.shaped
