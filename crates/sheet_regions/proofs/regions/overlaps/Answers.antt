use Rattle.std.proofs.Common.{◌∙◌, ne_eqb}
use Rattle.sheet_regions.specs.Regions.{overlap_same, overlap_other}
use Rattle.sheet_regions.proofs.regions.overlaps.Goals as goal

pub returns-then-state_at : goal.returns-then-state_at
returns-then-state_at c =
    overlap_same c.args.s.now c.args.i c.args.j c.state_at.result c.state_at-2.result c.state_at.ensures c.state_at-2.ensures c.if-state_at.true c.ranges_meet.ensures

pub returns-else-state_at : goal.returns-else-state_at
returns-else-state_at c =
    ne_eqb c.state_at.result c.state_at-2.result c.if-state_at.false
    ∙ overlap_other c.args.s.now c.args.i c.args.j c.state_at.result c.state_at-2.result c.state_at.ensures c.state_at-2.ensures c.if-state_at.false
