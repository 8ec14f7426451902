use Rattle.answer_rules.proofs.Stages.{demand_for}
use Rattle.sheet_regions.specs.Regions.{start_stage}
use Rattle.sheet_regions.proofs.regions.check_start.Goals as goal

pub returns : goal.returns
returns c = start_stage c.shape.ensures.read c.start-start.ensures.value c.region_of-i.ensures (demand_for _ c.demanded.ensures c.at.ensures)
