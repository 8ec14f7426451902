use Rattle.answer_rules.specs.declared.Reason.TheVariants.{Overlap}
use Rattle.answer_rules.proofs.Stages.{demand_for}
use Rattle.sheet_rules.specs.Check.{check_overlap}
use Rattle.sheet_regions.specs.Regions.{seen_stage}
use Rattle.sheet_regions.proofs.regions.check_overlap.Goals as goal

pub returns : goal.returns
unfolding check_overlap
returns c = seen_stage Overlap (demand_for _ c.demanded.ensures c.at.ensures) c.region_seen-seen.ensures c.region_place.ensures.value
