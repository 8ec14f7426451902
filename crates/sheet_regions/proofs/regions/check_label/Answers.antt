use Rattle.answer_rules.specs.declared.Reason.TheVariants.{Label}
use Rattle.answer_rules.proofs.Stages.{demand_for}
use Rattle.sheet_rules.specs.Check.{check_label}
use Rattle.sheet_regions.specs.Regions.{seen_stage}
use Rattle.sheet_regions.proofs.regions.check_label.Goals as goal

pub returns : goal.returns
unfolding check_label
returns c = seen_stage Label (demand_for _ c.demanded.ensures c.at.ensures) c.label_seen-seen.ensures c.region_place.ensures.value
