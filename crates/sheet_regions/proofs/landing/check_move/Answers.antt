use Rattle.std.proofs.Common.{ap}
use Rattle.answer_rules.specs.declared.Reason.TheVariants.{Landing}
use Rattle.answer_rules.specs.Refusal.{at}
use Rattle.answer_rules.proofs.Stages.{demand_for, demand_by}
use Rattle.sheet_rules.specs.Check.{check_landing}
use Rattle.sheet_rules.specs.Layout.{move_place}
use Rattle.sheet_regions.proofs.landing.check_move.Goals as goal

pub returns : goal.returns
unfolding check_landing
returns c =
    demand_by (at Landing (move_place c.args.s.now c.args.i c.args.a)) (demand_for _ (demand_for _ c.demanded.ensures c.at.ensures) (ap (at Landing) c.move_place.ensures.value)) c.lands_all-lands.ensures
