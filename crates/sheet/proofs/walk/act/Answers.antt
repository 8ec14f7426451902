use mathlib.Core.Path.{sym, subst}
use Rattle.sheet.specs.Walk.{Acts, at_within, rules_safe, acts_barred, acts_open}
use Rattle.sheet.proofs.walk.act.Goals as goal

pub move_at-requires : goal.move_at-requires
move_at-requires c = (c.requires.at.there, c.requires.action_bound)

pub returns-in_err-m : goal.returns-in_err-m
returns-in_err-m c =
    subst (Acts c.args.s.now c.args.from c.args.action) (sym c.from_residual.ensures)
    (acts_barred c.args.s.now c.move_at.ensures.bytes c.requires.s_value c.args.from.config c.args.from.region c.args.action c.requires.at c.requires.action_bound c.move_at.result c.move_at.ensures.value c.in_err-m.was)

pub land-config-requires-clause-rules_safe : goal.land-config-requires-clause-rules_safe
land-config-requires-clause-rules_safe c =
    rules_safe c.args.s.now c.move_at.ensures.bytes c.requires.s_value c.args.from.config c.args.from.region c.args.action c.requires.at c.requires.action_bound c.move_at.result c.move_at.ensures.value c.in_ok-m.was

pub land-config-requires-clause-values_within : goal.land-config-requires-clause-values_within
land-config-requires-clause-values_within c =
    at_within c.args.s.now c.move_at.ensures.bytes c.requires.s_value c.args.from.config c.args.from.region c.requires.at

pub returns : goal.returns
returns c =
    acts_open c.args.s.now c.move_at.ensures.bytes c.requires.s_value c.args.from.config c.args.from.region c.args.action c.requires.at c.requires.action_bound c.move_at.result c.move_at.ensures.value
    c.in_ok-m.was c.land-config.result c.region_of-region.result c.land-config.ensures
    c.region_of-region.ensures
