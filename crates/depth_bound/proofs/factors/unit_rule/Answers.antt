use mathlib.Core.Path.{sym, subst}
use mir.Syntax.{w64}
use mir.Val.{SFits}
use Rattle.depth_bound.specs.Depth.{Tells}
use Rattle.depth_bound.specs.Factors.{UnitRule, set_unit, one_unit, minus_tells}
use Rattle.std.proofs.Common.{rules, eq-eqb}
use Rattle.depth_bound.proofs.factors.unit_rule.Goals as goal

pub returns-in-Set : goal.returns-in-Set
returns-in-Set c = set_unit c.in-Set.is

pub returns-then-factor-eq1 : goal.returns-then-factor-eq1
returns-then-factor-eq1 c =
    let F : SFits w64 c.in-Carry.factor = search rules in
    subst (Tells (UnitRule c.args.rule)) (sym (eq-eqb _ _ c.if-factor-eq1.true)) (one_unit c.in-Carry.is F c.if-factor-eq1.true)

pub returns-else-factor-eq1 : goal.returns-else-factor-eq1
returns-else-factor-eq1 c =
    let F : SFits w64 c.in-Carry.factor = search rules in
    minus_tells c.in-Carry.is F c.if-factor-eq1.false
