use mathlib.Core.Path.{sym, subst, ◌∙◌}
use Rattle.model.specs.Sheet.{Each}
use Rattle.sheet_bytes.specs.Three.{rules_meant}
use Rattle.depth_bound.specs.Depth.{Tells}
use Rattle.depth_bound.specs.Factors.{UnitRule, first_not, second_not, third_tells}
use Rattle.depth_bound.proofs.factors.unit_rules.Goals.{then-unit_rule, else-unit_rule}
use Rattle.depth_bound.proofs.factors.unit_rules.Goals as goal

pub returns-then-unit_rule-2 : goal.returns-then-unit_rule-2
returns-then-unit_rule-2 c =
    elim c.if-unit_rule.branch [
      | then-unit_rule w ↦ third_tells c.args.rules c.unit_rule.ensures w.if-unit_rule.true w.unit_rule-then-unit_rule.ensures (sym w.value-is ∙ c.if-unit_rule-2.true) c.unit_rule-then-unit_rule-2.ensures
      | else-unit_rule w ↦ cc
    ]

pub returns-else-unit_rule-2 : goal.returns-else-unit_rule-2
returns-else-unit_rule-2 c =
    subst (Tells (Each UnitRule (rules_meant 3 c.args.rules))) (sym c.if-unit_rule-2.false)
    (elim c.if-unit_rule.branch [
      | then-unit_rule w ↦ second_not c.args.rules w.unit_rule-then-unit_rule.ensures (sym w.value-is ∙ c.if-unit_rule-2.false)
      | else-unit_rule w ↦ first_not c.args.rules c.unit_rule.ensures w.if-unit_rule.false
    ])
