use mathlib.Core.Path.{sym, subst}
use mir.Syntax.{w64}
use mir.Val.{SFits}
use mir.ValLaws.{to_z-of_z}
use Rattle.integers.specs.Range.{Within}
use Rattle.sheet_bytes.specs.Space.{carry_parts, applied_set, applied_carry, product_fits, carried_fits, three_within, all_three}
use Rattle.std.proofs.Common.{rules}
use Rattle.sheet_bytes.proofs.space.apply.Goals as goal

pub pick-requires : goal.pick-requires
pick-requires c = (carry_parts c.args.rule c.in-Carry.source c.in-Carry.factor c.in-Carry.offset c.in-Carry.is c.requires.rule_safe).source_few

pub overflow_mul-result : goal.overflow_mul-result
overflow_mul-result c =
    let ff : SFits w64 c.in-Carry.factor = search rules in
    let fb : SFits w64 c.in-Carry.offset = search rules in
    let fz : SFits w64 c.pick.result = search rules in
    let q = carry_parts c.args.rule c.in-Carry.source c.in-Carry.factor c.in-Carry.offset c.in-Carry.is c.requires.rule_safe in
    let w = subst (Within 1000000) (sym c.pick.ensures) (three_within c.requires.values_within c.in-Carry.source) in
    simp (to_z-of_z w64) (product_fits c.in-Carry.factor c.in-Carry.offset c.pick.result q.factor_within q.offset_within w)

pub overflow_add-result : goal.overflow_add-result
overflow_add-result c =
    let ff : SFits w64 c.in-Carry.factor = search rules in
    let fb : SFits w64 c.in-Carry.offset = search rules in
    let fz : SFits w64 c.pick.result = search rules in
    let q = carry_parts c.args.rule c.in-Carry.source c.in-Carry.factor c.in-Carry.offset c.in-Carry.is c.requires.rule_safe in
    let w = subst (Within 1000000) (sym c.pick.ensures) (three_within c.requires.values_within c.in-Carry.source) in
    let fp = product_fits c.in-Carry.factor c.in-Carry.offset c.pick.result q.factor_within q.offset_within w in
    simp (to_z-of_z w64) (carried_fits c.in-Carry.factor c.in-Carry.offset c.pick.result q.factor_within q.offset_within w)

pub returns-in-Set : goal.returns-in-Set
returns-in-Set c =
    let fb : SFits w64 c.in-Set.offset = search rules in
    simp (to_z-of_z w64) (applied_set c.args.rule c.in-Set.offset (all_three c.args.old) c.in-Set.is)

pub returns-in-Carry : goal.returns-in-Carry
returns-in-Carry c =
    let ff : SFits w64 c.in-Carry.factor = search rules in
    let fb : SFits w64 c.in-Carry.offset = search rules in
    let fz : SFits w64 c.pick.result = search rules in
    let q = carry_parts c.args.rule c.in-Carry.source c.in-Carry.factor c.in-Carry.offset c.in-Carry.is c.requires.rule_safe in
    let w = subst (Within 1000000) (sym c.pick.ensures) (three_within c.requires.values_within c.in-Carry.source) in
    let fp = product_fits c.in-Carry.factor c.in-Carry.offset c.pick.result q.factor_within q.offset_within w in
    let fc = carried_fits c.in-Carry.factor c.in-Carry.offset c.pick.result q.factor_within q.offset_within w in
    simp (to_z-of_z w64) (applied_carry c.args.rule c.in-Carry.source c.in-Carry.factor c.in-Carry.offset c.pick.result (all_three c.args.old) c.in-Carry.is c.pick.ensures)
