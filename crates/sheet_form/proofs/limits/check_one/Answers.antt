use mathlib.Core.Path.{◌∙◌, ap}
use mathlib.Core.List.{List}
use Prim.Native.Nat.{ℕ, ◌+◌, ◌*◌}
use native.Mathlib.Omega.{arith}
use lib.ListN.{length}
use Rattle.sheet_rules.specs.Layout.{rule_place}
use Rattle.sheet_bytes.specs.Fields.{rule_within, move_some, rest, length_rest}
use Rattle.sheet_rules.specs.Form.{check_rule, check_zero_rule}
use Rattle.sheet_form.specs.Limits.{one_zero, one_open}
use Rattle.sheet_form.proofs.limits.check_one.Goals as goal

pub bounds-part-0 : goal.bounds-part-0
bounds-part-0 c = omega (arith, move_some c.args.counters (length c.args.part.now) c.requires.counters_bound.1)

pub slice_bounds-check_zero_rule-count : goal.slice_bounds-check_zero_rule-count
slice_bounds-check_zero_rule-count c = omega (arith, rule_within c.args.counters c.args.v (length c.args.part.now) c.requires.place_bound.1 c.requires.counters_bound.1)

pub slice_bounds-check_zero_rule-start : goal.slice_bounds-check_zero_rule-start
slice_bounds-check_zero_rule-start c = omega (arith, rule_within c.args.counters c.args.v (length c.args.part.now) c.requires.place_bound.1 c.requires.counters_bound.1)

pub check_zero_rule-requires : goal.check_zero_rule-requires
check_zero_rule-requires c =
    record {
      in_bounds = length_rest (2 + 7 * c.args.v) 7 c.args.part.now (rule_within c.args.counters c.args.v (length c.args.part.now) c.requires.place_bound.1 c.requires.counters_bound.1);
      place_bound = omega (arith, c.requires.counters_bound.0, c.requires.place_bound.0, c.requires.place_bound.1);
    }

pub returns-then-part-eq0 : goal.returns-then-part-eq0
unfolding rule_place
returns-then-part-eq0 c =
    let rule = 2 + 7 * c.args.v in
    c.check_zero_rule.ensures
    ∙ ap (λ (l : List ℕ). check_zero_rule l (c.args.place + rule)) (rest rule c.args.part.now)
    ∙ one_zero c.args.counters c.args.most c.args.part.now c.args.place c.args.v c.if-part-eq0.true

pub slice_bounds-check_rule-count : goal.slice_bounds-check_rule-count
slice_bounds-check_rule-count c = omega (arith, rule_within c.args.counters c.args.v (length c.args.part.now) c.requires.place_bound.1 c.requires.counters_bound.1)

pub slice_bounds-check_rule-start : goal.slice_bounds-check_rule-start
slice_bounds-check_rule-start c = omega (arith, rule_within c.args.counters c.args.v (length c.args.part.now) c.requires.place_bound.1 c.requires.counters_bound.1)

pub check_rule-requires : goal.check_rule-requires
check_rule-requires c =
    record {
      in_bounds = length_rest (2 + 7 * c.args.v) 7 c.args.part.now (rule_within c.args.counters c.args.v (length c.args.part.now) c.requires.place_bound.1 c.requires.counters_bound.1);
      place_bound = omega (arith, c.requires.counters_bound.0, c.requires.place_bound.0, c.requires.place_bound.1);
    }

pub returns-else-part-eq0 : goal.returns-else-part-eq0
unfolding rule_place
returns-else-part-eq0 c =
    let rule = 2 + 7 * c.args.v in
    c.check_rule.ensures
    ∙ ap (λ (l : List ℕ). check_rule c.args.counters c.args.most l (c.args.place + rule)) (rest rule c.args.part.now)
    ∙ one_open c.args.counters c.args.most c.args.part.now c.args.place c.args.v c.if-part-eq0.false
