use Prim.Native.Nat.{◌+◌, ◌*◌}
use Rattle.sheet_bytes.specs.Fields.{length_rest, rule_within, rule_in}
use native.Mathlib.Omega.{arith}
use mathlib.Core.Path.{sym}
use lib.ListN.{length}
use Rattle.sheet_rules.specs.Decode.{rule_at}
use Rattle.sheet_bytes.specs.Three.{padded_out, zero_rule}
use Rattle.sheet_bytes.proofs.fields.rule_or_zero.Goals as goal

pub slice_bounds-read_rule-count : goal.slice_bounds-read_rule-count
slice_bounds-read_rule-count c = omega (arith, rule_within c.args.counters c.args.v (length c.args.part.now) c.if-v-counters.true c.requires.1)

pub slice_bounds-read_rule-start : goal.slice_bounds-read_rule-start
slice_bounds-read_rule-start c = omega (arith, rule_within c.args.counters c.args.v (length c.args.part.now) c.if-v-counters.true c.requires.1)

pub read_rule-requires : goal.read_rule-requires
read_rule-requires c =
    length_rest (2 + 7 * c.args.v) 7 c.args.part.now (rule_within c.args.counters c.args.v (length c.args.part.now) c.if-v-counters.true c.requires.1)

pub returns-then-v-counters : goal.returns-then-v-counters
returns-then-v-counters c = rule_in c.args.counters c.args.v c.args.part.now c.read_rule.result c.if-v-counters.true c.read_rule.ensures

pub returns-else-v-counters : goal.returns-else-v-counters
returns-else-v-counters c = sym (padded_out zero_rule (rule_at c.args.part.now) c.args.counters c.args.v c.if-v-counters.false)
