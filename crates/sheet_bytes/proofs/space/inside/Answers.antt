use Rattle.std.proofs.Common.{◌∙◌, ne_eqb}
use Rattle.sheet_bytes.specs.Space.{state_out, state_in}
use Rattle.sheet_bytes.proofs.space.inside.Goals as goal

pub returns-then-b-x : goal.returns-then-b-x
returns-then-b-x c = state_in c.args.counters c.args.b c.args.x c.within_ranges.result c.if-b-x.true c.within_ranges.ensures

pub returns-else-b-x : goal.returns-else-b-x
returns-else-b-x c = ne_eqb c.args.b.state c.args.x.state c.if-b-x.false ∙ state_out c.args.counters c.args.b c.args.x c.if-b-x.false
