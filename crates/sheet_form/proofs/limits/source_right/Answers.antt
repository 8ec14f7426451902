use Rattle.sheet_form.specs.Limits.{source_set, source_carry}
use Rattle.sheet_form.proofs.limits.source_right.Goals as goal

pub returns-then-part-eq0 : goal.returns-then-part-eq0
returns-then-part-eq0 c = source_set c.args.counters c.args.part.now c.if-part-eq0.true

pub returns-else-part-eq0 : goal.returns-else-part-eq0
returns-else-part-eq0 c = source_carry c.args.counters c.args.part.now c.if-part-eq0.false
