use Rattle.std.proofs.Common.{sym, ap, ◌∙◌}
use Rattle.sheet.specs.Walk.{entry_by}
use Rattle.sheet.proofs.walk.entry.Goals as goal

pub returns-in-Some : goal.returns-in-Some
unfolding entry_by
returns-in-Some c = c.label_at.ensures ∙ sym (ap (entry_by c.args.s.now) c.in-Some.is)

pub returns-in-None : goal.returns-in-None
unfolding entry_by
returns-in-None c = sym (ap (entry_by c.args.s.now) c.in-None.is)
