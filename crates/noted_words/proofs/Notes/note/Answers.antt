use Rattle.std.proofs.Common.{ap}
use Rattle.noted_words.specs.Tree.{noting}
use Rattle.noted_words.proofs.Notes.note.Goals as goal

pub returns-clause-noted : goal.returns-clause-noted
returns-clause-noted g c = ap (noting c.args.k c.args.parent c.args.action) c.self.view_is
