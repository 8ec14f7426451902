use mathlib.Core.Path.{ap, ◌∙◌}
use Rattle.answer_rules.specs.Refusal.{at}
use Rattle.separating_sequence.specs.Machine.{raised_most}
use Rattle.separating_sequence.proofs.raised.Goals as goal

pub returns : goal.returns
returns c =
    let s = c.args in
    c.at.ensures ∙ ap (at s.refusal.reason) (c.saturating_add.ensures ∙ raised_most s.refusal.returned s.by)
