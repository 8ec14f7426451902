use mathlib.Core.Path.{◌∙◌, refl}
use Rattle.answer_rules.proofs.Stages.{stop, go_on, handed_up}
use Rattle.reader_rules.specs.Reading.{opening_of}
use Rattle.reader.proofs.steps.opening_of.Goals as goal

pub returns-in_err-check : goal.returns-in_err-check
unfolding opening_of
returns-in_err-check c = handed_up c.from_residual.ensures ∙ stop _ c.check.ensures c.in_err-check.was

pub returns : goal.returns
unfolding opening_of
returns c = go_on c.check.ensures c.in_ok-check.was refl
