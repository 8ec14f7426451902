use Rattle.std.proofs.Common.{◌∙◌, ap}
use Rattle.std.specs.Option.{option_or}
use Rattle.answer_rules.proofs.Walk.{noted_or}
use Rattle.answers.proofs.noted.Goals as goal

pub returns : goal.returns
returns c =
    let s = c.args in
    c.or.ensures ∙ ap (option_or s.first) c.then_some.ensures ∙ noted_or s.first s.index s.barred
