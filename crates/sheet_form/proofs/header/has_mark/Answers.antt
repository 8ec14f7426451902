use Rattle.std.proofs.Common.{◌∙◌}
use Rattle.sheet_form.specs.Header.{marked}
use Rattle.sheet_form.proofs.header.has_mark.Goals as goal

pub returns : goal.returns
returns c = c.starts_with.ensures.value ∙ marked c.args.s.now
