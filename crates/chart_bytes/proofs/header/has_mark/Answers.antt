use mathlib.Core.Path.{◌∙◌}
use native.Mathlib.Omega.{arith}
use Rattle.chart_bytes.specs.HeaderLaws.{mark_begins}
use Rattle.chart_bytes.proofs.header.has_mark.Goals as goal

pub returns : goal.returns
returns c = c.starts_with.ensures.value ∙ mark_begins c.args.c.now (omega arith)
