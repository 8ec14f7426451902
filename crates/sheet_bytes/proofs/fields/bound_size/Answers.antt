use mathlib.Core.Path.{sym, ◌∙◌}
use Rattle.sheet_rules.proofs.Shape.{size_wide, size_narrow}
use Rattle.sheet_bytes.proofs.fields.bound_size.Goals as goal

pub returns-then-is_wide : goal.returns-then-is_wide
returns-then-is_wide c = size_wide c.args.s.now (sym c.is_wide.ensures ∙ c.if-is_wide.true)

pub returns-else-is_wide : goal.returns-else-is_wide
returns-else-is_wide c = size_narrow c.args.s.now (sym c.is_wide.ensures ∙ c.if-is_wide.false)
