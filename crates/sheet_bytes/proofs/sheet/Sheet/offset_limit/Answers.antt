use mathlib.Core.Path.{sym, ◌∙◌}
use Rattle.sheet_rules.proofs.Shape.{limit_wide, limit_narrow}
use Rattle.sheet_bytes.specs.Fields.{header_within}
use Rattle.sheet_bytes.proofs.sheet.Sheet.offset_limit.Goals as goal

pub is_wide-requires : goal.is_wide-requires
is_wide-requires c = header_within c.self.invariant.read

pub returns-then-is_wide : goal.returns-then-is_wide
returns-then-is_wide c = limit_wide c.args.self.now (rw c.self.view_is at (sym c.is_wide.ensures ∙ c.if-is_wide.true))

pub returns-else-is_wide : goal.returns-else-is_wide
returns-else-is_wide c = limit_narrow c.args.self.now (rw c.self.view_is at (sym c.is_wide.ensures ∙ c.if-is_wide.false))
