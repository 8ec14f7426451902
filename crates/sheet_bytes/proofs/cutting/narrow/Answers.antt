use native.Mathlib.Omega.{arith}
use Rattle.sheet_bytes.specs.Cuts.{narrow_first, narrow_second, narrow_third}
use Rattle.sheet_bytes.proofs.cutting.narrow.Goals as goal

pub returns-in-0 : goal.returns-in-0
returns-in-0 c = narrow_first c.args.source c.args.q c.args.b c.common.result c.in-0.is c.common.ensures

pub returns-in-1 : goal.returns-in-1
returns-in-1 c = narrow_second c.args.source c.args.q c.args.b c.common-in-1.result c.in-1.is c.common-in-1.ensures

pub returns-in_default : goal.returns-in_default
returns-in_default c = narrow_third c.args.source c.args.q c.args.b c.common-in_default.result (λ e. omega arith) (λ e. omega arith) c.common-in_default.ensures
