use Rattle.depth_bound.specs.Widths.{widened_parts}
use Rattle.depth_bound.proofs.widths.widen.Goals as goal

pub returns : goal.returns
returns c = widened_parts c.args.w c.args.b c.wider.ensures c.wider-2.ensures c.wider-3.ensures
