use Rattle.sheet_bytes.specs.Fields.{box_made}
use Rattle.sheet_bytes.proofs.sheet.Sheet.box_at.Goals as goal

pub returns : goal.returns
returns c =
    box_made c.args.self.now c.args.i c.state_at-state.ensures c.range_or_zero.ensures c.range_or_zero-2.ensures c.range_or_zero-3.ensures
