use Rattle.sheet_bytes.specs.Cuts.{cuts_made}
use Rattle.sheet_bytes.proofs.cutting.cut_by_all.Goals as goal

pub returns : goal.returns
returns c = cuts_made c.args.rules c.args.wanted c.args.b c.cut_by-one.ensures c.cut_by-two.ensures c.cut_by.ensures
