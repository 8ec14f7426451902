use Rattle.sheet_bytes.specs.Fields.{not_two}
use Rattle.writing.specs.BoxBytes.{whole_two, whole_four}
use Rattle.writing.proofs.boxes.whole.Goals as goal

pub returns-then-width-eq2 : goal.returns-then-width-eq2
returns-then-width-eq2 c = whole_two c.args.width c.if-width-eq2.true

pub returns-else-width-eq2 : goal.returns-else-width-eq2
returns-else-width-eq2 c = whole_four c.args.width (not_two c.args.width c.requires c.if-width-eq2.false)
