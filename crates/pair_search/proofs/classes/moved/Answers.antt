use Rattle.pair_search.specs.Classes.{merged_moved, merged_stays}
use Rattle.pair_search.proofs.classes.moved.Goals as goal

pub returns-then-class-from : goal.returns-then-class-from
returns-then-class-from c = merged_moved c.args.from c.args.to c.args.class c.if-class-from.true

pub returns-else-class-from : goal.returns-else-class-from
returns-else-class-from c = merged_stays c.args.from c.args.to c.args.class c.if-class-from.false
