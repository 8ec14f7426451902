use Rattle.table_rules.specs.Meaning.{move_in}
use Rattle.table_rows.proofs.search.move_in.Goals as goal

pub move_at-requires : goal.move_at-requires
move_at-requires c = (c.requires.i_bound_2, c.requires.i_bound.1)

pub returns : goal.returns
unfolding move_in
returns c = c.move_at.ensures.value
