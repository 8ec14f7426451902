use Rattle.answer_rules.proofs.Stages.{demand_for}
use Rattle.sheet_form.specs.Header.{length_read, shape_small}
use Rattle.sheet_form.proofs.header.check_length.Goals as goal

pub place_by-given-requires-clause-small : goal.place_by-given-requires-clause-small
place_by-given-requires-clause-small c = shape_small c.args.s.now c.shape_of-shape.ensures c.requires.s_bound

pub returns : goal.returns
returns c = length_read c.args.s.now c.place_by-given.result c.shape_of-shape.ensures c.place_by-given.ensures (demand_for _ c.demanded.ensures c.at.ensures)
