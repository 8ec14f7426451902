use Rattle.table_passes.specs.State.{region_few, open_at}
use Rattle.table_passes.specs.Steps.{quiet_step, barred_step}
use Rattle.table_passes.proofs.steps.step.Goals as goal

pub returns-then-table-a-eq0 : goal.returns-then-table-a-eq0
returns-then-table-a-eq0 c =
    let (hi, ha) = c.requires.i_lt_n in
    quiet_step c.requires.ready c.args.i c.args.a c.requires.state hi ha c.if-table-a-eq0.true

pub move_in-requires-clause-i_bound_2 : goal.move_in-requires-clause-i_bound_2
move_in-requires-clause-i_bound_2 c =
    let (hi, ha) = c.requires.i_lt_n in
    region_few c.requires.ready c.requires.state c.args.i hi

pub returns-in_default : goal.returns-in_default
returns-in_default c =
    let (hi, ha) = c.requires.i_lt_n in
    barred_step c.requires.ready c.args.i c.args.a c.requires.state hi ha c.move_in.ensures c.in_default.is

pub lead-requires-clause-open_at : goal.lead-requires-clause-open_at
lead-requires-clause-open_at c =
    let (hi, ha) = c.requires.i_lt_n in
    open_at c.requires.ready c.requires.state c.args.i c.args.a hi ha c.move_in.ensures c.in-Some.is
