use Rattle.depth_bound.specs.Factors.{barred_tells, open_tells}
use Rattle.depth_bound.proofs.factors.unit_move.Goals as goal

pub returns-in-None : goal.returns-in-None
returns-in-None c = barred_tells c.in-None.is

pub returns-in-Some : goal.returns-in-Some
returns-in-Some c = open_tells c.in-Some.is c.unit_rules.ensures
