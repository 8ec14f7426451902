use Rattle.answer_rules.proofs.Stages.{demand_passed, demand_failed}
use Rattle.answers.proofs.demanded.Goals as goal

pub returns-then-test : goal.returns-then-test
returns-then-test g c = demand_passed c.args.test c.args.error c.if-test.true

pub returns-else-test : goal.returns-else-test
returns-else-test g c = demand_failed c.args.test c.args.error c.if-test.false
