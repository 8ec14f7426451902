use Rattle.std.specs.Prelude.{List, ℕ, Option, Result}
use Rattle.std.proofs.Common.{ap, ◌∙◌}
use Rattle.answer_rules.specs.declared.Refusal.{Refusal}
use Rattle.congruence_rules.specs.Congruence.{counts_after}
use Rattle.congruence_rules.proofs.Answered.{counts_by_answer}
use Rattle.pilfstera.proofs.pilfstera_go_round.Goals as goal

pub returns-clause-counts_after : goal.returns-clause-counts_after
returns-clause-counts_after c =
    let s = c.args in
    c.told_solved.ensures.counts_after
    ∙ ap (λ (r : Result (Option (List ℕ)) Refusal). counts_after r s.counts.now) c.solve-solved.ensures
    ∙ counts_by_answer s.modulus s.start s.wanted s.increments.now s.counts.now
