use Rattle.std.proofs.Common.{length, subst, sym}
use Rattle.std.specs.Prelude.{ℕ, Result}
use Rattle.answer_rules.specs.declared.Refusal.{Refusal}
use Rattle.answer_rules.proofs.Stages.{handed_up}
use Rattle.model.specs.Chart.{blocks_of}
use Rattle.access_rules.specs.Machine.{Accesses}
use Rattle.access_rules.proofs.Machine.{request_by, request_passed, accesses_done, accesses_refused}
use Rattle.access_sequence.proofs.find_on_chart.Goals as goal

pub returns-in_err-check_request : goal.returns-in_err-check_request
returns-in_err-check_request c =
    let old = c.args.actions.now in
    subst (λ (r : Result ℕ Refusal). Accesses c.args.c.now c.args.block r old old) (sym (handed_up c.from_residual.ensures))
    (accesses_refused c.args.c.now c.args.block old (request_by c.args.c.now c.args.block (length c.args.actions.now) c.blocks-2.ensures.value c.check_request.ensures) c.in_err-check_request.was)

pub write_first_word-requires-clause-k_bound : goal.write_first_word-requires-clause-k_bound
write_first_word-requires-clause-k_bound c =
    (request_passed (blocks_of c.args.c.now) c.args.block (length c.args.actions.now) (request_by c.args.c.now c.args.block (length c.args.actions.now) c.blocks-2.ensures.value c.check_request.ensures) c.in_ok-check_request.was).0

pub write_first_word-requires-clause-c_in_bounds : goal.write_first_word-requires-clause-c_in_bounds
write_first_word-requires-clause-c_in_bounds c =
    (request_passed (blocks_of c.args.c.now) c.args.block (length c.args.actions.now) (request_by c.args.c.now c.args.block (length c.args.actions.now) c.blocks-2.ensures.value c.check_request.ensures) c.in_ok-check_request.was).1

pub returns : goal.returns
returns c =
    let L = c.write_first_word.ensures in
    accesses_done c.args.c.now c.args.block c.write_first_word.result L.word c.args.actions.now c.write_first_word.new.out
    (request_by c.args.c.now c.args.block (length c.args.actions.now) c.blocks-2.ensures.value c.check_request.ensures)
    c.in_ok-check_request.was L.along L.length_is L.left
