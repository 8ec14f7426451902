use native.Mathlib.Omega.{arith}
use Rattle.pair_search.specs.Progress.{over_later, still_queued, pair_done}
use Rattle.pair_search.proofs.visiting.Search.visit_pair.Goals as goal

pub loop-a-init : goal.loop-a-init
loop-a-init c = (omega arith, omega arith, c.requires.queue)

pub visit-requires : goal.visit-requires
visit-requires c =
    let l = c.loop-a in
    record {
      comparable = c.requires.comparable;
      head_lt_size = (omega (arith, l.invariant.1, c.requires.head_lt_size), omega (arith, c.actions-a-end.ensures));
      queue = l.invariant.2;
    }

pub returns-in_err-queued : goal.returns-in_err-queued
returns-in_err-queued c = rw c.from_residual.ensures (over_later c.visit.ensures c.in_err-queued.was)

pub overflow_step-a : goal.overflow_step-a
overflow_step-a c = omega arith

pub loop-a-smaller : goal.loop-a-smaller
loop-a-smaller c = omega arith

pub loop-a-preserved : goal.loop-a-preserved
loop-a-preserved c =
    let l = c.loop-a in
    let (grown, Q) = still_queued c.visit.ensures c.in_ok-queued.was in
    (omega arith, omega (arith, l.invariant.1), Q)

pub returns : goal.returns
returns c =
    let l = c.loop-a in
    pair_done l.invariant.1 (omega (arith, c.actions-a-end.ensures)) l.invariant.2
