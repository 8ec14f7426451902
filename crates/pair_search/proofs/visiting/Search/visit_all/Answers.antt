use native.Mathlib.Omega.{arith}
use Rattle.pair_search.specs.Progress.{entry_fits, still_queued, finds_over, finds_none}
use Rattle.pair_search.proofs.visiting.Search.visit_all.Goals as goal

pub loop-head-init : goal.loop-head-init
loop-head-init c = (omega arith, c.requires.queue)

pub visit_pair-requires : goal.visit_pair-requires
visit_pair-requires c =
    let l = c.loop-head in
    record { comparable = c.requires.comparable; head_lt_size = omega arith; queue = l.invariant.1 }

pub returns-in-Break : goal.returns-in-Break
returns-in-Break c = finds_over c.visit_pair.ensures c.in-Break.is

pub overflow_add-head : goal.overflow_add-head
overflow_add-head c =
    let l = c.loop-head in
    omega (arith, entry_fits c.requires.comparable l.invariant.1)

pub loop-head-smaller : goal.loop-head-smaller
loop-head-smaller c =
    let l = c.loop-head in
    omega (arith, entry_fits c.requires.comparable l.invariant.1)

pub loop-head-preserved : goal.loop-head-preserved
loop-head-preserved c =
    let l = c.loop-head in
    let (grown, Q) = still_queued c.visit_pair.ensures c.in-Continue.is in
    (omega arith, Q)

pub returns : goal.returns
returns c =
    let l = c.loop-head in
    finds_none c.requires.comparable l.invariant.1 (omega arith)
