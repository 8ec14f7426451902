use native.Mathlib.Omega.{arith}
use lib.ListN.{set, length-set}
use Rattle.chart.specs.Walk.{walk_start, walk_old, walk_step, walk_done}
use Rattle.chart.proofs.walk.walk.Goals as goal

pub bounds-entries-0 : goal.bounds-entries-0
bounds-entries-0 c = omega (arith, c.requires.actions_in_bounds)

pub loop-i-init : goal.loop-i-init
loop-i-init c =
    let b = c.start-block.ensures in
    rw b.value
    (walk_start c.args.c.now c.args.actions.now c.args.entries.now c.label.result (omega (arith, b.value, b.there)) (omega (arith, c.requires.actions_in_bounds)) (rw b.value at c.label.ensures))

pub act-target-requires : goal.act-target-requires
act-target-requires c =
    let l = c.loop-i in
    record {
      targets_right = c.requires.targets_right;
      block_bound = (l.invariant.block_there, c.requires.by_index l.i (omega arith));
    }

pub loop-i-preserved : goal.loop-i-preserved
loop-i-preserved c =
    let l = c.loop-i in
    let v = c.label.result in
    let t = c.act-target in
    let n = length-set c.args.entries.now 0 v in
    walk_step c.args.c.now c.args.actions.now (set c.args.entries.now 0 v) l.entries l.i l.block l.barred c.noted-barred.result t.result c.is_none.result l.invariant
    (omega arith) (omega (arith, l.invariant.walked.same_length, c.requires.actions_in_bounds)) t.ensures.step t.ensures.target_there
    c.unwrap_or-block.ensures c.entry_of.ensures c.is_none.ensures c.noted-barred.ensures

pub returns : goal.returns
returns c =
    let l = c.loop-i in
    let s = c.args in
    let k = walk_old s.c.now s.actions.now s.entries.now c.label.result l.i l.block l.barred l.entries l.invariant in
    let d = walk_done s.c.now s.actions.now s.entries.now l.entries l.i l.block l.barred k (omega arith) (omega (arith, k.walked.same_length, c.requires.actions_in_bounds)) in
    record { value = d.0; entries_after = d.1 }
