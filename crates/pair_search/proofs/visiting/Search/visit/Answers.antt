use native.Mathlib.Omega.{arith}
use Rattle.std.specs.Prelude.{◌<◌}
use Rattle.pair_search.specs.Progress.{told_fresh, entry_fits, visit_apart, visit_together, visit_fresh}
use Rattle.pair_search.specs.Search.{left_read, right_read, compared_read, lefts_set, rights_set, pairs_room}
use Rattle.pair_search.proofs.visiting.Search.visit.Goals as goal

pub compare-requires : goal.compare-requires
compare-requires c =
    let Q = c.requires.queue in
    let pairs = c.args.self.now.pairs in
    let k = c.args.head in
    let l = c.requires.head_lt_size.0 in
    record {
      comparable = c.requires.comparable;
      pair_bound = (omega (arith, left_read pairs k, Q.left_there k l), omega (arith, right_read pairs k, Q.right_there k l), c.requires.head_lt_size.1);
    }

pub note-requires : goal.note-requires
note-requires c =
    let there : c.args.size < 510 = entry_fits c.requires.comparable c.requires.queue in
    (omega arith, there)

pub note-requires-in-Fresh : goal.note-requires-in-Fresh
note-requires-in-Fresh c =
    let there : c.args.size < 510 = entry_fits c.requires.comparable c.requires.queue in
    (omega arith, there)

pub bounds-self-size : goal.bounds-self-size
bounds-self-size c = omega (arith, entry_fits c.requires.comparable c.requires.queue)

pub overflow_add-blocks : goal.overflow_add-blocks
overflow_add-blocks c =
    let (S, _) = told_fresh c.compare.ensures c.in-Fresh.is in
    omega (arith, S.right_block, c.requires.comparable.second_shaped.blocks_few, c.requires.comparable.first_shaped.blocks_few, c.blocks-blocks.ensures.value)

pub merge-requires : goal.merge-requires
merge-requires c =
    let (S, _) = told_fresh c.compare.ensures c.in-Fresh.is in
    let few = c.requires.comparable.first_shaped.blocks_few in
    let few' = c.requires.comparable.second_shaped.blocks_few in
    let e = c.blocks-blocks.ensures.value in
    let e' = c.blocks-in-Fresh.ensures.value in
    record { n_bound = omega arith; x_lt_n = (omega (arith, S.left_block), omega (arith, S.right_block)) }

pub returns-in-Apart : goal.returns-in-Apart
returns-in-Apart c =
    let D = compared_read c.args.self.now.pairs c.args.head c.compare.ensures in
    rw c.note.ensures.noted
    (visit_apart c.requires.comparable c.requires.queue c.requires.head_lt_size.0 D c.note.ensures.room c.requires.head_lt_size.1 c.in-Apart.is)

pub returns-in-Together : goal.returns-in-Together
returns-in-Together c =
    let D = compared_read c.args.self.now.pairs c.args.head c.compare.ensures in
    visit_together c.requires.comparable c.requires.queue c.requires.head_lt_size.0 D c.in-Together.is

pub returns-in-Fresh : goal.returns-in-Fresh
returns-in-Fresh c =
    let pairs = c.args.self.now.pairs in
    let n = c.args.size in
    let x = c.in-Fresh.left in
    let y = c.in-Fresh.right in
    let D = compared_read pairs c.args.head c.compare.ensures in
    let (lr, rr) = pairs_room pairs (omega arith) in
    let (pr, ar) = c.note-in-Fresh.ensures.room in
    rw (c.note-in-Fresh.ensures.noted, lefts_set pairs n x y, rights_set pairs n x y)
    (visit_fresh c.requires.comparable c.requires.queue c.requires.head_lt_size.0 D (lr, rr, pr, ar) c.requires.head_lt_size.1 c.in-Fresh.is
    c.blocks-blocks.ensures.value c.blocks-in-Fresh.ensures.value c.merge.ensures)
