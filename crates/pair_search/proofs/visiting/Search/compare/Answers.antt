use native.Mathlib.Omega.{arith}
use Rattle.pair_search.specs.Comparing.{classes_same, classes_apart, entries_apart, left_barred, right_barred, acts_stepped}
use Rattle.pair_search.proofs.visiting.Search.compare.Goals as goal

pub act-right-requires : goal.act-right-requires
act-right-requires c =
    let C = c.requires.comparable in
    record {
      targets_right = C.second_targets;
      block_bound = (c.requires.pair_bound.1, omega (arith, C.same_actions, c.requires.pair_bound.2));
    }

pub returns-then-entry_of : goal.returns-then-entry_of
returns-then-entry_of c =
    entries_apart c.requires.comparable c.act-left.ensures.step c.act-right.ensures.step c.entry_of.ensures c.entry_of-2.ensures c.if-entry_of.true

pub returns-in_default : goal.returns-in_default
returns-in_default c =
    right_barred c.requires.comparable c.act-left.ensures.step c.act-right.ensures.step c.entry_of.ensures c.entry_of-2.ensures c.if-entry_of.false c.in_default.is-1

pub returns-in_default-2 : goal.returns-in_default-2
returns-in_default-2 c =
    left_barred c.requires.comparable c.act-left.ensures.step c.act-right.ensures.step c.entry_of.ensures c.entry_of-2.ensures c.if-entry_of.false c.in_default.is-0

pub returns-then-self-x : goal.returns-then-self-x
returns-then-self-x c =
    let k = c.in-Some-Some in
    let S =
    acts_stepped c.requires.comparable c.act-left.ensures.step c.act-right.ensures.step c.entry_of.ensures c.entry_of-2.ensures c.if-entry_of.false k.is-0 k.is-1
    (rw k.is-0 at c.act-left.ensures.target_there) (rw k.is-1 at c.act-right.ensures.target_there)
    in
    classes_same c.blocks-2.ensures.value S c.if-self-x.true

pub returns : goal.returns
returns c =
    let k = c.in-Some-Some in
    let S =
    acts_stepped c.requires.comparable c.act-left.ensures.step c.act-right.ensures.step c.entry_of.ensures c.entry_of-2.ensures c.if-entry_of.false k.is-0 k.is-1
    (rw k.is-0 at c.act-left.ensures.target_there) (rw k.is-1 at c.act-right.ensures.target_there)
    in
    classes_apart c.blocks-2.ensures.value S c.if-self-x.false
