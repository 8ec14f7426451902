use native.Mathlib.Omega.{arith}
use lib.ListN.{set}
use Rattle.pair_search.specs.Progress.{starts_differ, starts_queued}
use Rattle.pair_search.specs.Search.{lefts, rights, first_left, first_right}
use Rattle.pair_search.proofs.visiting.Search.run.Goals as goal

pub returns-then-label : goal.returns-then-label
returns-then-label c =
    starts_differ c.args.charts.first.now c.args.charts.second.now c.args.self.now.notes.parents c.args.self.now.notes.actions c.requires c.label.ensures c.label-2.ensures c.if-label.true

pub visit_all-requires : goal.visit_all-requires
visit_all-requires c =
    let s = c.args.self.now in
    let pairs = set s.pairs 0 (record { left = 0; right = 0 }) in
    record {
      comparable = c.requires;
      queue = starts_queued c.args.charts.first.now c.args.charts.second.now c.separate.new.classes c.merge.new.classes (lefts pairs) (rights pairs) s.notes.parents s.notes.actions c.requires
          c.label.ensures c.label-2.ensures c.if-label.false c.blocks-blocks.ensures.value c.blocks-2.ensures.value c.separate.ensures c.merge.ensures
          (first_left s.pairs (omega arith)) (first_right s.pairs (omega arith));
    }
