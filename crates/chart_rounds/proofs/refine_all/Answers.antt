use native.Mathlib.Omega.{arith}
use Rattle.systems.proofs.Laws.{below_next}
use Rattle.chart_bytes.specs.Classes.{holds_ordered, holds_more, holds_all, holds_stopped, differ_parted, depth_stopped, depth_all}
use Rattle.chart_rounds.proofs.refine_all.Goals as goal

pub loop-k-init : goal.loop-k-init
loop-k-init c = (omega arith, c.requires.holds, λ m h. absurd (omega arith))

pub settled-requires : goal.settled-requires
settled-requires c =
    let l = c.loop-k in
    record {
      ordered = holds_ordered c.args.c.now l.f l.k l.invariant.1;
    }

pub returns-then-settled : goal.returns-then-settled
returns-then-settled c =
    let l = c.loop-k in
    let few = c.blocks-n.ensures.shaped.blocks_few in
    let right = c.requires.targets_right in
    let same = c.settled.ensures.f_unchanged c.if-settled.true in
    record {
      value = depth_stopped c.args.c.now few right l.invariant.2 l.invariant.1 c.settled.ensures.refined same;
      holds_2 = holds_stopped c.args.c.now few right (omega arith) l.invariant.1 c.settled.ensures.refined same;
    }

pub loop-k-preserved : goal.loop-k-preserved
loop-k-preserved c =
    let l = c.loop-k in
    let few = c.blocks-n.ensures.shaped.blocks_few in
    let right = c.requires.targets_right in (
      omega arith,
      holds_more c.args.c.now few right l.invariant.1 c.settled.ensures.refined,
      below_next l.k l.invariant.2 (differ_parted c.args.c.now few right l.invariant.1 c.settled.ensures.refined (c.settled.ensures.differ c.if-settled.false)),
    )

pub returns : goal.returns
returns c =
    let l = c.loop-k in
    record {
      value = depth_all c.args.c.now c.blocks-n.ensures.shaped.blocks_few c.requires.targets_right c.blocks-n.ensures.value l.invariant.0 (omega arith) l.invariant.2;
      holds_2 = holds_all c.args.c.now (omega arith) (omega arith) l.invariant.1;
    }
