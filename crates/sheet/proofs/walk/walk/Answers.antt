use Rattle.std.specs.Prelude.{set}
use Rattle.std.proofs.Common.{ap, ◌∙◌}
use Rattle.std.proofs.Math.ListN.{length-set}
use Rattle.answer_rules.specs.Run.{noted_at}
use native.Mathlib.Omega.{arith}
use Rattle.sheet.specs.Walk.{at_start, walk_start, walk_old, walk_step, walk_done, barred_is}
use Rattle.sheet.proofs.walk.walk.Goals as goal

pub label_at-requires : goal.label_at-requires
label_at-requires c =
    let k = at_start c.args.s.now c.start-config.ensures.bytes c.requires.s_value c.start-config.result c.region_of-region.result c.start-config.ensures.value c.region_of-region.ensures in
    k.there

pub loop-n-init : goal.loop-n-init
loop-n-init c =
    walk_start c.args.s.now c.args.actions.now c.start-config.ensures.bytes c.requires.s_value c.args.entries.now c.start-config.result c.region_of-region.result c.label_at.result
    (omega (arith, c.requires.actions_in_bounds)) c.start-config.ensures.value c.region_of-region.ensures c.label_at.ensures

pub loop-n-preserved : goal.loop-n-preserved
loop-n-preserved c =
    let l = c.loop-n in
    let t = c.loop-n-test.true in
    let old = set c.args.entries.now 0 c.label_at.result in
    let long = length-set c.args.entries.now 0 c.label_at.result in
    walk_step c.args.s.now c.args.actions.now c.start-config.ensures.bytes c.requires.s_value old l.entries l.n l.place c.unwrap_or-place.result l.first c.noted-first.result c.act-next.result c.entry.result l.invariant
    (omega (arith, t)) (omega (arith, t, long, l.invariant.walked.same_length, c.requires.actions_in_bounds)) c.act-next.ensures c.unwrap_or-place.ensures c.entry.ensures
    (c.noted-first.ensures ∙ ap (noted_at l.first l.n) (barred_is c.act-next.result c.is_none.ensures))

pub returns-clause-value : goal.returns-clause-value
returns-clause-value c =
    let l = c.loop-n in
    let k = walk_old c.args.s.now c.args.actions.now c.start-config.ensures.bytes c.requires.s_value c.args.entries.now c.label_at.result l.n l.place l.first l.entries l.invariant in
    (walk_done c.args.s.now c.args.actions.now c.start-config.ensures.bytes c.requires.s_value c.args.entries.now l.entries l.n l.place l.first k (omega arith) (omega (arith, k.walked.same_length, c.requires.actions_in_bounds))).0

pub returns-clause-entries_after : goal.returns-clause-entries_after
returns-clause-entries_after c =
    let l = c.loop-n in
    let k = walk_old c.args.s.now c.args.actions.now c.start-config.ensures.bytes c.requires.s_value c.args.entries.now c.label_at.result l.n l.place l.first l.entries l.invariant in
    (walk_done c.args.s.now c.args.actions.now c.start-config.ensures.bytes c.requires.s_value c.args.entries.now l.entries l.n l.place l.first k (omega arith) (omega (arith, k.walked.same_length, c.requires.actions_in_bounds))).1
