use native.Mathlib.Omega.{arith}
use borrow.Author.Count.{below_more}
use Rattle.sheet_rules.specs.Layout.{counters_of}
use Rattle.sheet_bytes.specs.Three.{config_meant}
use Rattle.sheet_bytes.specs.Space.{region_found, region_missing, box_told}
use Rattle.sheet_bytes.proofs.sheet.Sheet.region_of.Goals as goal

pub box_at-requires : goal.box_at-requires
box_at-requires c = omega (arith, c.loop-i-test.true, c.shape-shape.ensures.read.regions_are)

pub inside-requires : goal.inside-requires
inside-requires c = let R = c.shape-shape.ensures.read in (omega (arith, R.shaped.counters_some, R.counters_are), omega (arith, R.shaped.counters_few, R.counters_are))

pub returns-then-inside : goal.returns-then-inside
returns-then-inside c =
    let R = c.shape-shape.ensures.read in
    region_found c.args.self.now (config_meant (counters_of c.args.self.now) c.args.x) c.loop-i.i (omega (arith, c.loop-i-test.true, R.regions_are)) c.loop-i.invariant
    (box_told R c.loop-i.i c.args.x c.box_at.ensures c.inside.ensures c.if-inside.true)

pub loop-i-preserved : goal.loop-i-preserved
loop-i-preserved c =
    below_more _ _ c.loop-i.invariant (box_told c.shape-shape.ensures.read c.loop-i.i c.args.x c.box_at.ensures c.inside.ensures c.if-inside.false)

pub returns : goal.returns
returns c =
    region_missing c.args.self.now (config_meant (counters_of c.args.self.now) c.args.x) c.shape-shape.result.regions c.shape-shape.ensures.read.regions_are
    (λ k l. c.loop-i.invariant k (omega arith))
