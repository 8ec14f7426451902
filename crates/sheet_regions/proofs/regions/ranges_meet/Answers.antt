use Rattle.std.specs.Prelude.{refl}
use Rattle.std.proofs.Common.{◌∙◌, ap, rules, tests, arith}
use Rattle.std.proofs.lemmas.Iterator.{YieldsList-from_range}
use Rattle.std.proofs.lemmas.Iterator.Search.{all_from_yields_List}
use Rattle.systems.specs.Search.{all}
use Rattle.sheet_regions.specs.Regions.{meeting}
use Rattle.sheet_regions.proofs.Ranges.{all_below}
use Rattle.sheet_regions.proofs.regions.ranges_meet.Goals as goal

pub returns : goal.returns
returns c =
    let s = c.args.s.now in
    let n = c.shape.result.counters in
    all_from_yields_List (meeting s c.args.i c.args.j) _ _ c.all.result c.all.ensures.ran (YieldsList-from_range 0 n n refl (omega arith)) (λ x b q k. search (rules, tests))
    ∙ all_below (meeting s c.args.i c.args.j) n
    ∙ ap (all (meeting s c.args.i c.args.j)) c.shape.ensures.read.counters_are
