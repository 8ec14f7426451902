use Rattle.std.specs.Prelude.{refl}
use Rattle.std.proofs.Common.{◌∙◌, rules, tests, arith}
use Rattle.std.proofs.lemmas.Iterator.{YieldsList-from_range}
use Rattle.std.proofs.lemmas.Iterator.Search.{any_from_yields_List}
use Rattle.sheet_rules.specs.Check.{overlap}
use Rattle.sheet_regions.proofs.Ranges.{any_below}
use Rattle.sheet_regions.proofs.regions.region_seen.Goals as goal

pub returns : goal.returns
returns c =
    let s = c.args.s.now in
    any_from_yields_List (λ i. overlap s i c.args.j) _ _ c.any.result c.any.ensures.ran (YieldsList-from_range 0 c.args.j c.args.j refl (omega arith)) (λ x b q k. search (rules, tests))
    ∙ any_below (λ i. overlap s i c.args.j) c.args.j
