use Rattle.std.specs.Prelude.{refl, eqb, ℕ}
use Rattle.std.proofs.Common.{◌∙◌, ap, rules, tests, arith}
use Rattle.std.proofs.lemmas.Iterator.{YieldsList-from_range}
use Rattle.std.proofs.lemmas.Iterator.Search.{any_from_yields_List}
use Rattle.systems.specs.Search.{any}
use Rattle.sheet_rules.specs.Layout.{label_at}
use Rattle.sheet_regions.proofs.Ranges.{any_below}
use Rattle.sheet_regions.proofs.regions.label_seen.Goals as goal

pub returns : goal.returns
returns c =
    let s = c.args.s.now in
    any_from_yields_List (λ i. eqb (label_at s i) c.label_at-label.result) _ _ c.any.result c.any.ensures.ran (YieldsList-from_range 0 c.args.j c.args.j refl (omega arith)) (λ x b q k. search (rules, tests))
    ∙ any_below (λ i. eqb (label_at s i) c.label_at-label.result) c.args.j
    ∙ ap (λ (l : ℕ). any (λ i. eqb (label_at s i) l) c.args.j) c.label_at-label.ensures
