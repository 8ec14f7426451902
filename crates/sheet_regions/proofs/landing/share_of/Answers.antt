use mathlib.Core.Path.{subst, sym, ◌∙◌, ap}
use Rattle.model.specs.Blocks.{volume}
use Rattle.sheet_bytes.specs.declared.Ranges.{Ranges}
use Rattle.sheet_bytes.specs.Cuts.{all_three}
use Rattle.sheet_regions.specs.Tight.{TightThree, tight_three, tight_cuts}
use Rattle.sheet_regions.specs.Shares.{share_in, share_out}
use Rattle.sheet_regions.proofs.landing.share_of.Goals as goal

pub volume_of-requires : goal.volume_of-requires
volume_of-requires c =
    let b = c.requires.ranges_within in
    let r = c.requires.rules_fit in
    let w = c.requires.ranges_within_2 in
    subst TightThree (sym c.cut_by_all.ensures) (tight_cuts c.args.m.rules c.args.w.ranges c.args.b (tight_three b) r w)

pub returns-then-m-w : goal.returns-then-m-w
returns-then-m-w c =
    share_in c.args.b c.args.m c.args.w c.volume_of.result c.if-m-w.true (c.volume_of.ensures ∙ ap (λ (x : Ranges). volume (all_three x)) c.cut_by_all.ensures)

pub returns-else-m-w : goal.returns-else-m-w
returns-else-m-w c = share_out c.args.b c.args.m c.args.w c.if-m-w.false
