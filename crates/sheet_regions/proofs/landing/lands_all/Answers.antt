use mathlib.Core.Path.{◌≡◌, subst, sym}
use Prim.Native.Nat.{◌+◌}
use Rattle.model.specs.Blocks.{volume}
use Rattle.sheet_bytes.specs.declared.RegionBox.{RegionBox}
use Rattle.sheet_rules.specs.Layout.{regions_of}
use Rattle.sheet_bytes.specs.Cuts.{all_three}
use Rattle.sheet_regions.specs.Shares.{shares_three, Countable, read_barred, countable, left_lands}
use Rattle.sheet_regions.proofs.landing.lands_all.Goals as goal

pub returns-in_default : goal.returns-in_default
returns-in_default c =
    let s = c.args.s.now in
    let i = c.args.i in
    let a = c.args.a in
    read_barred s c.move_at.ensures.shaped c.move_at.ensures.bytes c.requires.passed i a c.requires.i_lt_regions.0 c.requires.i_lt_regions.1 c.move_at.result c.move_at.ensures.value c.in_default.is

pub uncovered-requires : goal.uncovered-requires
uncovered-requires c =
    let s = c.args.s.now in
    let i = c.args.i in
    let a = c.args.a in
    let d = countable s c.move_at.ensures.shaped c.move_at.ensures.bytes c.requires.passed i a c.requires.i_lt_regions.0 c.requires.i_lt_regions.1 c.move_at.result c.move_at.ensures.value c.in-Some.is in
    subst (λ (x : RegionBox). Countable s x.ranges c.in-Some.m) (sym c.box_at-home.ensures) d

pub returns : goal.returns
returns c =
    let s = c.args.s.now in
    let i = c.args.i in
    let a = c.args.a in
    let g = subst (λ (x : RegionBox). c.uncovered.result + shares_three s x.ranges c.in-Some.m (regions_of s) ≡ volume (all_three x.ranges)) c.box_at-home.ensures c.uncovered.ensures in
    left_lands s c.move_at.ensures.shaped c.move_at.ensures.bytes c.requires.passed i a c.requires.i_lt_regions.0 c.requires.i_lt_regions.1 c.move_at.result c.move_at.ensures.value c.in-Some.is c.uncovered.result g
