use mathlib.Core.Path.{◌≡◌, subst, sym, ap, ◌∙◌}
use Prim.Native.Nat.{◌-◌, ◌<◌}
use native.Mathlib.Omega.{arith}
use Rattle.model.specs.Blocks.{volume}
use Rattle.sheet_bytes.specs.declared.RegionBox.{RegionBox}
use Rattle.sheet_rules.specs.Layout.{regions_of}
use Rattle.sheet_bytes.specs.Three.{box_three}
use Rattle.sheet_bytes.specs.Cuts.{all_three}
use Rattle.sheet_bytes.specs.Bounds.{RangesWithin}
use Rattle.sheet_regions.specs.Volumes.{share_three}
use Rattle.sheet_regions.specs.Tight.{tight_three}
use Rattle.sheet_regions.specs.Shares.{none_taken, all_taken, taken, taken_more}
use Rattle.sheet_regions.proofs.landing.uncovered.Goals as goal

pub volume_of-left-requires : goal.volume_of-left-requires
volume_of-left-requires c = tight_three c.requires.ranges

pub loop-j-init : goal.loop-j-init
loop-j-init c =
    let args = c.args in
    (omega arith, none_taken (λ j. share_three args.b args.m (box_three args.s.now j)) c.volume_of-left.result (volume (all_three args.b)) c.volume_of-left.ensures)

pub box_at-requires : goal.box_at-requires
box_at-requires c = omega (arith, c.loop-j-test.true, c.shape-j-end.ensures.read.regions_are)

pub share_of-left-requires : goal.share_of-left-requires
share_of-left-requires c =
    let given = c.requires in
    let w = given.boxes c.loop-j.j (omega (arith, c.loop-j-test.true, c.shape-j-end.ensures.read.regions_are)) in
    record {
      ranges_within = given.ranges;
      rules_fit = given.rules;
      ranges_within_2 = subst (λ (x : RegionBox). RangesWithin 1000000 x.ranges) (sym c.box_at.ensures) w;
    }

pub overflow_sub-left : goal.overflow_sub-left
overflow_sub-left c =
    let args = c.args in
    let s = args.s.now in
    let at = c.loop-j in
    let x = c.share_of-left.result in
    let e = c.share_of-left.ensures ∙ ap (λ (w : RegionBox). share_three args.b args.m w) c.box_at.ensures in
    let h : at.j < regions_of s = omega (arith, c.loop-j-test.true, c.shape-j-end.ensures.read.regions_are) in
    let l = taken (λ j. share_three args.b args.m (box_three s j)) at.j (regions_of s) at.left x (volume (all_three args.b)) h e at.invariant.1 c.requires.enough in
    l

pub overflow_step-j : goal.overflow_step-j
overflow_step-j c = omega arith

pub loop-j-smaller : goal.loop-j-smaller
loop-j-smaller c = omega arith

pub loop-j-preserved : goal.loop-j-preserved
loop-j-preserved c =
    let args = c.args in
    let s = args.s.now in
    let at = c.loop-j in
    let x = c.share_of-left.result in
    let e = c.share_of-left.ensures ∙ ap (λ (w : RegionBox). share_three args.b args.m w) c.box_at.ensures in
    let h : at.j < regions_of s = omega (arith, c.loop-j-test.true, c.shape-j-end.ensures.read.regions_are) in
    let l = taken (λ j. share_three args.b args.m (box_three s j)) at.j (regions_of s) at.left x (volume (all_three args.b)) h e at.invariant.1 c.requires.enough in (
      omega arith,
      taken_more (λ j. share_three args.b args.m (box_three s j)) at.j at.left x (volume (all_three args.b)) (at.left - x) e at.invariant.1 (omega arith),
    )

pub returns : goal.returns
returns c =
    let args = c.args in
    let s = args.s.now in
    let at = c.loop-j in
    let e : at.j ≡ regions_of s = omega (arith, c.loop-j-test.false, c.shape-j-end.ensures.read.regions_are, at.invariant.0) in
    all_taken (λ j. share_three args.b args.m (box_three s j)) at.j (regions_of s) at.left (volume (all_three args.b)) e at.invariant.1
