use mathlib.Core.Path.{◌∙◌}
use native.Mathlib.Omega.{arith}
use Rattle.answer_rules.proofs.Stages.{each_none, loop_stop, loop_more, loop_end, handed_up}
use Rattle.sheet_rules.specs.Layout.{regions_of}
use Rattle.sheet_rules.specs.Check.{check_overlap}
use Rattle.sheet_regions.proofs.regions.check_overlaps.Goals as goal

pub loop-j-init : goal.loop-j-init
loop-j-init c = each_none (check_overlap c.args.s.now)

pub returns-in_err-check_overlap : goal.returns-in_err-check_overlap
returns-in_err-check_overlap c =
    handed_up c.from_residual.ensures
    ∙ loop_stop (check_overlap c.args.s.now) c.loop-j.j (regions_of c.args.s.now) c.loop-j.invariant c.check_overlap.ensures c.in_err-check_overlap.was (omega (arith, c.shape-j-end.ensures.read.regions_are))

pub loop-j-preserved : goal.loop-j-preserved
loop-j-preserved c =
    loop_more (check_overlap c.args.s.now) c.loop-j.j c.loop-j.invariant c.check_overlap.ensures c.in_ok-check_overlap.was

pub returns : goal.returns
returns c =
    loop_end (check_overlap c.args.s.now) c.loop-j.j (regions_of c.args.s.now) c.loop-j.invariant (omega (arith, c.shape-j-end.ensures.read.regions_are)) (omega (arith, c.shape-j-end.ensures.read.regions_are))
