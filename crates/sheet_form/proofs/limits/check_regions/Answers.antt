use mathlib.Core.Path.{◌∙◌}
use native.Mathlib.Omega.{arith}
use Rattle.answer_rules.proofs.Stages.{each_none, loop_stop, loop_more, loop_end, handed_up}
use Rattle.sheet_rules.specs.Layout.{regions_of}
use Rattle.sheet_rules.specs.Form.{check_fields}
use Rattle.sheet_form.proofs.limits.check_regions.Goals as goal

pub loop-i-init : goal.loop-i-init
loop-i-init c = each_none (check_fields c.args.s.now)

pub returns-in_err-check_region : goal.returns-in_err-check_region
returns-in_err-check_region c =
    handed_up c.from_residual.ensures
    ∙ loop_stop (check_fields c.args.s.now) c.loop-i.i (regions_of c.args.s.now) c.loop-i.invariant c.check_region.ensures c.in_err-check_region.was (omega (arith, c.shape-regions.ensures.read.regions_are))

pub loop-i-preserved : goal.loop-i-preserved
loop-i-preserved c =
    loop_more (check_fields c.args.s.now) c.loop-i.i c.loop-i.invariant c.check_region.ensures c.in_ok-check_region.was

pub returns : goal.returns
returns c =
    loop_end (check_fields c.args.s.now) c.loop-i.i (regions_of c.args.s.now) c.loop-i.invariant (omega (arith, c.shape-regions.ensures.read.regions_are)) (omega (arith, c.shape-regions.ensures.read.regions_are))
