use mathlib.Core.Path.{◌∙◌}
use native.Mathlib.Omega.{arith}
use Rattle.answer_rules.proofs.Stages.{each_none, loop_stop, loop_more, loop_end, handed_up}
use Rattle.sheet_rules.specs.Layout.{regions_of}
use Rattle.sheet_rules.specs.Check.{check_label}
use Rattle.sheet_regions.proofs.regions.check_labels.Goals as goal

pub loop-j-init : goal.loop-j-init
loop-j-init c = each_none (check_label c.args.s.now)

pub returns-in_err-check_label : goal.returns-in_err-check_label
returns-in_err-check_label c =
    handed_up c.from_residual.ensures
    ∙ loop_stop (check_label c.args.s.now) c.loop-j.j (regions_of c.args.s.now) c.loop-j.invariant c.check_label.ensures c.in_err-check_label.was (omega (arith, c.shape-j-end.ensures.read.regions_are))

pub loop-j-preserved : goal.loop-j-preserved
loop-j-preserved c =
    loop_more (check_label c.args.s.now) c.loop-j.j c.loop-j.invariant c.check_label.ensures c.in_ok-check_label.was

pub returns : goal.returns
returns c =
    loop_end (check_label c.args.s.now) c.loop-j.j (regions_of c.args.s.now) c.loop-j.invariant (omega (arith, c.shape-j-end.ensures.read.regions_are)) (omega (arith, c.shape-j-end.ensures.read.regions_are))
