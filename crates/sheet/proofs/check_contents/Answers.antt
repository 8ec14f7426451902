use Rattle.std.proofs.Common.{sym, ◌∙◌}
use Rattle.answer_rules.proofs.Stages.{stop, go_on, handed_up}
use Rattle.sheet_rules.proofs.Fits.{limits_fields}
use Rattle.sheet.specs.Whole.{contents_check}
use Rattle.sheet.proofs.check_contents.Goals as goal

pub check_landing-requires : goal.check_landing-requires
check_landing-requires c =
    record {
      fields = limits_fields _ (sym c.check_limits.ensures ∙ c.in_ok-check_limits.was);
      apart = sym c.check_overlaps.ensures ∙ c.in_ok-check_overlaps.was;
    }

pub returns-in_err-check_limits : goal.returns-in_err-check_limits
unfolding contents_check
returns-in_err-check_limits c =
    handed_up c.from_residual.ensures
    ∙ stop _ (c.check_limits.ensures) c.in_err-check_limits.was

pub returns-in_err-check_labels : goal.returns-in_err-check_labels
unfolding contents_check
returns-in_err-check_labels c =
    handed_up c.from_residual-in_err-check_labels.ensures
    ∙ go_on (c.check_limits.ensures) c.in_ok-check_limits.was
    (stop _ (c.check_labels.ensures) c.in_err-check_labels.was)

pub returns-in_err-check_overlaps : goal.returns-in_err-check_overlaps
unfolding contents_check
returns-in_err-check_overlaps c =
    handed_up c.from_residual-in_err-check_overlaps.ensures
    ∙ go_on (c.check_limits.ensures) c.in_ok-check_limits.was
    (go_on (c.check_labels.ensures) c.in_ok-check_labels.was
    (stop _ (c.check_overlaps.ensures) c.in_err-check_overlaps.was))

pub returns-in_err-check_start : goal.returns-in_err-check_start
unfolding contents_check
returns-in_err-check_start c =
    handed_up c.from_residual-in_err-check_start.ensures
    ∙ go_on (c.check_limits.ensures) c.in_ok-check_limits.was
    (go_on (c.check_labels.ensures) c.in_ok-check_labels.was
    (go_on (c.check_overlaps.ensures) c.in_ok-check_overlaps.was
    (stop _ (c.check_start.ensures) c.in_err-check_start.was)))

pub returns : goal.returns
unfolding contents_check
returns c =
    go_on (c.check_limits.ensures) c.in_ok-check_limits.was
    (go_on (c.check_labels.ensures) c.in_ok-check_labels.was
    (go_on (c.check_overlaps.ensures) c.in_ok-check_overlaps.was
    (go_on (c.check_start.ensures) c.in_ok-check_start.was
    (c.check_landing.ensures))))
