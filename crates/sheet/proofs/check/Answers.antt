use Rattle.std.proofs.Common.{sym, ap, ◌∙◌}
use Rattle.answer_rules.proofs.Stages.{stop, go_on, handed_up}
use Rattle.sheet_rules.specs.Check.{sheet_check}
use Rattle.sheet_rules.proofs.Accepted.{shaped}
use Rattle.sheet.specs.Whole.{contents_check, header_long, counts_few}
use Rattle.sheet.proofs.check.Goals as goal

pub check_counts-requires : goal.check_counts-requires
check_counts-requires c = header_long c.args.s.now (sym c.check_header.ensures ∙ c.in_ok-check_header.was)

pub check_length-requires-clause-in_bounds : goal.check_length-requires-clause-in_bounds
check_length-requires-clause-in_bounds c = header_long c.args.s.now (sym c.check_header.ensures ∙ c.in_ok-check_header.was)

pub check_length-requires-clause-s_bound : goal.check_length-requires-clause-s_bound
check_length-requires-clause-s_bound c = counts_few c.args.s.now (sym c.check_counts.ensures ∙ c.in_ok-check_counts.was)

pub over-requires : goal.over-requires
over-requires c = shaped c.args.s.now (sym c.check_counts.ensures ∙ c.in_ok-check_counts.was) (sym c.check_length.ensures ∙ c.in_ok-check_length.was)

pub returns-in_err-check_header : goal.returns-in_err-check_header
unfolding sheet_check contents_check
returns-in_err-check_header c =
    handed_up c.from_residual.ensures
    ∙ stop _ (c.check_header.ensures) c.in_err-check_header.was

pub returns-in_err-check_counts : goal.returns-in_err-check_counts
unfolding sheet_check contents_check
returns-in_err-check_counts c =
    handed_up c.from_residual-in_err-check_counts.ensures
    ∙ go_on (c.check_header.ensures) c.in_ok-check_header.was
    (stop _ (c.check_counts.ensures) c.in_err-check_counts.was)

pub returns-in_err-check_length : goal.returns-in_err-check_length
unfolding sheet_check contents_check
returns-in_err-check_length c =
    handed_up c.from_residual-in_err-check_length.ensures
    ∙ go_on (c.check_header.ensures) c.in_ok-check_header.was
    (go_on (c.check_counts.ensures) c.in_ok-check_counts.was
    (stop _ (c.check_length.ensures) c.in_err-check_length.was))

pub returns : goal.returns
unfolding sheet_check contents_check
returns c =
    go_on (c.check_header.ensures) c.in_ok-check_header.was
    (go_on (c.check_counts.ensures) c.in_ok-check_counts.was
    (go_on (c.check_length.ensures) c.in_ok-check_length.was
    (c.check_contents.ensures ∙ ap contents_check c.over.ensures)))
