use mathlib.Core.Path.{sym, ◌∙◌}
use Rattle.answer_rules.proofs.Stages.{stop, go_on, handed_up}
use Rattle.chart_bytes.specs.Header.{header_check}
use Rattle.chart_bytes.specs.HeaderLaws.{mark_passed, counts_passed}
use Rattle.chart_bytes.proofs.header.check_header.Goals as goal

pub returns-in_err-check_mark : goal.returns-in_err-check_mark
unfolding header_check
returns-in_err-check_mark c = handed_up c.from_residual.ensures ∙ stop _ c.check_mark.ensures c.in_err-check_mark.was

pub check_counts-requires : goal.check_counts-requires
check_counts-requires c = (mark_passed c.args.c.now (sym c.check_mark.ensures ∙ c.in_ok-check_mark.was)).0

pub returns-in_err-check_counts : goal.returns-in_err-check_counts
unfolding header_check
returns-in_err-check_counts c =
    handed_up c.from_residual-in_err-check_counts.ensures
    ∙ go_on c.check_mark.ensures c.in_ok-check_mark.was (stop _ c.check_counts.ensures c.in_err-check_counts.was)

pub check_length-requires : goal.check_length-requires
check_length-requires c =
    let s = c.args.c.now in
    counts_passed s (mark_passed s (sym c.check_mark.ensures ∙ c.in_ok-check_mark.was)).0 (sym c.check_counts.ensures ∙ c.in_ok-check_counts.was)

pub returns : goal.returns
unfolding header_check
returns c = go_on c.check_mark.ensures c.in_ok-check_mark.was (go_on c.check_counts.ensures c.in_ok-check_counts.was c.check_length.ensures)
