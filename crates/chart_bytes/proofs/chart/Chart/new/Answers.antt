use mathlib.Core.Path.{refl, sym, ◌∙◌}
use Rattle.answer_rules.proofs.Stages.{stop, go_on, handed_up}
use Rattle.chart_bytes.specs.HeaderLaws.{header_passed}
use Rattle.chart_bytes.proofs.chart.Chart.new.Goals as goal

pub returns-in_err-check_header : goal.returns-in_err-check_header
returns-in_err-check_header c = handed_up c.from_residual.ensures ∙ stop _ c.check_header.ensures c.in_err-check_header.was

pub invariant_of-result : goal.invariant_of-result
invariant_of-result c = (header_passed c.args.bytes.now (sym c.check_header.ensures ∙ c.in_ok-check_header.was)).1

pub returns : goal.returns
returns c = go_on c.check_header.ensures c.in_ok-check_header.was refl
