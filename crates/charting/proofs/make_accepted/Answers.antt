use Rattle.std.proofs.Common.{ap, ◌∙◌}
use Rattle.std.specs.Prelude.{Err}
use lib.ListN.{length}
use Rattle.answer_rules.proofs.Stages.{handed_up}
use Rattle.sheet_rules.specs.Layout.{bound_size}
use Rattle.sheet_rules.specs.Decode.{decode}
use Rattle.making_rules.proofs.Making.{makes_refused, makes_answer, many_blocks}
use Rattle.charting.specs.Tabled.{answered_many, none_refused}
use Rattle.charting.proofs.make_accepted.Goals as goal

pub returns-in_err-n : goal.returns-in_err-n
returns-in_err-n c =
    let chart = c.args.chart.now in
    let list = c.args.list.now in
    let sheet = decode c.args.s.now in
    let w = bound_size c.args.s.now in
    let (none, e) = none_refused c.ok_or.ensures.value c.in_err-n.was in
    makes_answer (handed_up c.from_residual.ensures ∙ ap Err (e ∙ c.at.ensures))
    (makes_refused w sheet chart list (many_blocks w sheet (length chart) (length list) (answered_many c.refine-refined.ensures none)))
