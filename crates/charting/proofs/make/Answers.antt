use Rattle.std.proofs.Common.{refl, sym, ◌∙◌, length}
use Rattle.answer_rules.proofs.Stages.{handed_up}
use Rattle.sheet_rules.specs.Layout.{bound_size}
use Rattle.sheet_rules.specs.Decode.{decode}
use Rattle.sheet_bytes.specs.Three.{shape_of}
use Rattle.making_rules.proofs.Making.{makes_refused, makes_by, sheet_refused, sheet_passed}
use Rattle.charting.specs.Tabled.{accepted_ready}
use Rattle.charting.proofs.make.Goals as goal

pub returns-in_err-check-clause-value : goal.returns-in_err-check-clause-value
returns-in_err-check-clause-value c =
    let s = c.args.s.now in
    let chart = c.args.chart.now in
    let list = c.args.list.now in
    handed_up c.from_residual.ensures
    ∙ (makes_refused (bound_size s) (decode s) chart list (sheet_refused s (length chart) (length list) c.check.ensures c.in_err-check.was)).answer

pub returns-in_err-check-clause-chart_after : goal.returns-in_err-check-clause-chart_after
returns-in_err-check-clause-chart_after c =
    let s = c.args.s.now in
    let chart = c.args.chart.now in
    let list = c.args.list.now in
    (makes_refused (bound_size s) (decode s) chart list (sheet_refused s (length chart) (length list) c.check.ensures c.in_err-check.was)).chart_left

pub returns-in_err-check-clause-list_after : goal.returns-in_err-check-clause-list_after
returns-in_err-check-clause-list_after c =
    let s = c.args.s.now in
    let chart = c.args.chart.now in
    let list = c.args.list.now in
    (makes_refused (bound_size s) (decode s) chart list (sheet_refused s (length chart) (length list) c.check.ensures c.in_err-check.was)).list_left

pub over-requires : goal.over-requires
over-requires c =
    let s = c.args.s.now in
    let R = accepted_ready s (λ j. (c.type_inv.s j).fits) (sym c.check.ensures ∙ c.in_ok-check.was) (shape_of s) refl in
    R.read.shaped

pub make_accepted-requires : goal.make_accepted-requires
make_accepted-requires c =
    let s = c.args.s.now in
    rw c.over.ensures (accepted_ready s (λ j. (c.type_inv.s j).fits) (sym c.check.ensures ∙ c.in_ok-check.was) (shape_of s) refl)

pub returns-clause-value : goal.returns-clause-value
returns-clause-value c =
    let s = c.args.s.now in
    let chart = c.args.chart.now in
    let list = c.args.list.now in
    (makes_by (bound_size s) (decode s) c.make_accepted.result chart c.make_accepted.new.chart list c.make_accepted.new.list
    (sheet_passed s (length chart) (length list) c.check.ensures c.in_ok-check.was) (rw c.over.ensures at c.make_accepted.ensures)).answer

pub returns-clause-chart_after : goal.returns-clause-chart_after
returns-clause-chart_after c =
    let s = c.args.s.now in
    let chart = c.args.chart.now in
    let list = c.args.list.now in
    (makes_by (bound_size s) (decode s) c.make_accepted.result chart c.make_accepted.new.chart list c.make_accepted.new.list
    (sheet_passed s (length chart) (length list) c.check.ensures c.in_ok-check.was) (rw c.over.ensures at c.make_accepted.ensures)).chart_left

pub returns-clause-list_after : goal.returns-clause-list_after
returns-clause-list_after c =
    let s = c.args.s.now in
    let chart = c.args.chart.now in
    let list = c.args.list.now in
    (makes_by (bound_size s) (decode s) c.make_accepted.result chart c.make_accepted.new.chart list c.make_accepted.new.list
    (sheet_passed s (length chart) (length list) c.check.ensures c.in_ok-check.was) (rw c.over.ensures at c.make_accepted.ensures)).list_left
