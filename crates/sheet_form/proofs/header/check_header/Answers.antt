use Rattle.std.specs.Prelude.{◌≤◌, length}
use Rattle.std.proofs.Common.{sym, ap, ◌∙◌, leb-true}
use native.Mathlib.Omega.{arith}
use Rattle.answer_rules.specs.declared.Reason.TheVariants.{Header}
use Rattle.answer_rules.specs.Refusal.{at}
use Rattle.answer_rules.proofs.Stages.{stop, go_on, handed_up, demand_for, demand_by, demand_fine}
use Rattle.sheet_rules.specs.Layout.{version_of}
use Rattle.sheet_rules.specs.Form.{from_to}
use Rattle.sheet_form.specs.Header.{header_stages}
use Rattle.sheet_form.proofs.header.check_header.Goals as goal

pub returns-in_err-demanded : goal.returns-in_err-demanded
returns-in_err-demanded c = header_stages c.args.s.now (handed_up c.from_residual.ensures ∙ stop _ (demand_for _ c.demanded.ensures c.at-refusal.ensures) c.in_err-demanded.was)

pub has_mark-requires : goal.has_mark-requires
has_mark-requires c = leb-true 9 (length c.args.s.now) (demand_fine _ _ (sym c.demanded.ensures ∙ c.in_ok-demanded.was))

pub returns-in_err-demanded-2 : goal.returns-in_err-demanded-2
returns-in_err-demanded-2 c =
    header_stages c.args.s.now (handed_up c.from_residual-in_err-demanded-2.ensures ∙ go_on (demand_for _ c.demanded.ensures c.at-refusal.ensures) c.in_ok-demanded.was (stop _ (demand_by (at Header 0) (demand_for _ c.demanded-2.ensures c.at-refusal.ensures) c.has_mark.ensures) c.in_err-demanded-2.was))

pub unsigned16-requires : goal.unsigned16-requires
unsigned16-requires c =
    let h : 9 ≤ length c.args.s.now = leb-true 9 (length c.args.s.now) (demand_fine _ _ (sym c.demanded.ensures ∙ c.in_ok-demanded.was)) in
    omega arith

pub returns : goal.returns
unfolding version_of
returns c =
    header_stages c.args.s.now (go_on (demand_for _ c.demanded.ensures c.at-refusal.ensures) c.in_ok-demanded.was (go_on (demand_by (at Header 0) (demand_for _ c.demanded-2.ensures c.at-refusal.ensures) c.has_mark.ensures) c.in_ok-demanded-2.was (demand_by (at Header 0) (demand_for _ c.demanded-3.ensures c.at-refusal.ensures) (c.from_to.ensures ∙ ap (from_to 1 2) c.unsigned16.ensures))))
