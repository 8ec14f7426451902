use mir.Syntax.{w64}
use mir.Val.{SFits}
use mir.ValLaws.{to_z-of_z}
use mathlib.Core.Path.{sym, ◌∙◌}
use Rattle.sheet_bytes.specs.Cuts.{cut_kept, cut_gone, cut_carried, carry_limits}
use Rattle.std.proofs.Common.{rules}
use Rattle.sheet_bytes.proofs.cutting.cut_by.Goals as goal

pub inverse_range-requires : goal.inverse_range-requires
inverse_range-requires c =
    let ff : SFits w64 c.in-Carry.factor = search rules in
    let fo : SFits w64 c.in-Carry.offset = search rules in
    let (f, o) = carry_limits c.requires.rule_fits c.in-Carry.is in
    record {
      fact = simp (to_z-of_z w64) f;
      within = simp (to_z-of_z w64) o;
      range_within = c.requires.range_within;
    }

pub returns-then-has : goal.returns-then-has
returns-then-has c =
    let fo : SFits w64 c.in-Set.offset = search rules in
    let t = simp (to_z-of_z w64) at c.has.ensures in
    cut_kept c.args.wanted c.args.b c.in-Set.is (sym t ∙ c.if-has.true)

pub returns-else-has : goal.returns-else-has
returns-else-has c =
    let fo : SFits w64 c.in-Set.offset = search rules in
    let t = simp (to_z-of_z w64) at c.has.ensures in
    cut_gone c.args.wanted c.args.b c.in-Set.is (sym t ∙ c.if-has.false) c.nothing.ensures

pub returns-in-Carry : goal.returns-in-Carry
returns-in-Carry c =
    let ff : SFits w64 c.in-Carry.factor = search rules in
    let fo : SFits w64 c.in-Carry.offset = search rules in
    let q = simp (to_z-of_z w64) at c.inverse_range.ensures in
    cut_carried c.args.wanted c.args.b c.in-Carry.is q c.narrow.ensures
