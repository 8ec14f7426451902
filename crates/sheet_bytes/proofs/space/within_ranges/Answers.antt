use mathlib.Core.Path.{sym, ◌∙◌}
use mir.Syntax.{w64}
use mir.Val.{SFits}
use mir.ValLaws.{to_z-of_z}
use Rattle.sheet_bytes.specs.Space.{first_out, only_first, second_out, only_second, third_last}
use Rattle.std.proofs.Common.{rules, eq-eqb}
use Rattle.sheet_bytes.proofs.space.within_ranges.Goals as goal

pub returns-then-counters-eq1 : goal.returns-then-counters-eq1
returns-then-counters-eq1 c =
    let f1 : SFits w64 c.args.x.first = search rules in
    let a = simp (to_z-of_z w64) at c.has.ensures in
    eq-eqb c.args.counters 1 c.if-counters-eq1.true ∙ only_first c.args.counters c.args.r c.args.x c.if-counters-eq1.true (sym a ∙ c.if-has.true)

pub returns-then-counters-eq2 : goal.returns-then-counters-eq2
returns-then-counters-eq2 c =
    let f1 : SFits w64 c.args.x.first = search rules in
    let f2 : SFits w64 c.args.x.second = search rules in
    let a = simp (to_z-of_z w64) at c.has.ensures in
    let b = simp (to_z-of_z w64) at c.has-else-counters-eq1.ensures in
    eq-eqb c.args.counters 2 c.if-counters-eq2.true ∙ only_second c.args.counters c.args.r c.args.x c.if-counters-eq2.true (sym a ∙ c.if-has.true) (sym b ∙ c.if-has-2.true)

pub returns-else-counters-eq2 : goal.returns-else-counters-eq2
returns-else-counters-eq2 c =
    let f1 : SFits w64 c.args.x.first = search rules in
    let f2 : SFits w64 c.args.x.second = search rules in
    let f3 : SFits w64 c.args.x.third = search rules in
    let a = simp (to_z-of_z w64) at c.has.ensures in
    let b = simp (to_z-of_z w64) at c.has-else-counters-eq1.ensures in
    let d = simp (to_z-of_z w64) at c.has-else-counters-eq2.ensures in
    d ∙ third_last c.args.counters c.args.r c.args.x c.requires.0 c.requires.1 c.if-counters-eq1.false c.if-counters-eq2.false (sym a ∙ c.if-has.true) (sym b ∙ c.if-has-2.true)

pub returns-else-has-2 : goal.returns-else-has-2
returns-else-has-2 c =
    let f1 : SFits w64 c.args.x.first = search rules in
    let f2 : SFits w64 c.args.x.second = search rules in
    let a = simp (to_z-of_z w64) at c.has.ensures in
    let b = simp (to_z-of_z w64) at c.has-else-counters-eq1.ensures in
    c.if-has-2.false ∙ second_out c.args.counters c.args.r c.args.x c.requires.0 c.if-counters-eq1.false (sym a ∙ c.if-has.true) (sym b ∙ c.if-has-2.false)

pub returns-else-has : goal.returns-else-has
returns-else-has c =
    let f1 : SFits w64 c.args.x.first = search rules in
    let a = simp (to_z-of_z w64) at c.has.ensures in
    c.if-has.false ∙ first_out c.args.counters c.args.r c.args.x c.requires.0 (sym a ∙ c.if-has.false)
