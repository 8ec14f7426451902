use native.Mathlib.Omega.{arith}
use mathlib.Core.Path.{refl}
use borrow.Author.Tests.{not-true, not-false}
use Rattle.table_rules.proofs.Marks.{raised_nobody}
use Rattle.table_rules.proofs.Sources.{noting}
use Rattle.table_rules.specs.Cutting.{settled_same}
use Rattle.table_rules.proofs.Cutting.{settled_raised}
use Rattle.tables.proofs.cutting.settle.Goals as goal

pub cut_row-requires : goal.cut_row-requires
cut_row-requires c =
    record {
      i_bound = (omega (arith, c.requires.actions_bound), omega (arith, c.requires.actions_bound));
      cuttable = c.requires.cuttable;
    }

pub returns-then-not-cut_row : goal.returns-then-not-cut_row
returns-then-not-cut_row c =
    let k = c.cut_row.ensures.kept (not-true _ c.if-not-cut_row.true-raw) in
    record {
      targets_after = refl;
      bounds_room = omega arith;
      settled = settled_same k.1 k.0 refl (noting (omega (arith, c.requires.actions_bound)) c.lower.ensures);
    }

pub raise-requires : goal.raise-requires
raise-requires c =
    let l = c.if-from-n.true in
    omega (arith, c.requires.actions_bound, l)

pub returns-then-from-n : goal.returns-then-from-n
returns-then-from-n c =
    let k = c.cut_row.ensures.changed (not-false _ c.if-not-cut_row.false-raw) in
    record {
      targets_after = refl;
      bounds_room = omega arith;
      settled = settled_raised (omega (arith, c.requires.actions_bound)) (omega (arith, c.requires.actions_bound)) k.1 k.0 c.lower.ensures refl c.lower-2.ensures c.lower-3.ensures c.raise.ensures;
    }

pub returns-else-from-n : goal.returns-else-from-n
returns-else-from-n c =
    let a = c.args in
    let k = c.cut_row.ensures.changed (not-false _ c.if-not-cut_row.false-raw) in
    record {
      targets_after = refl;
      bounds_room = omega arith;
      settled = settled_raised (omega (arith, c.requires.actions_bound)) (omega (arith, c.requires.actions_bound)) k.1 k.0 c.lower.ensures refl c.lower-2.ensures c.lower-3.ensures
          (raised_nobody _ a.i _ a.n _ a.shape.actions c.if-from-n.false);
    }
