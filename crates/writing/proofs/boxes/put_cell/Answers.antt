use native.Mathlib.Omega.{arith}
use Prim.Native.Nat.{◌+◌, ◌%◌, ◌/◌}
use mathlib.Core.Path.{ap, ◌∙◌}
use Rattle.integers.specs.LittleEndian.{split}
use Rattle.integers.proofs.LittleEndian.{length_split}
use Rattle.sheet_bytes.specs.Fields.{not_four}
use Rattle.sheet_rules.proofs.Shape.{width_few}
use Rattle.writing.specs.Stored.{stored, stored_behind}
use Rattle.writing.specs.BoxBytes.{two_bytes, four_bytes, upper_small}
use Rattle.writing.proofs.boxes.put_cell.Goals as goal

pub put_two-requires : goal.put_two-requires
put_two-requires c = record { bits_bound = omega arith; at_in_bounds = omega (arith, width_few c.args.width c.requires.two_or_four) }

pub put_two-requires-then-width-eq4 : goal.put_two-requires-then-width-eq4
put_two-requires-then-width-eq4 c =
    record {
      bits_bound = omega (arith, upper_small c.args.width c.bits_of-bits.result c.if-width-eq4.true c.bits_of-bits.ensures.1);
      at_in_bounds = omega arith;
    }

pub returns-then-width-eq4 : goal.returns-then-width-eq4
returns-then-width-eq4 c =
    let u = c.bits_of-bits.result in
    let w = c.args.width in
    let d = c.args.out.now in
    stored_behind (split 2 (u % 65536)) (split 2 (u / 65536)) d _ _ c.args.at (c.args.at + 2) c.put_two.ensures c.put_two-then-width-eq4.ensures (omega (arith, length_split 2 (u % 65536)))
    ∙ ap (stored d c.args.at) (four_bytes w u c.if-width-eq4.true ∙ ap (split w) c.bits_of-bits.ensures.0)

pub returns-else-width-eq4 : goal.returns-else-width-eq4
returns-else-width-eq4 c =
    let u = c.bits_of-bits.result in
    let w = c.args.width in
    c.put_two.ensures
    ∙ ap (stored c.args.out.now c.args.at) (two_bytes w u (not_four w c.requires.two_or_four c.if-width-eq4.false) c.bits_of-bits.ensures.1 ∙ ap (split w) c.bits_of-bits.ensures.0)
