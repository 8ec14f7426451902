use mathlib.Core.Path.{subst, sym}
use Rattle.sheet_bytes.specs.Three.{Read, read_of}
use Rattle.sheet_bytes.specs.Fields.{header_within}
use Rattle.sheet_bytes.proofs.sheet.Sheet.over.Goals as goal

pub shape_of-shape-requires : goal.shape_of-shape-requires
shape_of-shape-requires c = header_within (read_of c.requires)

pub invariant_of-result : goal.invariant_of-result
invariant_of-result c =
    record {
      read = subst (Read c.args.bytes.now) (sym c.shape_of-shape.ensures) (read_of c.requires);
      bytes = λ j. (c.type_inv.bytes j).fits;
    }
