use native.Mathlib.Omega.{arith}
use Prim.Native.Nat.{◌%◌, ◌/◌}
use mathlib.Core.Path.{ap, ◌∙◌}
use lib.ListN.{length-set}
use Rattle.writing.specs.Stored.{stored, stored_two}
use Rattle.writing.specs.BoxBytes.{bits_bytes}
use Rattle.writing.proofs.boxes.put_two.Goals as goal

pub bounds-out-at-2 : goal.bounds-out-at-2
bounds-out-at-2 c = simp length-set (omega arith)

pub returns : goal.returns
returns c =
    let u = c.args.bits in
    stored_two c.args.out.now c.args.at (u % 256) (u / 256) ∙ ap (stored c.args.out.now c.args.at) (bits_bytes u c.requires.bits_bound)
