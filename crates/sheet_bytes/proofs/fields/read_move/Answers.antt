use lib.ListN.{length}
use native.Mathlib.Omega.{arith}
use Rattle.sheet_bytes.specs.Fields.{move_some, move_barred, move_made}
use Rattle.sheet_bytes.proofs.fields.read_move.Goals as goal

pub bounds-part-0 : goal.bounds-part-0
bounds-part-0 c = omega (arith, move_some c.args.counters (length c.args.part.now) c.requires.1)

pub bounds-part-1 : goal.bounds-part-1
bounds-part-1 c = omega (arith, move_some c.args.counters (length c.args.part.now) c.requires.1)

pub returns-then-part-eq0 : goal.returns-then-part-eq0
returns-then-part-eq0 c = move_barred c.args.counters c.args.part.now c.if-part-eq0.true

pub returns : goal.returns
returns c =
    let x = c.rule_or_zero in
    let y = c.rule_or_zero-2 in
    let z = c.rule_or_zero-3 in
    move_made c.args.counters c.args.part.now x.result y.result z.result c.if-part-eq0.false x.ensures y.ensures z.ensures
