use native.Mathlib.Omega.{arith}
use Rattle.sheet_bytes.specs.Fields.{counters_limit}
use Rattle.table_rules.specs.Growth.{row_there, row_new, row_none}
use Rattle.table_rules.proofs.Growth.{nobody, room_left}
use Rattle.tables.proofs.growth.row_for.Goals as goal

pub find-requires-clause-le_counters : goal.find-requires-clause-le_counters
find-requires-clause-le_counters c =
    let R = c.shape.ensures.read in
    (omega (arith, R.shaped.counters_some, R.counters_are), counters_limit R)

pub returns-in-Some : goal.returns-in-Some
returns-in-Some c =
    let E = rw c.shape.ensures.read.counters_are at c.find.ensures in
    row_there c.in-Some.j (E.few c.in-Some.j c.in-Some.is) (E.inside c.in-Some.j c.in-Some.is)

pub returns-then-n-eq255 : goal.returns-then-n-eq255
returns-then-n-eq255 c =
    let E = rw c.shape.ensures.read.counters_are at c.find.ensures in
    row_none c.if-n-eq255.true (nobody E c.in_default.is)

pub returns : goal.returns
returns c =
    let E = rw c.shape.ensures.read.counters_are at c.find.ensures in
    let A = c.append.ensures in
    row_new (room_left c.requires.n_bound c.if-n-eq255.false) (nobody E c.in_default.is) A.cells_after A.homes_after A.row_raised A.begun
