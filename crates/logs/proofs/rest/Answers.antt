use native.Mathlib.Omega.{arith}
use lib.ListN.{length}
use Rattle.log_rules.proofs.Theorems.{rest_apart, rest_second, rest_first}
use Rattle.log_rules.proofs.Machine.{index_within, of_first_lem, of_second_lem}
use Rattle.logs.proofs.rest.Goals as goal

pub returns-then-at-min : goal.returns-then-at-min
returns-then-at-min c =
    let s = c.args in
    let f = c.first_difference-at in
    of_first_lem s.first s.second (length s.first.now) c.tail.ensures
    (rest_apart s.first.now s.second.now (omega (arith, f.ensures, c.min.ensures)))

pub tail-requires-then-first-second : goal.tail-requires-then-first-second
tail-requires-then-first-second c =
    let s = c.args in
    let f = c.first_difference-at in
    omega (arith, index_within s.first.now s.second.now f.result f.ensures)

pub returns-then-first-second : goal.returns-then-first-second
returns-then-first-second c =
    let s = c.args in
    let f = c.first_difference-at in
    of_second_lem s.first s.second f.result c.tail-then-first-second.ensures
    (rest_second s.first.now s.second.now f.result f.ensures (omega (arith, c.min.ensures)) (omega arith))

pub tail-requires-2 : goal.tail-requires-2
tail-requires-2 c =
    let s = c.args in
    let f = c.first_difference-at in
    omega (arith, index_within s.first.now s.second.now f.result f.ensures)

pub returns : goal.returns
returns c =
    let s = c.args in
    let f = c.first_difference-at in
    of_first_lem s.first s.second f.result c.tail-2.ensures
    (rest_first s.first.now s.second.now f.result f.ensures (omega (arith, c.min.ensures)) (omega arith))
