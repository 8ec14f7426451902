use native.Mathlib.Omega.{arith}
use Prim.Native.Nat.{◌-◌}
use Rattle.table_passes.specs.Passes.{pass_begin, pass_down, pass_turned, swept_new, swept}
use Rattle.table_passes.proofs.sweep.sweep.Goals as goal

pub loop-table-init : goal.loop-table-init
loop-table-init c =
    let R = c.requires.ready in
    let S = c.requires.state in
    let (hl, down) = c.requires.last_lt_n in
    (omega arith, pass_begin R S down)

pub returns-then-rows-n : goal.returns-then-rows-n
returns-then-rows-n c =
    let R = c.requires.ready in
    let S = c.requires.state in
    let (hl, down) = c.requires.last_lt_n in
    let l = c.loop-table in
    let (hk, P) = l.invariant in
    let t = c.loop-table-test.true in
    swept_new R (l.k - 1) P (omega (arith, t)) (omega (arith, t, hl, hk)) (c.turn.ensures.rows _ c.in_ok-rows.was) c.if-rows-n.true

pub loop-table-preserved-else-rows-n : goal.loop-table-preserved-else-rows-n
loop-table-preserved-else-rows-n c =
    let R = c.requires.ready in
    let S = c.requires.state in
    let (hl, down) = c.requires.last_lt_n in
    let l = c.loop-table in
    let (hk, P) = l.invariant in
    let t = c.loop-table-test.true in
    (omega (arith, t, hk), pass_turned R (l.k - 1) P (omega (arith, t)) (omega (arith, t, hl, hk)) (c.turn.ensures.rows _ c.in_ok-rows.was) c.if-rows-n.false)

pub loop-table-preserved : goal.loop-table-preserved
loop-table-preserved c =
    let R = c.requires.ready in
    let S = c.requires.state in
    let (hl, down) = c.requires.last_lt_n in
    let l = c.loop-table in
    let (hk, P) = l.invariant in
    let t = c.loop-table-test.true in
    (omega (arith, t, hk), pass_down R (l.k - 1) P (omega (arith, t)) (omega (arith, t, hl, hk)) ((rw c.shape-actions.ensures.read.actions_are at c.any_raised.ensures).down c.if-any_raised.false))

pub returns : goal.returns
returns c =
    let R = c.requires.ready in
    let S = c.requires.state in
    let (hl, down) = c.requires.last_lt_n in
    swept R c.loop-table.invariant.1 c.loop-table-test.false
