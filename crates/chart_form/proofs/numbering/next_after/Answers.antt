use native.Mathlib.Omega.{arith}
use Rattle.chart_form.specs.Records.{next_barred, next_new, next_old}
use Rattle.chart_form.proofs.numbering.next_after.Goals as goal

pub returns-then-t-eq255 : goal.returns-then-t-eq255
returns-then-t-eq255 c =
    let s = c.args in
    (next_barred s.next s.t c.if-t-eq255.true, omega arith)

pub returns-then-t-next : goal.returns-then-t-next
returns-then-t-next c =
    let s = c.args in
    (next_new s.next s.t c.if-t-eq255.false c.if-t-next.true, omega arith)

pub returns : goal.returns
returns c =
    let s = c.args in
    (next_old s.next s.t c.if-t-eq255.false c.if-t-next.false, omega arith)
