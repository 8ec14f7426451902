use Rattle.chart_bytes.specs.Classes.{entry, same_barred, same_opened, same_classed}
use Rattle.chart_rounds.proofs.same_target.Goals as goal

pub returns-then-t-eq255 : goal.returns-then-t-eq255
returns-then-t-eq255 c =
    let s = c.args in
    same_barred (entry s.f.now) s.t s.u c.if-t-eq255.true

pub returns-then-u-eq255 : goal.returns-then-u-eq255
returns-then-u-eq255 c =
    let s = c.args in
    same_opened (entry s.f.now) s.t s.u c.if-t-eq255.false c.if-u-eq255.true

pub returns : goal.returns
returns c =
    let s = c.args in
    same_classed (entry s.f.now) s.t s.u c.if-t-eq255.false c.if-u-eq255.false
