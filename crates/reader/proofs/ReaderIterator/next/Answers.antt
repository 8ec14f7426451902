use Rattle.std.specs.Prelude.{◌≡◌, ◌-◌, Option, Some, None, ⊤}
use Rattle.std.specs.Iterator.{MakesProgress, at_most}
use Rattle.std.proofs.Common.{sym}
use native.Mathlib.Omega.{arith}
use Rattle.reader_rules.specs.declared.Block.{Block}
use Rattle.reader_rules.specs.Reading.{step_at}
use Rattle.reader_rules.proofs.Steps.{step_moves}
use Rattle.reader.specs.declared.Reader.{Reader}
use Rattle.reader.proofs.ReaderIterator.next.Goals as goal

-- with each block that is handed out fewer are left
nearer : (s t : Reader) {r : Option Block} → r ≡ (step_at s.chart.now s.next).block → t.next ≡ (step_at s.chart.now s.next).next
    → MakesProgress (λ _. ⊤) (λ (x : Reader). at_most (255 - x.next)) s r t
nearer s t {r = None} e q = record { on = λ _. tt; keeps = tt; rests = λ _. tt }
nearer s t {r = Some b} e q =
    let (n, l) = step_moves s.chart.now s.next (sym e) in
    record { on = λ _. (tt, tt, omega arith); keeps = tt; rests = λ _. tt }

pub returns-clause-goes : goal.returns-clause-goes
returns-clause-goes c = nearer c.args.self.now c.next_block.new.self c.next_block.ensures.handed c.next_block.ensures.next
