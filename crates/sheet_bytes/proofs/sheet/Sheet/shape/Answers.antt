use Rattle.sheet_bytes.proofs.sheet.Sheet.shape.Goals as goal

pub returns-clause-read : goal.returns-clause-read
returns-clause-read c = rw c.self.view_is at c.self.invariant.read

pub returns-clause-bytes : goal.returns-clause-bytes
returns-clause-bytes c = rw c.self.view_is at c.self.invariant.bytes
