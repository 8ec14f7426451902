use Rattle.sheet_rules.specs.Layout.{counters_of}
use Rattle.sheet_bytes.specs.Three.{config_meant}
use Rattle.sheet_bytes.specs.Space.{NoneBelow}
use Rattle.sheet_bytes.proofs.sheet.Sheet.region_of.Given as goal

abbrev pub invariant-loop-i : goal.invariant-loop-i
invariant-loop-i l = NoneBelow l.self (config_meant (counters_of l.self) l.x) l.i
