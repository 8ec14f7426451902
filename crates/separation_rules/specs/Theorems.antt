-- What holds of the evidence on the definitions: there is none just when no sequence of whatever length parts the charts, which for charts that obey the chart
-- rules is so just when their bytes are equal; else it is what is promised of it.
use Rattle.std.specs.Prelude.{ℕ, Option, Some, None}
use mathlib.Core.List.{List}
use Rattle.separation_rules.specs.Separation.{EqualBehaviour, IsEvidence}

-- What is said of two charts, with evidence or without.
pub data Judges (c d : List ℕ) : Option (List ℕ) → Type 0 where
  equal : EqualBehaviour c d → Judges c d None
  parted : {w : List ℕ} → IsEvidence c d w → Judges c d (Some w)
