-- Numbering: a breadth-first walk over the row numbers and stored targets of a sound and stable table goes in lock step with the exploration of the
-- system itself. Knows nothing of boxes.
use Rattle.std.specs.Prelude.{ℕ, ◌<◌, true, false, List, T, ltb, None}
use Rattle.std.proofs.Math.Dec.{eqb}
use Rattle.systems.specs.System.{System}
use Rattle.exploration.specs.Exploration.{explore}
use Rattle.model.specs.Chart.{block_named}
use Rattle.refinement.specs.Table.{Frame}

-- The system on row numbers that the stored targets give. Its labels are the numbers themselves; the actions past the last are barred.
unfoldable pub target_system : (ℕ → ℕ → ℕ) → ℕ → System ℕ
target_system t actions = record { label = λ i. i; step = λ a i. elim (ltb a actions) [ true ↦ block_named (t i a) | false ↦ None ] }

-- The walk: row numbers in the order in which they are first named, after m of them have been visited.
unfoldable pub walk : (ℕ → ℕ → ℕ) → ℕ → ℕ → List ℕ
walk t actions m = explore (target_system t actions) eqb actions 0 m

-- row i has x
abbrev pub InRow : {X Row : Type 0} → Frame X Row → ℕ → (ℕ → Row) → X → ℕ → Type 0
InRow F n row x i = (i < n) × T (F.has (row i) x)
