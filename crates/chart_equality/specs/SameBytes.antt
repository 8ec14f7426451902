-- Two charts that obey the chart rules, whoever made them, have equal bytes just when they behave alike. The statement first, then its proof: the records
-- of both are read abreast, so that each number stands for equivalent blocks.
use Rattle.std.specs.Prelude.{◌≡◌, ◌↔◌, List}
use Prim.Native.Nat.{ℕ}
use Rattle.systems.specs.System.{Below}
use Rattle.model.specs.Chart.{actions_of, chart_reading}

-- The two charts are the same bytes just when they have as many actions and every sequence of these actions reads the same on both.
abbrev pub BytesTell : List ℕ → List ℕ → Type 0
BytesTell c d = (c ≡ d) ↔ ((actions_of c ≡ actions_of d) × ((w : List ℕ) → Below (actions_of c) w → chart_reading c w ≡ chart_reading d w))
