-- One step of the search: the next action of a pair is barred on both sides, leads to what is joined already, or to a new pair.
use Rattle.std.specs.Prelude.{ℕ, ◌<◌, ◌≡◌}
use Rattle.exploration.specs.Pairs.{Pair}

-- the queue q' has the first m pairs of q
abbrev pub Extends : {X Y : Type 0} → (ℕ → Pair X Y) → (ℕ → Pair X Y) → ℕ → Type 0
Extends q q' m = (k : ℕ) → k < m → q' k ≡ q k
