-- Two systems on numbers side by side, as one system: the numbers of the second stand behind those of the first. So the Moore bound speaks of two systems too.
use Rattle.std.specs.Prelude.{ℕ, ◌-◌, true, false, ltb}

-- what f says of the numbers below n, and g of those behind them, counted from n
unfoldable pub side : {A : Type 0} → ℕ → (ℕ → A) → (ℕ → A) → ℕ → A
side n f g z = elim (ltb z n) [ true ↦ f z | false ↦ g (z - n) ]
