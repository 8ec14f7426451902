-- The pigeonhole principle for numbers below a bound.
use Rattle.std.specs.Prelude.{ℕ, ◌+◌, ◌*◌, ◌<◌, ◌≡◌}

-- f sends no two numbers below n to one
abbrev pub InjectiveBelow : ℕ → (ℕ → ℕ) → Type 0
InjectiveBelow n f = (i j : ℕ) → i < n → j < n → f i ≡ f j → i ≡ j

-- a pair of numbers, the second below k, as one number
abbrev pub paired : ℕ → ℕ → ℕ → ℕ
paired k a b = a * k + b
