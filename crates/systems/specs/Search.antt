-- Searches and conditions over the numbers below a bound. Knows nothing of transition systems.
use Rattle.std.specs.Prelude.{ℕ, zero, suc, ◌+◌, Bool, true, false, ◌||◌, ◌&&◌}

-- a fold over 0, 1, .., n - 1, from the left: the value at n extends the value at n - 1
unfoldable pub run : {A : Type 0} → A → (A → A → A) → (ℕ → A) → ℕ → A
run z op f zero = z
run z op f (suc n) = op (run z op f n) (f n)

-- some i below n passes the test
abbrev pub any : (ℕ → Bool) → ℕ → Bool
any = run false ◌||◌

-- every i below n passes the test
abbrev pub all : (ℕ → Bool) → ℕ → Bool
all = run true ◌&&◌

-- how many i below n pass the test
unfoldable pub count : (ℕ → Bool) → ℕ → ℕ
count p = run 0 ◌+◌ (λ i. elim (p i) [ true ↦ 1 | false ↦ 0 ])

-- the least i below n that passes the test, or n where none does
unfoldable pub least : (ℕ → Bool) → ℕ → ℕ
least p zero = zero
least p (suc n) = elim (p zero) [ true ↦ zero | false ↦ suc (least (λ i. p (suc i)) n) ]
