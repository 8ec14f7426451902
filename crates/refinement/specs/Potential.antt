-- Why the algorithm ends: a potential of the rows' widths that falls with each change, and a measure that falls with each pass. Numbers only.
use Rattle.std.specs.Prelude.{ℕ, ◌+◌, ◌*◌, ◌-◌, ◌≤◌, ◌<◌, ◌≡◌, Bool, true, false, ltb}
use Rattle.systems.specs.Search.{any, run}

-- the sum of f 0 .. f (n - 1)
abbrev pub total : (ℕ → ℕ) → ℕ → ℕ
total f n = run 0 ◌+◌ f n

-- The potential of n rows of given widths, where c is above the width of any row: what can still be cut off, now and from rows yet to come.
unfoldable pub potential : ℕ → (ℕ → ℕ) → ℕ → ℕ
potential c width n = total width n + c * (255 - n)

-- one of the flags of n rows is up
abbrev pub some_up : (ℕ → ℕ → ℕ) → ℕ → ℕ → Bool
some_up f actions n = any (λ k. any (λ b. ltb 0 (f k b)) actions) n

-- 1 where one of them is, else 0
unfoldable pub any_up : (ℕ → ℕ → ℕ) → ℕ → ℕ → ℕ
any_up f actions n = elim (some_up f actions n) [ true ↦ 1 | false ↦ 0 ]

-- The measure of a loop of passes: the potential first, then whether a flag is up.
unfoldable pub measure : ℕ → (ℕ → ℕ → ℕ) → ℕ → ℕ → ℕ
measure p f actions n = 2 * p + any_up f actions n

-- Of what happens between two states of the loop, with potentials p and p': the potential does not rise, and where it stays, so do the rows, and no flag rises.
pub record Falling (p p' : ℕ) (f f' : ℕ → ℕ → ℕ) (n n' : ℕ) : Type 0 where
  pub falls : p' ≤ p
  pub rows_stay : p' ≡ p → n' ≡ n
  pub flags_down : p' ≡ p → (k b : ℕ) → k < n → b < 8 → f k b ≡ 0 → f' k b ≡ 0
