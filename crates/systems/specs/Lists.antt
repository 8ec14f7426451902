-- Lists put together from a front, and their laws. Knows nothing of transition systems.
use Rattle.std.specs.Prelude.{ℕ, zero, suc, ◌<◌, ◌≡◌, List, [], ◌++◌, length}

-- f 0 ++ f 1 ++ .. ++ f (n - 1)
unfoldable pub collect : {A : Type 0} → (ℕ → List A) → ℕ → List A
collect f zero = []
collect f (suc n) = collect f n ++ f n

-- each of the first n pieces has length w
abbrev pub Wide : {A : Type 0} → ℕ → (ℕ → List A) → ℕ → Type 0
Wide w f n = (i : ℕ) → i < n → length (f i) ≡ w
