-- The list of all numbers that pass a test begins with the least of them.
use Rattle.std.specs.Prelude.{Bool, List, [], ◌∷◌, ℕ, ◌<◌, T}

-- what such a list says by how it begins: empty, nothing below n passes; else its first entry does, and nothing before that
unfoldable pub Begun : (ℕ → Bool) → ℕ → List ℕ → Type 0
Begun p n [] = (i : ℕ) → i < n → T (p i) → ⊥
Begun p n (x ∷ l) = (x < n) × (T (p x) × ((i : ℕ) → i < x → T (p i) → ⊥))
