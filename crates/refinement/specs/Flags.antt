-- Flags and stored targets: which actions of which rows need not be looked at again. Knows nothing of boxes.
use Rattle.std.specs.Prelude.{ℕ, ◌<◌, ◌≡◌}
use Rattle.refinement.specs.Table.{Frame, StableAt}

-- Every action of a row whose flag is down (0) is stable with its stored target.
pub record Quiet {X Row : Type 0} (F : Frame X Row) (n : ℕ) (row : ℕ → Row) (t f : ℕ → ℕ → ℕ) : Type 0 where
  pub stable : (k b : ℕ) → k < n → b < F.actions → f k b ≡ 0 → StableAt F n row (row k) b (t k b)

-- the targets t' are t but for action a of row i
abbrev pub Elsewhere : ℕ → ℕ → ℕ → ℕ → (ℕ → ℕ → ℕ) → (ℕ → ℕ → ℕ) → Type 0
Elsewhere n actions i a t t' = (k b : ℕ) → k < n → b < actions → (k ≡ i → b ≡ a → ⊥) → t' k b ≡ t k b

-- of the flags f' only that of action a of row i may be down where it was up in f
abbrev pub Lowered : ℕ → ℕ → ℕ → ℕ → (ℕ → ℕ → ℕ) → (ℕ → ℕ → ℕ) → Type 0
Lowered n actions i a f f' = (k b : ℕ) → k < n → b < actions → (k ≡ i → b ≡ a → ⊥) → f' k b ≡ 0 → f k b ≡ 0
