-- Actions that two systems lack part nothing: a sequence without them parts what the sequence parts, and is no later.
use Rattle.std.specs.Prelude.{List, [], ◌∷◌, ℕ, ◌≤◌, ◌<◌}

-- the sequence w without the actions from n on
pub data Kept (n : ℕ) : List ℕ → List ℕ → Type 0 where
  kept_nil : Kept n [] []
  kept_action : {a : ℕ} {v w : List ℕ} → a < n → Kept n v w → Kept n (a ∷ v) (a ∷ w)
  left_out : {a : ℕ} {v w : List ℕ} → n ≤ a → Kept n v w → Kept n v (a ∷ w)
