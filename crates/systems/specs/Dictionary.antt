-- Laws of dictionary order, alone and behind the length, and of the search through all lists in such an order.
use Rattle.std.specs.Prelude.{◌≡◌, Bool, ◌⊎◌, List, T, length, get_or, Option, None, Some}
use Prim.Native.Nat.{ℕ, ◌<◌}
use Rattle.systems.specs.System.{Below}
use Rattle.systems.specs.Words.{Sooner}

-- v is w or sooner
abbrev pub NoLater : List ℕ → List ℕ → Type 0
NoLater v w = (v ≡ w) ⊎ Sooner v w

-- a list of k numbers below m
pub record ListBelow (m k : ℕ) (l : List ℕ) : Type 0 where
  pub long : length l ≡ k
  pub below : (i : ℕ) → i < k → get_or l i 0 < m

-- What a search among the elements with P has found: the first in the order R that passes, or nothing where none passes.
pub data Found {A : Type 0} (R : A → A → Type 0) (P : A → Type 0) (p : A → Bool) : Option A → Type 0 where
  found : {x : A} → P x → T (p x) → ((y : A) → P y → T (p y) → R y x → ⊥) → Found R P p (Some x)
  nothing : ((y : A) → P y → T (p y) → ⊥) → Found R P p None

-- an element of one of the first n pieces
abbrev pub Among : {A : Type 0} → (ℕ → A → Type 0) → ℕ → A → Type 0
Among P n x = (c : ℕ) × (c < n) × P c x

-- a sequence of fewer than n actions below m
pub record Shorter (m n : ℕ) (w : List ℕ) : Type 0 where
  pub short : length w < n
  pub of_actions : Below m w
