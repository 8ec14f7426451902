-- Counting the classes of an equivalence on a list. Knows nothing of transition systems.
use Rattle.std.specs.Prelude.{ℕ, zero, suc, Bool, true, false, ◌||◌, T}
use mathlib.Core.List.{List, [], ◌∷◌, Memᴰ}

-- the numbers below n
unfoldable pub numbers : ℕ → List ℕ
numbers zero = []
numbers (suc n) = n ∷ numbers n

-- some member of the list passes the test
unfoldable pub has : {X : Type 0} → (X → Bool) → List X → Bool
has p [] = false
has p (y ∷ l) = p y || has p l

-- the number of classes of an equivalence on the list: it counts the members that no later one is equivalent to
unfoldable pub classes : {X : Type 0} → (X → X → Bool) → List X → ℕ
classes r [] = zero
classes r (x ∷ l) = elim (has (r x) l) [ true ↦ classes r l | false ↦ suc (classes r l) ]

-- on members of the list, the first test implies the second
abbrev pub Finer : {X : Type 0} → List X → (X → X → Bool) → (X → X → Bool) → Type 0
Finer {X} l f r = (x y : X) → Memᴰ x l → Memᴰ y l → T (f x y) → T (r x y)

-- the test is that of an equivalence on the members of the list
pub record EquivalenceOn {X : Type 0} (l : List X) (r : X → X → Bool) : Type 0 where
  pub reflexive : (x : X) → Memᴰ x l → T (r x x)
  pub symmetric : (x y : X) → Memᴰ x l → Memᴰ y l → T (r x y) → T (r y x)
  pub transitive : (x y z : X) → Memᴰ x l → Memᴰ y l → Memᴰ z l → T (r x y) → T (r y z) → T (r x z)
