-- The exploration of a transition system up to a test of membership in a class, in the order in which configurations are first named.
use Rattle.std.specs.Prelude.{ℕ, zero, suc, Bool, true, false, List, [], ◌∷◌, ◌++◌, Option, Some, None, slice_get}
use Rattle.systems.specs.System.{System}

-- the index of the first member m with same m x, or the length where there is none
unfoldable pub place : {X : Type 0} → (X → X → Bool) → List X → X → ℕ
place same [] x = zero
place same (m ∷ l) x = elim (same m x) [ true ↦ zero | false ↦ suc (place same l x) ]

-- some member m has same m x
unfoldable pub known : {X : Type 0} → (X → X → Bool) → List X → X → Bool
known same [] x = false
known same (m ∷ l) x = elim (same m x) [ true ↦ true | false ↦ known same l x ]

-- the list with a configuration appended, unless it is barred or known
unfoldable pub added : {X : Type 0} → (X → X → Bool) → List X → Option X → List X
added same l None = l
added same l (Some y) = elim (known same l y) [ true ↦ l | false ↦ l ++ (y ∷ []) ]

-- the list after the first a actions from x, in order
unfoldable pub visited : {X : Type 0} → System X → (X → X → Bool) → List X → X → ℕ → List X
visited s same l x zero = l
visited s same l x (suc a) = added same (visited s same l x a) (s.step a x)

-- the list after all actions from a configuration, if there is one
unfoldable pub visited_at : {X : Type 0} → System X → (X → X → Bool) → ℕ → List X → Option X → List X
visited_at s same actions l None = l
visited_at s same actions l (Some x) = visited s same l x actions

-- the list after its member n has been visited, if it has one
unfoldable pub visited_next : {X : Type 0} → System X → (X → X → Bool) → ℕ → List X → ℕ → List X
visited_next s same actions l n = visited_at s same actions l (slice_get l n)

-- the list after the first n members have been visited, in order. All are visited once its length is at most n.
unfoldable pub explore : {X : Type 0} → System X → (X → X → Bool) → ℕ → X → ℕ → List X
explore s same actions start zero = start ∷ []
explore s same actions start (suc n) = visited_next s same actions (explore s same actions start n) n
