-- Action sequences (words): where one leads, all of them by length and then in dictionary order, and the first that passes a test. Definitions only.
use Rattle.std.specs.Prelude.{ℕ, zero, suc, ◌<◌, ◌≡◌, Bool, true, false, List, [], ◌∷◌, map, length, Option, Some, None}
use Rattle.systems.specs.Lists.{collect}
use Rattle.systems.specs.System.{System, after}

-- where an action sequence leads from a configuration: a barred action leaves it as it is
unfoldable pub ended : {X : Type 0} → System X → List ℕ → X → X
ended s [] x = x
ended s (a ∷ w) x = ended s w (after x (s.step a x))

-- all lists of k numbers below m, in dictionary order: first those that begin with 0, then those that begin with 1, ..
unfoldable pub lists_below : ℕ → ℕ → List (List ℕ)
lists_below m zero = [] ∷ []
lists_below m (suc k) = collect (λ c. map (λ l. c ∷ l) (lists_below m k)) m

-- all lists of fewer than n numbers below m, by length and then in dictionary order: first the empty list, then those of one number, ..
unfoldable pub shorter_lists : ℕ → ℕ → List (List ℕ)
shorter_lists m n = collect (lists_below m) n

-- the first element of a list that passes a test
unfoldable pub first_that : {A : Type 0} → (A → Bool) → List A → Option A
first_that p [] = None
first_that p (x ∷ xs) = elim (p x) [ true ↦ Some x | false ↦ first_that p xs ]

-- dictionary order (lexicographic): the lists agree up to some index, where the first has the lesser number
pub data Before : List ℕ → List ℕ → Type 0 where
  less : {c d : ℕ} {cs ds : List ℕ} → c < d → Before (c ∷ cs) (d ∷ ds)
  later : {c : ℕ} {cs ds : List ℕ} → Before cs ds → Before (c ∷ cs) (c ∷ ds)

-- by length, and then in dictionary order (shortlex)
pub data Sooner : List ℕ → List ℕ → Type 0 where
  shorter : {v w : List ℕ} → length v < length w → Sooner v w
  as_long : {v w : List ℕ} → length v ≡ length w → Before v w → Sooner v w
