-- Words that are noted as a tree: for each entry but entry 0 its parent, which stands before it, and an action.
use Rattle.std.specs.Prelude.{List, [], ◌∷◌, ◌++◌, ℕ, zero, suc, ◌≤◌, ◌<◌, get_or}

-- the parents of the entries up to k stand before them
abbrev pub Falling : List ℕ → ℕ → Type 0
Falling ps k = (j : ℕ) → 0 < j → j ≤ k → get_or ps j 0 < j

-- the word that is noted for entry k: that of its parent, and then the action noted for it; m steps at most
unfoldable pub climbed : ℕ → List ℕ → List ℕ → ℕ → List ℕ
climbed zero ps bs k = []
climbed (suc m) ps bs zero = []
climbed (suc m) ps bs (suc k) = climbed m ps bs (get_or ps (suc k) 0) ++ (get_or bs (suc k) 0 ∷ [])

-- The word that is noted for entry k, which takes at most k steps.
unfoldable pub noted_word : List ℕ → List ℕ → ℕ → List ℕ
noted_word ps bs k = climbed k ps bs k
