-- Numbers that are given as first named: the tree of first namings gives each its first word, the shortest that leads to it and of several the first in
-- dictionary order. An exploration gives such numbers.
use Rattle.std.specs.Prelude.{ℕ, ◌<◌, ◌≡◌, ◌⊎◌, Some, None}
use mathlib.Core.List.{List, [], ◌∷◌, ◌++◌}
use Rattle.systems.specs.System.{System, first_barred, Alike}
use Rattle.systems.specs.Words.{ended, Sooner}

-- action a of number i is looked at before action b of number j: by number, then by action
abbrev pub Earlier : ℕ → ℕ → ℕ → ℕ → Type 0
Earlier i a j b = (i < j) ⊎ ((i ≡ j) × (a < b))

-- A system on the numbers below n that are given as first named (document 01: "numbered as first named, reading records in order and targets by action").
pub record NumberedAsNamed (t : System ℕ) (n : ℕ) : Type 0 where
  -- how many are named, 0 among them, when action a of number i is looked at: all to which something earlier leads
  pub named : ℕ → ℕ → ℕ
  pub counted : (i a j b k : ℕ) → Earlier i a j b → j < n → t.step a i ≡ Some k → k < named j b
  -- each number but 0 is named by a smaller one, as the next
  pub origin : (k : ℕ) → 0 < k → k < n → (i : ℕ) × (a : ℕ) × (i < k) × (t.step a i ≡ Some k) × (named i a ≡ k)
  pub closed : (a i k : ℕ) → i < n → t.step a i ≡ Some k → k < n

-- action a of number i leads to k, and nothing earlier does
pub record FirstNaming (t : System ℕ) (i a k : ℕ) : Type 0 where
  pub leads : t.step a i ≡ Some k
  pub first : (j b : ℕ) → Earlier j b i a → t.step b j ≡ Some k → ⊥

-- The word of a number along the tree of first namings: that of 0 is empty, that of any other is the word of the number that first names it, and then the
-- action by which it does.
pub data Along (t : System ℕ) : ℕ → List ℕ → Type 0 where
  along_start : Along t 0 []
  along_naming : {i a k : ℕ} {v : List ℕ} → Along t i v → 0 < k → FirstNaming t i a k → Along t k (v ++ (a ∷ []))

-- What the first word is that leads from the start of a system to number k of another: it leads there with nothing barred on the way, and no sequence that
-- leads to what is equivalent to k is sooner.
pub record FirstWord {X : Type 0} (s : System X) (start : X) (t : System ℕ) (k : ℕ) (w : List ℕ) : Type 0 where
  pub arrives : Alike s t (ended s w start) k
  pub unbarred : first_barred s w start ≡ None
  pub first : (v : List ℕ) → Alike s t (ended s v start) k → Sooner v w → ⊥
