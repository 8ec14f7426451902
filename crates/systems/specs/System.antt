-- Deterministic partial transition systems and what is read on them.
use Rattle.std.specs.Prelude.{ℕ, suc, ◌<◌, ◌≡◌, Bool, true, false, ◌&&◌, List, [], ◌∷◌, eqb, Option, Some, None, option_map}

-- A transition system (definition 2.1 of source 000, deterministic and partial as in source 002): the label of a configuration
-- stands for its block of the initial partition; an action gives the next configuration, or none where it is barred.
pub record System (X : Type 0) : Type 0 where
  pub label : X → ℕ
  pub step : ℕ → X → Option X

-- where an action leads: a barred one leaves the configuration as it is
unfoldable pub after : {X : Type 0} → X → Option X → X
after x None = x
after x (Some y) = y

-- what an action writes: the label where it leads, or 65,535 in the label's place where it is barred
unfoldable pub entry : {X : Type 0} → System X → Option X → ℕ
entry s None = 65535
entry s (Some y) = s.label y

-- what the actions of a sequence write, one entry each
unfoldable pub written : {X : Type 0} → System X → List ℕ → X → List ℕ
written s [] x = []
written s (a ∷ w) x = entry s (s.step a x) ∷ written s w (after x (s.step a x))

-- the index of the first barred action, counted from 0, by the first action and what comes later
unfoldable pub earliest : {X : Type 0} → Option X → Option ℕ → Option ℕ
earliest None later = Some 0
earliest (Some y) later = option_map suc later

-- the same of a sequence, or none where nothing is barred
unfoldable pub first_barred : {X : Type 0} → System X → List ℕ → X → Option ℕ
first_barred s [] x = None
first_barred s (a ∷ w) x = earliest (s.step a x) (first_barred s w (after x (s.step a x)))

-- A reading (document 01, as changed by U5 of document 02; an output sequence in the field): its entries in order, and the index of the first barred action,
-- or none. Where no label is 65,535 the entries alone tell that index (Entries.antt).
pub record Reading : Type 0 where
  pub entries : List ℕ
  pub barred : Option ℕ

-- two lists have the same numbers in the same order
unfoldable pub same_numbers : List ℕ → List ℕ → Bool
same_numbers [] [] = true
same_numbers [] (y ∷ m) = false
same_numbers (x ∷ l) [] = false
same_numbers (x ∷ l) (y ∷ m) = eqb x y && same_numbers l m

-- the same index, or none in both
unfoldable pub same_index : Option ℕ → Option ℕ → Bool
same_index None None = true
same_index None (Some j) = false
same_index (Some i) None = false
same_index (Some i) (Some j) = eqb i j

-- whether two readings are equal (document 01): the same entries in the same order, and the same first barred index, or none in both
unfoldable pub same_reading : Reading → Reading → Bool
same_reading r q = same_numbers r.entries q.entries && same_index r.barred q.barred

-- the reading of an action sequence from a configuration, of whatever length: the label there, and an entry for each action
unfoldable pub reading : {X : Type 0} → System X → List ℕ → X → Reading
reading s w x = record { entries = s.label x ∷ written s w x; barred = first_barred s w x }

-- Two configurations, also of different systems, are equivalent (document 01) when all sequences read the same from both.
abbrev pub Alike : {X Y : Type 0} → System X → System Y → X → Y → Type 0
Alike s t x y = (w : List ℕ) → reading s w x ≡ reading t w y

-- every action of the sequence is below n
pub data Below (n : ℕ) : List ℕ → Type 0 where
  below_nil : Below n []
  below_cons : {a : ℕ} {w : List ℕ} → a < n → Below n w → Below n (a ∷ w)

-- Reached (document 01): the start, and whatever an open action gives from a reached configuration.
pub data Reached {X : Type 0} (s : System X) (start : X) : X → Type 0 where
  at_start : Reached s start start
  by_step : {x y : X} → (a : ℕ) → Reached s start x → s.step a x ≡ Some y → Reached s start y
