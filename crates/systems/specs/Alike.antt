-- Equivalence of configurations: what a reading says, the one-step law, equivalence to a depth, and bisimulations.
use Rattle.std.specs.Prelude.{ℕ, suc, ◌≤◌, ◌≡◌, List, ◌∷◌, length, Option, Some, None, option_map}
use Rattle.systems.specs.System.{System, Reading, reading}

-- one label and one open action before a reading: the actions' indices rise by one
unfoldable pub before : ℕ → Reading → Reading
before l r = record { entries = l ∷ r.entries; barred = option_map suc r.barred }

-- one label and one barred action before what further actions write
unfoldable pub skipping : ℕ → List ℕ → Reading
skipping l rest = record { entries = l ∷ 65535 ∷ rest; barred = Some 0 }

-- two steps are both barred, or both open to related configurations
pub data Both {X Y : Type 0} (R : X → Y → Type 0) : Option X → Option Y → Type 0 where
  both_barred : Both R None None
  both_open : {x : X} {y : Y} → R x y → Both R (Some x) (Some y)

-- the two configurations read the same on the sequences of a kind
abbrev pub AlikeOn : {X Y : Type 0} → (List ℕ → Type 0) → System X → System Y → X → Y → Type 0
AlikeOn P s t x y = (w : List ℕ) → P w → reading s w x ≡ reading t w y

-- at most k actions
abbrev pub AlikeTo : {X Y : Type 0} → ℕ → System X → System Y → X → Y → Type 0
AlikeTo k s t x y = (w : List ℕ) → length w ≤ k → reading s w x ≡ reading t w y

module _ {X Y : Type 0} (s : System X) (t : System Y) where
  -- A bisimulation (definition 2.2 of source 000): related configurations have one label, and each action leads to related ones.
  pub record Bisimulation (R : X → Y → Type 0) : Type 0 where
    pub label : (x : X) (y : Y) → R x y → s.label x ≡ t.label y
    pub next : (x : X) (y : Y) → R x y → (a : ℕ) → Both R (s.step a x) (t.step a y)
