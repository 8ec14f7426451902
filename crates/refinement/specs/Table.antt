-- The table of the algorithm: rows, each a representative with a set of configurations that holds its class. Sound tables, cuts, new rows, and what
-- a stable table holds. Knows nothing of boxes.
use Rattle.std.specs.Prelude.{ℕ, ◌≤◌, ◌<◌, ◌≡◌, ◌↔◌, Bool, T, Some, None}
use Rattle.systems.specs.System.{System, Alike, Reached}
use Rattle.systems.specs.Alike.{Both}

-- What a table is about: a system with its start, a set of configurations that no step leaves, regions, and rows with a representative and a membership test.
pub record Frame (X Row : Type 0) : Type 1 where
  pub system : System X
  pub actions : ℕ
  pub start : X
  pub Covered : X → Type 0
  pub region : X → ℕ
  pub representative : Row → X
  pub has : Row → X → Bool

-- Regions refine labels and barred actions, and are unions of classes.
pub record Framed {X Row : Type 0} (F : Frame X Row) : Type 0 where
  pub starts : F.Covered F.start
  pub closed : (a : ℕ) (x y : X) → F.Covered x → F.system.step a x ≡ Some y → F.Covered y
  pub labels : (x y : X) → F.Covered x → F.Covered y → F.region x ≡ F.region y → F.system.label x ≡ F.system.label y
  pub opens : (x y : X) → F.Covered x → F.Covered y → F.region x ≡ F.region y → (a : ℕ)
      → Both (λ (x' y' : X). Unit {0}) (F.system.step a x) (F.system.step a y)
  pub saturates : (x y : X) → F.Covered x → F.Covered y → Alike F.system F.system x y → F.region x ≡ F.region y
  pub bounded : (a : ℕ) → F.actions ≤ a → (x : X) → F.system.step a x ≡ None

-- A sound row: its representative is reached and in it, what is in it is covered and of the representative's region, and with a configuration
-- all that are equivalent to it are in it.
pub record SoundRow {X Row : Type 0} (F : Frame X Row) (r : Row) : Type 0 where
  pub reached : Reached F.system F.start (F.representative r)
  pub holds : T (F.has r (F.representative r))
  pub covered : (x : X) → T (F.has r x) → F.Covered x
  pub regional : (x : X) → T (F.has r x) → F.region (F.representative r) ≡ F.region x
  pub saturated : (x y : X) → T (F.has r x) → F.Covered y → Alike F.system F.system x y → T (F.has r y)

-- A sound table of n rows: the first representative is the start, each row is sound, and no two representatives are equivalent.
pub record Sound {X Row : Type 0} (F : Frame X Row) (n : ℕ) (row : ℕ → Row) : Type 0 where
  pub nonempty : 0 < n
  pub first : F.representative (row 0) ≡ F.start
  pub rows : (i : ℕ) → i < n → SoundRow F (row i)
  pub apart : (i j : ℕ) → i < j → j < n → Alike F.system F.system (F.representative (row i)) (F.representative (row j)) → ⊥

-- action a leads from y into the row w
pub record Leads {X Row : Type 0} (F : Frame X Row) (a : ℕ) (y : X) (w : Row) : Type 0 where
  pub next : X
  pub leads : F.system.step a y ≡ Some next
  pub inside : T (F.has w next)

-- The row r' is the whole region of q, with q as its representative.
pub record Whole {X Row : Type 0} (F : Frame X Row) (q : X) (r' : Row) : Type 0 where
  pub represents : F.representative r' ≡ q
  pub exact : (y : X) → T (F.has r' y) ↔ (F.Covered y × (F.region q ≡ F.region y))

-- The row r' is r cut to what action a leads into the row w.
pub record Cut {X Row : Type 0} (F : Frame X Row) (a : ℕ) (r w r' : Row) : Type 0 where
  pub represents : F.representative r' ≡ F.representative r
  pub exact : (y : X) → T (F.has r' y) ↔ (T (F.has r y) × Leads F a y w)

-- Action a leads from all of the row r into the row w.
abbrev pub Settled : {X Row : Type 0} → Frame X Row → ℕ → Row → Row → Type 0
Settled {X} F a r w = (y : X) → T (F.has r y) → Leads F a y w

-- Row r is stable for action a with the stored target t: the action is barred and t is 255, or it leads from all of r into row t.
pub data StableAt {X Row : Type 0} (F : Frame X Row) (n : ℕ) (row : ℕ → Row) (r : Row) (a t : ℕ) : Type 0 where
  stable_barred : F.system.step a (F.representative r) ≡ None → t ≡ 255 → StableAt F n row r a t
  stable_open : t < n → Settled F a r (row t) → StableAt F n row r a t

-- every row is stable for every action, with its stored targets
abbrev pub Stable : {X Row : Type 0} → Frame X Row → ℕ → (ℕ → Row) → (ℕ → ℕ → ℕ) → Type 0
Stable F n row t = (i a : ℕ) → i < n → a < F.actions → StableAt F n row (row i) a (t i a)
