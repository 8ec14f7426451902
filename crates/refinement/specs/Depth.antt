-- How deep each row of a table is: to what depth its members read as its representative does. Knows nothing of boxes.
use Rattle.std.specs.Prelude.{ℕ, ◌≤◌, ◌<◌, ◌≡◌, ◌⊎◌, T, Some}
use Rattle.systems.specs.Alike.{Both, AlikeTo}
use Rattle.refinement.specs.Table.{Frame}

-- The rows have the same representatives as before, and nothing new.
pub record Shrunk {X Row : Type 0} (F : Frame X Row) (n : ℕ) (row row' : ℕ → Row) : Type 0 where
  pub represents : (k : ℕ) → k < n → F.representative (row' k) ≡ F.representative (row k)
  pub inside : (k : ℕ) → k < n → (y : X) → T (F.has (row' k) y) → T (F.has (row k) y)

-- Row i is k deep: no sequence of at most k actions tells its members from its representative, and where an action leads from the representative
-- some representative reads the same to each lesser depth.
pub record Deep {X Row : Type 0} (F : Frame X Row) (n : ℕ) (row : ℕ → Row) (k i : ℕ) : Type 0 where
  pub members : (y : X) → T (F.has (row i) y) → AlikeTo k F.system F.system (F.representative (row i)) y
  pub closed : (m a : ℕ) (q : X) → m < k → F.system.step a (F.representative (row i)) ≡ Some q
      → (j : ℕ) × (j < n) × AlikeTo m F.system F.system (F.representative (row j)) q

-- each row i is d i deep
abbrev pub AllDeep : {X Row : Type 0} → Frame X Row → ℕ → (ℕ → Row) → (ℕ → ℕ) → Type 0
AllDeep F n row d = (i : ℕ) → i < n → Deep F n row (d i) i

-- No sequence of at most k actions tells where action a leads from the members of the row r, nor that from some representative of the table.
pub record Near {X Row : Type 0} (F : Frame X Row) (n : ℕ) (row : ℕ → Row) (k : ℕ) (r : Row) (a : ℕ) : Type 0 where
  pub leads : (y : X) → T (F.has r y) → Both (AlikeTo k F.system F.system) (F.system.step a (F.representative r)) (F.system.step a y)
  pub known : (q : X) → F.system.step a (F.representative r) ≡ Some q → (j : ℕ) × (j < n) × AlikeTo k F.system F.system (F.representative (row j)) q

-- The same to the depth d t of its stored target t; to every depth where it is barred (255).
pub record Reaches {X Row : Type 0} (F : Frame X Row) (n : ℕ) (row : ℕ → Row) (d : ℕ → ℕ) (r : Row) (a t : ℕ) : Type 0 where
  pub near : (k : ℕ) → (t ≡ 255) ⊎ (k ≤ d t) → Near F n row k r a
