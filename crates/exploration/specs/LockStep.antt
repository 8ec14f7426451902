-- Two explorations that go in lock step: related starts, related steps and tests that agree give related members at the same indices.
use Prim.Native.Nat.{ℕ, ◌<◌}
use Rattle.std.proofs.Math.Path.{◌≡◌}
use Rattle.std.specs.Prelude.{Bool, List, [], ◌∷◌}
use Rattle.systems.specs.System.{System, Alike}
use Rattle.systems.specs.Alike.{Both}

-- two lists of one length, related index by index
pub data All2 {X Y : Type 0} (R : X → Y → Type 0) : List X → List Y → Type 0 where
  nil2 : All2 R [] []
  cons2 : {x : X} {y : Y} {l : List X} {m : List Y} → R x y → All2 R l m → All2 R (x ∷ l) (y ∷ m)

-- Steps below the bound preserve the relation, and under it the two tests agree.
pub record LockStep {X Y : Type 0} (s : System X) (t : System Y) (same₁ : X → X → Bool) (same₂ : Y → Y → Bool) (actions : ℕ) (R : X → Y → Type 0) : Type 0 where
  pub tests : (x x' : X) (y y' : Y) → R x y → R x' y' → same₁ x x' ≡ same₂ y y'
  pub steps : (x : X) (y : Y) → R x y → (a : ℕ) → a < actions → Both R (s.step a x) (t.step a y)

-- covered in both systems, and equivalent
abbrev pub Matched : {X Y : Type 0} → System X → System Y → (X → Type 0) → (Y → Type 0) → X → Y → Type 0
Matched s t C D x y = C x × D y × Alike s t x y
