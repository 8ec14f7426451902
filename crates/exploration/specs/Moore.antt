-- The Moore bound: a chain of ever finer equivalences on a finite list settles within as many steps as the list is longer than the
-- first has classes.
use Prim.Native.Nat.{ℕ, suc}
use Rattle.std.specs.Prelude.{◌≡◌, ◌↔◌, Bool, ltb, Some}
use mathlib.Core.List.{List, Memᴰ}
use Rattle.std.proofs.Math.Dec.{T}
use Rattle.systems.specs.Search.{count}
use Rattle.systems.specs.System.{System}
use Rattle.systems.specs.Alike.{AlikeTo}
use Rattle.exploration.specs.Counting.{Finer, EquivalenceOn, classes}

-- ever finer equivalences on a list, which change no more once two neighbours agree
pub record Chain {X : Type 0} (l : List X) (e : ℕ → X → X → Bool) : Type 0 where
  pub equivalence : (k : ℕ) → EquivalenceOn l (e k)
  pub finer : (k : ℕ) → Finer l (e (suc k)) (e k)
  pub settled : (k : ℕ) → Finer l (e k) (e (suc k)) → Finer l (e (suc k)) (e (suc (suc k)))

-- step k of the chain makes new classes
unfoldable pub changed : {X : Type 0} → List X → (ℕ → X → X → Bool) → ℕ → Bool
changed l e k = ltb (classes (e k) l) (classes (e (suc k)) l)

-- how many of the first m steps do
unfoldable pub changes : {X : Type 0} → List X → (ℕ → X → X → Bool) → ℕ → ℕ
changes l e = count (changed l e)

-- For a system and a list that its steps do not leave, with tests of equivalence to each depth on the list's members:
pub record Tested {X : Type 0} (s : System X) (l : List X) (e : ℕ → X → X → Bool) : Type 0 where
  pub closed : (a : ℕ) (x y : X) → Memᴰ x l → s.step a x ≡ Some y → Memᴰ y l
  pub tells : (k : ℕ) (x y : X) → Memᴰ x l → Memᴰ y l → T (e k x y) ↔ AlikeTo k s s x y
