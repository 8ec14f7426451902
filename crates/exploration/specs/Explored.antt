-- What the exploration of a system finds: representatives of the classes of the reached configurations, numbered as first named.
use Prim.Native.Nat.{ℕ, suc, ◌≤◌, ◌<◌, max}
use Rattle.std.specs.Prelude.{◌≡◌, ◌↔◌, Bool, Option, Some, None}
use mathlib.Core.List.{List}
use Rattle.std.proofs.Math.Dec.{T}
use Rattle.std.proofs.Math.ListN.{length, get_or}
use Rattle.systems.specs.System.{System, Alike, Reached}
use Rattle.exploration.specs.Exploration.{visited, explore}

-- What an exploration rests on: the test tells equivalence on a set of configurations that holds the start and that no step leaves,
-- and all actions from a bound on are barred.
pub record Explorable {X : Type 0} (s : System X) (same : X → X → Bool) (actions : ℕ) (start : X) (C : X → Type 0) : Type 0 where
  pub starts : C start
  pub closed : (a : ℕ) (x y : X) → C x → s.step a x ≡ Some y → C y
  pub tells : (x y : X) → C x → C y → T (same x y) ↔ Alike s s x y
  pub bounded : (a : ℕ) → actions ≤ a → (x : X) → s.step a x ≡ None

-- The list begins with the start; its members are reached and covered, and no two of them are equivalent.
pub record Representatives {X : Type 0} (s : System X) (start : X) (C : X → Type 0) (l : List X) : Type 0 where
  pub nonempty : 0 < length l
  pub first : get_or l 0 start ≡ start
  pub reached : (i : ℕ) → i < length l → Reached s start (get_or l i start)
  pub covered : (i : ℕ) → i < length l → C (get_or l i start)
  pub apart : (i j : ℕ) → i < j → j < length l → Alike s s (get_or l i start) (get_or l j start) → ⊥

-- the list at the moment when action a from member i is looked at
unfoldable pub seen : {X : Type 0} → System X → (X → X → Bool) → ℕ → X → ℕ → ℕ → List X
seen s same actions start i a = visited s same (explore s same actions start i) (get_or (explore s same actions start i) i start) a

-- how many are named once a target is named, or none is
unfoldable pub grown : ℕ → Option ℕ → ℕ
grown c None = c
grown c (Some t) = max c (suc t)

-- member j was first named by action `by` from the earlier member `from`, as the next number
pub record Named {X : Type 0} (s : System X) (same : X → X → Bool) (actions : ℕ) (start : X) (n j : ℕ) : Type 0 where
  pub from : ℕ
  pub by : ℕ
  pub earlier : from < j
  pub visits : from < n
  pub below : by < actions
  pub leads : s.step by (get_or (explore s same actions start n) from start) ≡ Some (get_or (explore s same actions start n) j start)
  pub next : length (seen s same actions start from by) ≡ j

-- m configurations that are reached, no two of them equivalent
pub record Many {X : Type 0} (s : System X) (start : X) (m : ℕ) : Type 0 where
  pub each : ℕ → X
  pub reached : (i : ℕ) → i < m → Reached s start (each i)
  pub apart : (i j : ℕ) → i < j → j < m → Alike s s (each i) (each j) → ⊥

-- At most n classes are reached: each reached configuration is equivalent to one of n.
pub record Few {X : Type 0} (s : System X) (start : X) (n : ℕ) : Type 0 where
  pub each : ℕ → X
  pub named : (x : X) → Reached s start x → (i : ℕ) × (i < n) × Alike s s (each i) x
