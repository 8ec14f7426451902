-- Two explorations that go in lock step: related starts, related steps and tests that agree give related members at the same indices.
use Prim.Native.Nat.{ℕ, zero, suc, ◌≤◌, ◌<◌}
use Rattle.std.proofs.Common.{not-suc-le-zero, le_of_suc-le-suc, le_refl, arith, sym, ◌∙◌}
use Rattle.std.proofs.Math.Decide.{dec_lt}
use Rattle.std.proofs.Math.Path.{◌≡◌, refl, ap}
use Rattle.std.specs.Prelude.{Bool, List, [], ◌∷◌, ◌++◌, length, get_or, Option, Some, option_map, slice_get}
use Rattle.std.proofs.Math.Bool.{true, false}
use Rattle.systems.specs.System.{System, Alike}
use Rattle.exploration.specs.Exploration.{place, known, added, visited, visited_at, visited_next, explore}
use Rattle.systems.proofs.Laws.{same_test}
use Rattle.systems.specs.Alike.{Both, both_barred, both_open}
use Rattle.systems.proofs.Alike.{alike_next}
use Rattle.exploration.specs.Explored.{Explorable}
use Rattle.exploration.specs.LockStep.{All2, nil2, cons2, LockStep, Matched}

pub all2_length : {X Y : Type 0} {R : X → Y → Type 0} {l : List X} {m : List Y} → All2 R l m → length l ≡ length m
all2_length nil2 = refl
all2_length (cons2 r h) = ap suc (all2_length h)

pub all2_at : {X Y : Type 0} {R : X → Y → Type 0} {l : List X} {m : List Y} → All2 R l m → (d : X) (e : Y) (i : ℕ) → i < length l
    → R (get_or l i d) (get_or m i e)
all2_at nil2 d e i h = absurd (not-suc-le-zero h)
all2_at (cons2 r q) d e zero h = r
all2_at (cons2 r q) d e (suc i) h = all2_at q d e i (le_of_suc-le-suc h)

all2_both : {X Y : Type 0} {R : X → Y → Type 0} {l : List X} {m : List Y} → All2 R l m → (i : ℕ) → Both R (slice_get l i) (slice_get m i)
all2_both nil2 i = both_barred
all2_both (cons2 r q) zero = both_open r
all2_both (cons2 r q) (suc i) = all2_both q i

all2_snoc : {X Y : Type 0} {R : X → Y → Type 0} {l : List X} {m : List Y} {x : X} {y : Y} → All2 R l m → R x y → All2 R (l ++ (x ∷ [])) (m ++ (y ∷ []))
all2_snoc nil2 s = cons2 s nil2
all2_snoc (cons2 r q) s = cons2 r (all2_snoc q s)

pub all2_map : {X Y : Type 0} {R S : X → Y → Type 0} {l : List X} {m : List Y} → ((x : X) (y : Y) → R x y → S x y) → All2 R l m → All2 S l m
all2_map f nil2 = nil2
all2_map f (cons2 {x = x} {y = y} r q) = cons2 (f x y r) (all2_map f q)

module _ {X Y : Type 0} (s : System X) (t : System Y) (same₁ : X → X → Bool) (same₂ : Y → Y → Bool) (actions : ℕ) (R : X → Y → Type 0)
    (L : LockStep s t same₁ same₂ actions R) where
  -- related configurations have the same place among related members
  pub lock_place : {l : List X} {m : List Y} (x : X) (y : Y) → All2 R l m → R x y → place same₁ l x ≡ place same₂ m y
  unfolding place
  lock_place x y nil2 r = refl
  lock_place x y (cons2 {x = x'} {y = y'} {l = l} {m = m} q h) r =
      ap (λ (b : Bool). elim b as (λ c. ℕ) [ true ↦ zero | false ↦ suc (place same₁ l x) ]) (L.tests x' x y' y q r)
      ∙ ap (λ (k : ℕ). elim (same₂ y' y) as (λ c. ℕ) [ true ↦ zero | false ↦ suc k ]) (lock_place x y h r)

  pub lock_known : {l : List X} {m : List Y} (x : X) (y : Y) → All2 R l m → R x y → known same₁ l x ≡ known same₂ m y
  unfolding known
  lock_known x y nil2 r = refl
  lock_known x y (cons2 {x = x'} {y = y'} {l = l} {m = m} q h) r =
      ap (λ (b : Bool). elim b as (λ c. Bool) [ true ↦ true | false ↦ known same₁ l x ]) (L.tests x' x y' y q r)
      ∙ ap (λ (k : Bool). elim (same₂ y' y) as (λ c. Bool) [ true ↦ true | false ↦ k ]) (lock_known x y h r)

  lock_added : {l : List X} {m : List Y} {o : Option X} {u : Option Y} → All2 R l m → Both R o u → All2 R (added same₁ l o) (added same₂ m u)
  unfolding added
  lock_added h both_barred = h
  lock_added {l} {m} h (both_open {x = x} {y = y} r) = go (known same₁ l x) (known same₂ m y) (lock_known x y h r)
    where
      go : (b c : Bool) → b ≡ c → All2 R (elim b [ true ↦ l | false ↦ l ++ (x ∷ []) ]) (elim c [ true ↦ m | false ↦ m ++ (y ∷ []) ])
      go true true e = h
      go true false e = let z : ◌≡◌ {A = ℕ} 0 1 = cc in absurd (omega arith)
      go false true e = let z : ◌≡◌ {A = ℕ} 0 1 = cc in absurd (omega arith)
      go false false e = all2_snoc h r

  pub lock_visited : {l : List X} {m : List Y} (x : X) (y : Y) → All2 R l m → R x y → (a : ℕ) → a ≤ actions → All2 R (visited s same₁ l x a) (visited t same₂ m y a)
  unfolding visited
  lock_visited x y h r zero b = h
  lock_visited x y h r (suc a) b = lock_added (lock_visited x y h r a (omega arith)) (L.steps x y r a b)

  lock_next : {l : List X} {m : List Y} → All2 R l m → (n : ℕ) → All2 R (visited_next s same₁ actions l n) (visited_next t same₂ actions m n)
  unfolding visited_next visited_at
  lock_next {l} {m} h n = go (all2_both h n)
    where
      go : {o : Option X} {u : Option Y} → Both R o u → All2 R (visited_at s same₁ actions l o) (visited_at t same₂ actions m u)
      go both_barred = h
      go (both_open {x = x} {y = y} r) = lock_visited x y h r actions (le_refl actions)

  -- Lock step: from related starts, the members of the two explorations are related index by index.
  pub lock_explore : (x : X) (y : Y) → R x y → (n : ℕ) → All2 R (explore s same₁ actions x n) (explore t same₂ actions y n)
  unfolding explore
  lock_explore x y r zero = cons2 r nil2
  lock_explore x y r (suc n) = lock_next (lock_explore x y r n) n

  -- and an action of corresponding members is barred in both, or has the same place in both
  pub lock_step_place : (x : X) (y : Y) → R x y → (n i a : ℕ) → i < length (explore s same₁ actions x n) → a < actions
      → option_map (place same₁ (explore s same₁ actions x n)) (s.step a (get_or (explore s same₁ actions x n) i x))
      ≡ option_map (place same₂ (explore t same₂ actions y n)) (t.step a (get_or (explore t same₂ actions y n) i y))
  lock_step_place x y r n i a h b = go (L.steps (get_or (explore s same₁ actions x n) i x) (get_or (explore t same₂ actions y n) i y) (all2_at all x y i h) a b)
    where
      all : All2 R (explore s same₁ actions x n) (explore t same₂ actions y n)
      all = lock_explore x y r n

      go : {o : Option X} {u : Option Y} → Both R o u → option_map (place same₁ (explore s same₁ actions x n)) o ≡ option_map (place same₂ (explore t same₂ actions y n)) u
      go both_barred = refl
      go (both_open {x = x'} {y = y'} q) = ap (λ (k : ℕ). Some k) (lock_place x' y' all q)

module _ {X Y : Type 0} (s : System X) (t : System Y) (same₁ : X → X → Bool) (same₂ : Y → Y → Bool) (actions : ℕ) (x₀ : X) (y₀ : Y) (C : X → Type 0) (D : Y → Type 0)
    (E : Explorable s same₁ actions x₀ C) (F : Explorable t same₂ actions y₀ D) where
  -- equivalence is such a relation
  pub alike_lock_step : LockStep s t same₁ same₂ actions (Matched s t C D)
  alike_lock_step =
      record { tests = tests; steps = λ x y r a b. both x y r a (s.step a x) (t.step a y) refl refl (alike_next s t x y r.2 a) }
    where
      both : (x : X) (y : Y) → Matched s t C D x y → (a : ℕ) (o : Option X) (u : Option Y) → s.step a x ≡ o → t.step a y ≡ u
          → Both (Alike s t) o u → Both (Matched s t C D) o u
      both x y r a o u p q both_barred = both_barred
      both x y r a o u p q (both_open {x = x'} {y = y'} h) = both_open (E.closed a x x' r.0 p, F.closed a y y' r.1 q, h)

      tests : (x x' : X) (y y' : Y) → Matched s t C D x y → Matched s t C D x' y' → same₁ x x' ≡ same₂ y y'
      tests x x' y y' r r' =
          same_test
          (same₁ x x')
          (same₂ y y') (
            λ h. (F.tells y y' r.1 r'.1).1 (λ w. sym (r.2 w) ∙ (E.tells x x' r.0 r'.0).0 h w ∙ r'.2 w),
            λ h. (E.tells x x' r.0 r'.0).1 (λ w. r.2 w ∙ (F.tells y y' r.1 r'.1).0 h w ∙ sym (r'.2 w)),
          )

  -- Two explorations from equivalent starts have equivalent members at the same indices,
  pub alike_explore : Alike s t x₀ y₀ → (n : ℕ) → All2 (Alike s t) (explore s same₁ actions x₀ n) (explore t same₂ actions y₀ n)
  alike_explore h n =
      all2_map (λ x y r. r.2) (lock_explore s t same₁ same₂ actions (Matched s t C D) alike_lock_step x₀ y₀ (E.starts, F.starts, h) n)

  -- so the same length,
  pub alike_explore_length : Alike s t x₀ y₀ → (n : ℕ) → length (explore s same₁ actions x₀ n) ≡ length (explore t same₂ actions y₀ n)
  alike_explore_length h n = all2_length (alike_explore h n)

  -- and each action of corresponding members is barred in both, or leads to the same place
  pub alike_explore_place : Alike s t x₀ y₀ → (n i a : ℕ) → i < length (explore s same₁ actions x₀ n)
      → option_map (place same₁ (explore s same₁ actions x₀ n)) (s.step a (get_or (explore s same₁ actions x₀ n) i x₀))
      ≡ option_map (place same₂ (explore t same₂ actions y₀ n)) (t.step a (get_or (explore t same₂ actions y₀ n) i y₀))
  alike_explore_place h n i a b = go (dec_lt a actions)
    where
      x : X
      x = get_or (explore s same₁ actions x₀ n) i x₀

      y : Y
      y = get_or (explore t same₂ actions y₀ n) i y₀

      go : Dec (a < actions)
          → option_map (place same₁ (explore s same₁ actions x₀ n)) (s.step a x) ≡ option_map (place same₂ (explore t same₂ actions y₀ n)) (t.step a y)
      go (yes c) = lock_step_place s t same₁ same₂ actions (Matched s t C D) alike_lock_step x₀ y₀ (E.starts, F.starts, h) n i a b c
      go (no c) =
          ap (option_map (place same₁ (explore s same₁ actions x₀ n))) (E.bounded a (omega arith) x)
          ∙ sym (ap (option_map (place same₂ (explore t same₂ actions y₀ n))) (F.bounded a (omega arith) y))
