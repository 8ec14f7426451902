-- The Moore bound: a chain of ever finer equivalences on a finite list settles within as many steps as the list is longer than the
-- first has classes.
use Prim.Native.Nat.{ℕ, zero, suc, ◌+◌, ◌≤◌, ◌<◌}
use Rattle.std.proofs.Math.Decide.{dec_le, le_ind}
use native.Mathlib.Omega.{arith}
use Rattle.std.specs.Prelude.{◌≡◌, ◌↔◌, ◌⊎◌, Bool, ltb, length, Option, Some}
use Rattle.std.proofs.Math.Path.{refl}
use Rattle.std.proofs.Common.{sym, subst, inl, inr, ⊎_elim}
use mathlib.Core.List.{List, Memᴰ}
use Rattle.std.proofs.Math.Bool.{true, false}
use Rattle.std.proofs.Math.Dec.{T, ltb→lt, lt→ltb}
use Rattle.systems.specs.Search.{run, count}
use Rattle.systems.specs.System.{System, Alike}
use Rattle.systems.specs.Alike.{Both, both_barred, both_open, AlikeTo}
use Rattle.systems.proofs.Alike.{alike_to_suc, alike_to_le, alike_depths, alike_to_equivalence}
use Rattle.exploration.specs.Counting.{Finer, classes, numbers}
use Rattle.exploration.proofs.Counting.{classes_le, classes_some, classes_finer, classes_same, numbers_length, numbers_mem}
use Rattle.exploration.specs.Moore.{Chain, changed, changes, Tested}

module _ {X : Type 0} (l : List X) (e : ℕ → X → X → Bool) (C : Chain l e) where
  -- a step that makes no new class changes nothing
  agree : (k : ℕ) → classes (e (suc k)) l ≤ classes (e k) l → Finer l (e k) (e (suc k))
  agree k h = classes_same (e (suc k)) (e k) l (C.equivalence (suc k)) (C.equivalence k) (C.finer k) h

  -- a step makes new classes exactly where its two equivalences differ
  pub changed_differs : (k : ℕ) → T (changed l e k) ↔ (Finer l (e k) (e (suc k)) → ⊥)
  unfolding changed
  changed_differs k = (
    λ t f. let c = classes_finer (e k) (e (suc k)) l f in let b = ltb→lt (classes (e k) l) (classes (e (suc k)) l) t in omega arith,
    λ f. go f (dec_le (classes (e (suc k)) l) (classes (e k) l)),
  )
    where
      go : (Finer l (e k) (e (suc k)) → ⊥) → Dec (classes (e (suc k)) l ≤ classes (e k) l) → T (ltb (classes (e k) l) (classes (e (suc k)) l))
      go f (yes h) = absurd (f (agree k h))
      go f (no h) = lt→ltb (classes (e k) l) (classes (e (suc k)) l) (omega arith)

  changes_grow : (m : ℕ) → classes (e 0) l + changes l e m ≤ classes (e m) l
  unfolding changes count run changed
  changes_grow zero = omega arith
  changes_grow (suc m) = go (changes_grow m) (changed l e m) refl
    where
      go : classes (e 0) l + changes l e m ≤ classes (e m) l → (b : Bool) → changed l e m ≡ b
          → classes (e 0) l + (changes l e m + elim b [ true ↦ 1 | false ↦ 0 ]) ≤ classes (e (suc m)) l
      go h true t = let b = ltb→lt (classes (e m) l) (classes (e (suc m)) l) (subst T (sym t) tt) in omega arith
      go h false t = let b = classes_finer (e (suc m)) (e m) l (C.finer m) in omega arith

  -- Of however many steps, at most as many change the equivalence as the list is longer than the first equivalence has classes.
  pub changes_le : (m : ℕ) → classes (e 0) l + changes l e m ≤ length l
  changes_le m = let h = changes_grow m in let b = classes_le (e m) l in omega arith

  grown : (k : ℕ) → Finer l (e k) (e (suc k)) ⊎ (classes (e 0) l + suc k ≤ classes (e (suc k)) l)
  grown zero = go (dec_le (classes (e 1) l) (classes (e 0) l))
    where
      go : Dec (classes (e 1) l ≤ classes (e 0) l) → Finer l (e 0) (e 1) ⊎ (classes (e 0) l + 1 ≤ classes (e 1) l)
      go (yes h) = inl (agree 0 h)
      go (no h) = inr (omega arith)
  grown (suc k) = go (grown k) (dec_le (classes (e (suc (suc k))) l) (classes (e (suc k)) l))
    where
      go : Finer l (e k) (e (suc k)) ⊎ (classes (e 0) l + suc k ≤ classes (e (suc k)) l) → Dec (classes (e (suc (suc k))) l ≤ classes (e (suc k)) l)
          → Finer l (e (suc k)) (e (suc (suc k))) ⊎ (classes (e 0) l + suc (suc k) ≤ classes (e (suc (suc k))) l)
      go (inl f) d = inl (C.settled k f)
      go (inr g) (yes h) = inl (agree (suc k) h)
      go (inr g) (no h) = inr (omega arith)

  -- the steps from the bound on change nothing
  pub settled_from : (k : ℕ) → length l ≤ classes (e 0) l + k → Finer l (e k) (e (suc k))
  settled_from k h = ⊎_elim (λ f. f) (λ g. let b = classes_le (e (suc k)) l in absurd (omega arith)) (grown k)

  later : (j k : ℕ) → j ≤ k → Finer l (e k) (e j)
  later j k h = le_ind (λ m. Finer l (e m) (e j)) (λ x y m n t. t) (λ m b f x y p q t. f x y p q (C.finer m x y p q t)) k h

  -- The Moore bound: what the equivalence at the bound relates, all relate.
  pub moore : (n : ℕ) → length l ≤ classes (e 0) l + n → (k : ℕ) → Finer l (e n) (e k)
  moore n h k = go (dec_le n k)
    where
      go : Dec (n ≤ k) → Finer l (e n) (e k)
      go (yes b) = le_ind (λ m. Finer l (e n) (e m)) (λ x y m o t. t) (λ m b' f x y p q t. settled_from m (omega arith) x y p q (f x y p q t)) k b
      go (no b) = later k n (omega arith)

  -- the length of the list is a bound
  pub moore_length : (k : ℕ) → Finer l (e (length l)) (e k)
  moore_length k = moore (length l) (omega arith) k

module _ {X : Type 0} (s : System X) (l : List X) (e : ℕ → X → X → Bool) (D : Tested s l e) where
  deeper : (k : ℕ) → Finer l (e k) (e (suc k)) → (o u : Option X) → ((y : X) → o ≡ Some y → Memᴰ y l) → ((y : X) → u ≡ Some y → Memᴰ y l)
      → Both (AlikeTo k s s) o u → Both (AlikeTo (suc k) s s) o u
  deeper k f o u ho hu both_barred = both_barred
  deeper k f o u ho hu (both_open {x = x} {y = y} r) =
      let m = ho x refl in
      let n = hu y refl in
      both_open ((D.tells (suc k) x y m n).0 (f x y m n ((D.tells k x y m n).1 r)))

  -- equivalence to depth 0, 1, .. is a chain
  pub depths_chain : Chain l e
  depths_chain =
      record {
        equivalence =
            λ k.
            let E = alike_to_equivalence k s in
            record {
              reflexive = λ x m. (D.tells k x x m m).1 (E.refl x);
              symmetric = λ x y m n t. (D.tells k y x n m).1 (E.symm x y ((D.tells k x y m n).0 t));
              transitive = λ x y z m n o t u. (D.tells k x z m o).1 (E.trans x y z ((D.tells k x y m n).0 t) ((D.tells k y z n o).0 u));
            };
        finer = λ k x y m n t. (D.tells k x y m n).1 (alike_to_le s s x y (omega arith) ((D.tells (suc k) x y m n).0 t));
        settled =
            λ k f x y m n t.
            let (b, g) = (alike_to_suc s s k x y).0 ((D.tells (suc k) x y m n).0 t) in
            (D.tells (suc (suc k)) x y m n).1
            ((alike_to_suc s s (suc k) x y).1
            (b, λ a. deeper k f (s.step a x) (s.step a y) (λ z q. D.closed a x z m q) (λ z q. D.closed a y z n q) (g a)));
      }

  -- Equivalence to the Moore bound is equivalence.
  pub alike_moore : (n : ℕ) → length l ≤ classes (e 0) l + n → (x y : X) → Memᴰ x l → Memᴰ y l → AlikeTo n s s x y → Alike s s x y
  alike_moore n h x y p q r =
      (alike_depths s s x y).1 (λ k. (D.tells k x y p q).0 (moore l e depths_chain n h k x y p q ((D.tells n x y p q).1 r)))

  pub alike_length : (x y : X) → Memᴰ x l → Memᴰ y l → AlikeTo (length l) s s x y → Alike s s x y
  alike_length = alike_moore (length l) (omega arith)

-- The same for a system on the numbers below n: tests of equivalence to each depth, and steps that stay below n. A depth one less than n is enough.
pub alike_numbers : (s : System ℕ) (n m : ℕ) (e : ℕ → ℕ → ℕ → Bool) → ((a i j : ℕ) → i < n → s.step a i ≡ Some j → j < n)
    → ((k i j : ℕ) → i < n → j < n → T (e k i j) ↔ AlikeTo k s s i j) → n ≤ suc m → (i j : ℕ) → i < n → j < n → AlikeTo m s s i j → Alike s s i j
alike_numbers s n m e closed tells b i j hi hj h =
    let l = numbers_length n in
    let c = classes_some (e 0) (numbers n) i ((numbers_mem n i).1 hi) in
    alike_moore s (numbers n) e
    (record {
      closed = λ a x y m q. (numbers_mem n y).1 (closed a x y ((numbers_mem n x).0 m) q);
      tells = λ k x y m o. tells k x y ((numbers_mem n x).0 m) ((numbers_mem n y).0 o);
    })
    m (omega arith) i j ((numbers_mem n i).1 hi) ((numbers_mem n j).1 hj) h
