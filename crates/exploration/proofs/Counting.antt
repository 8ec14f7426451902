-- Counting the classes of an equivalence on a list. Knows nothing of transition systems.
use Rattle.std.specs.Prelude.{ℕ, zero, suc, ◌≤◌, ◌<◌, ◌≡◌, refl, ◌↔◌, ◌⊎◌, Bool, true, false, T, length}
use Rattle.std.proofs.Common.{not-suc-le-zero, arith, sym, ap, subst, subst₂, inl, inr, ⊎_elim}
use mathlib.Core.List.{List, [], ◌∷◌, Memᴰ}
use Rattle.systems.proofs.Laws.{told, true_is, not_true, or_cases, or_left, or_right, below_suc}
use Rattle.exploration.specs.Counting.{numbers, has, classes, Finer, EquivalenceOn}

pub numbers_length : (n : ℕ) → length (numbers n) ≡ n
unfolding numbers
numbers_length zero = refl
numbers_length (suc n) = ap suc (numbers_length n)

numbers_in : (n i : ℕ) → i < n → Memᴰ i (numbers n)
unfolding numbers
numbers_in zero i h = absurd (not-suc-le-zero h)
numbers_in (suc n) i h = ⊎_elim (λ e. mathlib.Core.List.Memᴰ.head e) (λ l. mathlib.Core.List.Memᴰ.tail (numbers_in n i l)) (below_suc h)

numbers_out : (n i : ℕ) → Memᴰ i (numbers n) → i < n
unfolding numbers
numbers_out zero i m = absurd (mathlib.Core.List.Memᴰ.not-nil m)
numbers_out (suc n) i (mathlib.Core.List.Memᴰ.head e) = omega arith
numbers_out (suc n) i (mathlib.Core.List.Memᴰ.tail m) = let h = numbers_out n i m in omega arith

pub numbers_mem : (n i : ℕ) → Memᴰ i (numbers n) ↔ (i < n)
numbers_mem n i = (numbers_out n i, numbers_in n i)

pub has_in : {X : Type 0} (p : X → Bool) (l : List X) (y : X) → Memᴰ y l → T (p y) → T (has p l)
unfolding has
has_in p [] y m t = absurd (mathlib.Core.List.Memᴰ.not-nil m)
has_in {X} p (x ∷ l) y (mathlib.Core.List.Memᴰ.head e) t = or_left (p x) (has p l) (subst (λ (z : X). T (p z)) e t)
has_in p (x ∷ l) y (mathlib.Core.List.Memᴰ.tail m) t = or_right (p x) (has p l) (has_in p l y m t)

pub has_out : {X : Type 0} (p : X → Bool) (l : List X) → T (has p l) → (y : X) × Memᴰ y l × T (p y)
unfolding has
has_out p [] t = absurd t
has_out p (x ∷ l) t =
    ⊎_elim (λ h. (x, mathlib.Core.List.Memᴰ.head refl, h)) (λ h. let (y, m, u) = has_out p l h in (y, mathlib.Core.List.Memᴰ.tail m, u)) (or_cases (p x) (has p l) t)

pub classes_old : {X : Type 0} (r : X → X → Bool) (x : X) (l : List X) → has (r x) l ≡ true → classes r (x ∷ l) ≡ classes r l
unfolding classes
classes_old r x l e = rw (e, classes)

pub classes_new : {X : Type 0} (r : X → X → Bool) (x : X) (l : List X) → has (r x) l ≡ false → classes r (x ∷ l) ≡ suc (classes r l)
unfolding classes
classes_new r x l e = rw (e, classes)

-- a list with a member has a class
pub classes_some : {X : Type 0} (r : X → X → Bool) (l : List X) (y : X) → Memᴰ y l → 0 < classes r l
unfolding classes has
classes_some r [] y m = absurd (mathlib.Core.List.Memᴰ.not-nil m)
classes_some r (x ∷ []) y m = omega arith
classes_some r (x ∷ (z ∷ l)) y m = go (has (r x) (z ∷ l)) (classes_some r (z ∷ l) z (mathlib.Core.List.Memᴰ.head refl))
  where
    go : (b : Bool) → 0 < classes r (z ∷ l) → 0 < elim b [ true ↦ classes r (z ∷ l) | false ↦ suc (classes r (z ∷ l)) ]
    go true h = h
    go false h = omega arith

-- there are at most as many classes as members
pub classes_le : {X : Type 0} (r : X → X → Bool) (l : List X) → classes r l ≤ length l
unfolding classes
classes_le r [] = omega arith
classes_le r (x ∷ l) =
    let h = classes_le r l in
    ⊎_elim (λ e. omega (arith, classes_old r x l e)) (λ e. omega (arith, classes_new r x l e)) (told (has (r x) l))

-- and at least one where there is a member
pub classes_pos : {X : Type 0} (r : X → X → Bool) (x : X) (l : List X) → 0 < classes r (x ∷ l)
unfolding has
classes_pos r x [] = omega (arith, classes_new r x [] refl)
classes_pos r x (y ∷ l) =
    let h = classes_pos r y l in
    ⊎_elim (λ e. omega (arith, classes_old r x (y ∷ l) e)) (λ e. omega (arith, classes_new r x (y ∷ l) e)) (told (has (r x) (y ∷ l)))

finer_tail : {X : Type 0} (f r : X → X → Bool) (x : X) (l : List X) → Finer (x ∷ l) f r → Finer l f r
finer_tail f r x l h y z m n t = h y z (mathlib.Core.List.Memᴰ.tail m) (mathlib.Core.List.Memᴰ.tail n) t

equivalence_tail : {X : Type 0} {r : X → X → Bool} {x : X} {l : List X} → EquivalenceOn (x ∷ l) r → EquivalenceOn l r
equivalence_tail E =
    record {
      reflexive = λ y m. E.reflexive y (mathlib.Core.List.Memᴰ.tail m);
      symmetric = λ y z m n. E.symmetric y z (mathlib.Core.List.Memᴰ.tail m) (mathlib.Core.List.Memᴰ.tail n);
      transitive = λ y z w m n o. E.transitive y z w (mathlib.Core.List.Memᴰ.tail m) (mathlib.Core.List.Memᴰ.tail n) (mathlib.Core.List.Memᴰ.tail o);
    }

finer_has : {X : Type 0} (f r : X → X → Bool) (x : X) (l : List X) → Finer (x ∷ l) f r → T (has (f x) l) → T (has (r x) l)
finer_has f r x l h t =
    let (y, m, u) = has_out (f x) l t in
    has_in (r x) l y m (h x y (mathlib.Core.List.Memᴰ.head refl) (mathlib.Core.List.Memᴰ.tail m) u)

-- a finer equivalence has at least as many classes
pub classes_finer : {X : Type 0} (f r : X → X → Bool) (l : List X) → Finer l f r → classes r l ≤ classes f l
unfolding classes
classes_finer f r [] h = omega arith
classes_finer f r (x ∷ l) h = go (classes_finer f r l (finer_tail f r x l h)) (told (has (f x) l)) (told (has (r x) l))
  where
    go : classes r l ≤ classes f l → (has (f x) l ≡ true) ⊎ (has (f x) l ≡ false) → (has (r x) l ≡ true) ⊎ (has (r x) l ≡ false) → classes r (x ∷ l) ≤ classes f (x ∷ l)
    go b (inl p) (inl q) = omega (arith, classes_old f x l p, classes_old r x l q)
    go b (inl p) (inr q) = absurd (not_true (has (r x) l) q (finer_has f r x l h (true_is (has (f x) l) p)))
    go b (inr p) (inl q) = omega (arith, classes_new f x l p, classes_old r x l q)
    go b (inr p) (inr q) = omega (arith, classes_new f x l p, classes_new r x l q)

-- a finer equivalence with as many classes is the same one
pub classes_same : {X : Type 0} (f r : X → X → Bool) (l : List X) → EquivalenceOn l f → EquivalenceOn l r → Finer l f r → classes f l ≤ classes r l → Finer l r f
unfolding classes
classes_same f r [] F R h c = λ x y m n t. absurd (mathlib.Core.List.Memᴰ.not-nil m)
classes_same {X} f r (x ∷ l) F R h c =
    go (told (has (f x) l)) (told (has (r x) l)) (λ d. classes_same f r l (equivalence_tail F) (equivalence_tail R) (finer_tail f r x l h) d)
  where
    at : Memᴰ x (x ∷ l)
    at = mathlib.Core.List.Memᴰ.head refl

    -- where the tails agree, and x has an equal among the later members by r only if it has one by f
    join : Finer l r f → (T (has (r x) l) → T (has (f x) l)) → Finer (x ∷ l) r f
    join g k y z m n t = pick m n
      where
        one : (v : X) → Memᴰ v l → T (r x v) → T (f x v)
        one v o u =
            let (w, p, q) = has_out (f x) l (k (has_in (r x) l v o u)) in
            let p' : Memᴰ w (x ∷ l) = mathlib.Core.List.Memᴰ.tail p in
            let o' : Memᴰ v (x ∷ l) = mathlib.Core.List.Memᴰ.tail o in
            F.transitive x w v at p' o' q (g w v p o (R.transitive w x v p' at o' (R.symmetric x w at p' (h x w at p' q)) u))

        pick : Memᴰ y (x ∷ l) → Memᴰ z (x ∷ l) → T (f y z)
        pick (mathlib.Core.List.Memᴰ.head e) (mathlib.Core.List.Memᴰ.head d) = subst₂ (λ (a b : X). T (f a b)) (sym e) (sym d) (F.reflexive x at)
        pick (mathlib.Core.List.Memᴰ.head e) (mathlib.Core.List.Memᴰ.tail d) = subst (λ (a : X). T (f a z)) (sym e) (one z d (subst (λ (a : X). T (r a z)) e t))
        pick (mathlib.Core.List.Memᴰ.tail e) (mathlib.Core.List.Memᴰ.head d) =
            subst
            (λ (a : X). T (f y a))
            (sym d)
            (F.symmetric x y at (mathlib.Core.List.Memᴰ.tail e) (one y e (R.symmetric y x (mathlib.Core.List.Memᴰ.tail e) at (subst (λ (a : X). T (r y a)) d t))))
        pick (mathlib.Core.List.Memᴰ.tail e) (mathlib.Core.List.Memᴰ.tail d) = g y z e d t

    b : classes r l ≤ classes f l
    b = classes_finer f r l (finer_tail f r x l h)

    go : (has (f x) l ≡ true) ⊎ (has (f x) l ≡ false) → (has (r x) l ≡ true) ⊎ (has (r x) l ≡ false) → (classes f l ≤ classes r l → Finer l r f) → Finer (x ∷ l) r f
    go (inl p) (inl q) g = join (g (omega (arith, classes_old f x l p, classes_old r x l q))) (λ t. true_is (has (f x) l) p)
    go (inl p) (inr q) g = absurd (not_true (has (r x) l) q (finer_has f r x l h (true_is (has (f x) l) p)))
    go (inr p) (inl q) g = absurd (omega (arith, classes_new f x l p, classes_old r x l q, b))
    go (inr p) (inr q) g = join (g (omega (arith, classes_new f x l p, classes_new r x l q))) (λ t. absurd (not_true (has (r x) l) q t))
