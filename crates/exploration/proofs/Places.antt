-- Laws of the place of an element among the members of a list, up to a test. Knows nothing of transition systems.
use Prim.Native.Nat.{ℕ, zero, suc, ◌≤◌, ◌<◌}
use Rattle.std.proofs.Common.{not-suc-le-zero, le_of_suc-le-suc, arith, ◌∙◌, inl, inr, length-append}
use Rattle.std.proofs.Math.Decide.{dec_lt}
use Rattle.std.specs.Prelude.{◌≡◌, ◌↔◌, ◌⊎◌, Bool, true, false, get_or, Option, Some, None, slice_get}
use Rattle.std.proofs.Math.Path.{refl, sym, ap, subst}
use Rattle.std.proofs.Math.Logic.{⊎_elim}
use mathlib.Core.List.{List, [], ◌∷◌, ◌++◌, append_assoc, append-nil}
use Rattle.std.proofs.Math.Dec.{T}
use Rattle.std.proofs.Math.ListN.{length, get_or-append}
use Rattle.std.proofs.Math.Seq.{get_or-append_seam}
use Rattle.systems.specs.Search.{least}
use Rattle.exploration.specs.Exploration.{place, known, added}
use Rattle.systems.specs.Laws.{Least}
use Rattle.systems.proofs.Laws.{told, true_is, not_true, least_here, least_later, least_least, least_is, least_lt}
use Rattle.exploration.specs.Places.{Prefix}

-- the member at an index below the length, and none past it
pub at_in : {X : Type 0} (l : List X) (i : ℕ) (d : X) → i < length l → slice_get l i ≡ Some (get_or l i d)
at_in [] i d h = absurd (not-suc-le-zero h)
at_in (x ∷ l) zero d h = refl
at_in (x ∷ l) (suc i) d h = at_in l i d (le_of_suc-le-suc h)

pub at_out : {X : Type 0} (l : List X) (i : ℕ) → length l ≤ i → slice_get l i ≡ None
at_out [] i h = refl
at_out (x ∷ l) zero h = absurd (not-suc-le-zero h)
at_out (x ∷ l) (suc i) h = at_out l i (le_of_suc-le-suc h)

pub prefix_refl : {X : Type 0} (l : List X) → Prefix l l
prefix_refl l = record { rest = []; is = sym (append-nil l) }

pub prefix_trans : {X : Type 0} {l m n : List X} → Prefix l m → Prefix m n → Prefix l n
prefix_trans {X} {l} {m} {n} p q =
    record { rest = p.rest ++ q.rest; is = q.is ∙ ap (λ (k : List X). k ++ q.rest) p.is ∙ append_assoc l p.rest q.rest }

pub prefix_length : {X : Type 0} {l m : List X} → Prefix l m → length l ≤ length m
prefix_length {X} {l} {m} p = let e = ap length p.is in omega (arith, length-append l p.rest)

-- a member stays where it is
pub prefix_at : {X : Type 0} {l m : List X} → Prefix l m → (d : X) (i : ℕ) → i < length l → get_or m i d ≡ get_or l i d
prefix_at {X} {l} {m} p d i h = ap (λ (k : List X). get_or k i d) p.is ∙ get_or-append l p.rest d i h

-- what holds of each member and of y holds of each member with y appended
pub each_snoc : {X : Type 0} (P : X → Type 0) (l : List X) (y d : X) → ((i : ℕ) → i < length l → P (get_or l i d)) → P y
    → (i : ℕ) → i < length (l ++ (y ∷ [])) → P (get_or (l ++ (y ∷ [])) i d)
each_snoc {X} P l y d h p i b = go (dec_lt i (length l))
  where
    go : Dec (i < length l) → P (get_or (l ++ (y ∷ [])) i d)
    go (yes c) = subst P (sym (get_or-append l (y ∷ []) d i c)) (h i c)
    go (no c) =
        let e : length l ≡ i = omega (arith, length-append l (y ∷ [])) in
        subst (λ (k : ℕ). P (get_or (l ++ (y ∷ [])) k d)) e (subst P (sym (get_or-append_seam l y [] d)) p)

module _ {X : Type 0} (same : X → X → Bool) where
  place_here : (m x : X) (l : List X) → same m x ≡ true → place same (m ∷ l) x ≡ zero
  unfolding place
  place_here m x l e = rw (e, place)

  place_later : (m x : X) (l : List X) → same m x ≡ false → place same (m ∷ l) x ≡ suc (place same l x)
  unfolding place
  place_later m x l e = rw (e, place)

  known_here : (m x : X) (l : List X) → same m x ≡ true → known same (m ∷ l) x ≡ true
  unfolding known
  known_here m x l e = rw (e, known)

  known_later : (m x : X) (l : List X) → same m x ≡ false → known same (m ∷ l) x ≡ known same l x
  unfolding known
  known_later m x l e = rw (e, known)

  -- the place is the least index of a member that passes
  pub place_least : (l : List X) (x d : X) → place same l x ≡ least (λ i. same (get_or l i d) x) (length l)
  unfolding place least
  place_least [] x d = refl
  place_least (m ∷ l) x d =
      ⊎_elim
      (λ e. place_here m x l e ∙ sym (least_here (λ i. same (get_or (m ∷ l) i d) x) (length l) e))
      (λ e. place_later m x l e ∙ ap suc (place_least l x d) ∙ sym (least_later (λ i. same (get_or (m ∷ l) i d) x) (length l) e))
      (told (same m x))

  pub place_first : (l : List X) (x d : X) → Least (λ i. same (get_or l i d) x) (length l) (place same l x)
  place_first l x d = subst (Least (λ i. same (get_or l i d) x) (length l)) (sym (place_least l x d)) (least_least (λ i. same (get_or l i d) x) (length l))

  pub place_le : (l : List X) (x : X) → place same l x ≤ length l
  place_le l x = (place_first l x x).le

  -- known is having a place below the length
  pub known_place : (l : List X) (x : X) → T (known same l x) ↔ (place same l x < length l)
  unfolding place known
  known_place [] x = (λ t. absurd t, λ h. absurd (not-suc-le-zero h))
  known_place (m ∷ l) x = go (known_place l x) (told (same m x))
    where
      go : T (known same l x) ↔ (place same l x < length l) → (same m x ≡ true) ⊎ (same m x ≡ false)
          → T (known same (m ∷ l) x) ↔ (place same (m ∷ l) x < suc (length l))
      go r (inl e) = (λ t. omega (arith, place_here m x l e), λ h. true_is (known same (m ∷ l) x) (known_here m x l e))
      go r (inr e) = (
        λ t. let h = r.0 (subst T (known_later m x l e) t) in omega (arith, place_later m x l e),
        λ h. subst T (sym (known_later m x l e)) (r.1 (omega (arith, place_later m x l e))),
      )

  pub place_new : (l : List X) (x : X) → known same l x ≡ false → place same l x ≡ length l
  place_new l x e = go (dec_lt (place same l x) (length l))
    where
      go : Dec (place same l x < length l) → place same l x ≡ length l
      go (yes h) = absurd (not_true (known same l x) e ((known_place l x).1 h))
      go (no h) = let b = place_le l x in omega arith

  pub known_in : (l : List X) (x d : X) (i : ℕ) → i < length l → T (same (get_or l i d) x) → T (known same l x)
  known_in l x d i h t =
      (known_place l x).1 (subst (λ (k : ℕ). k < length l) (sym (place_least l x d)) (least_lt (λ j. same (get_or l j d) x) (length l) i h t))

  pub known_at : (l : List X) (x d : X) → T (known same l x) → T (same (get_or l (place same l x) d) x)
  known_at l x d t = (place_first l x d).passes ((known_place l x).0 t)

  -- the place is the only index that passes with none before it that does
  pub place_is : (l : List X) (x d : X) (i : ℕ) → i < length l → T (same (get_or l i d) x) → ((j : ℕ) → j < i → T (same (get_or l j d) x) → ⊥)
      → place same l x ≡ i
  place_is l x d i h t b = place_least l x d ∙ least_is (λ j. same (get_or l j d) x) (length l) i (omega arith) (λ c. t) b

  -- and does not change as the list goes on
  pub prefix_known : {l m : List X} → Prefix l m → (x : X) → T (known same l x) → T (known same m x)
  prefix_known {l} {m} p x t =
      let h = (known_place l x).0 t in
      known_in m x x (place same l x) (omega (arith, prefix_length p)) (subst (λ (z : X). T (same z x)) (sym (prefix_at p x (place same l x) h)) (known_at l x x t))

  pub prefix_place : {l m : List X} → Prefix l m → (x : X) → T (known same l x) → place same m x ≡ place same l x
  prefix_place {l} {m} p x t =
      let h = (known_place l x).0 t in
      let k = place same l x in
      place_is m x x (place same l x) (omega (arith, prefix_length p)) (subst (λ (z : X). T (same z x)) (sym (prefix_at p x (place same l x) h)) (known_at l x x t))
      (λ j b u. (place_first l x x).first j b (subst (λ (z : X). T (same z x)) (prefix_at p x j (omega arith)) u))

  pub added_old : (l : List X) (y : X) → known same l y ≡ true → added same l (Some y) ≡ l
  unfolding added
  added_old l y e = rw (e, added)

  pub added_new : (l : List X) (y : X) → known same l y ≡ false → added same l (Some y) ≡ l ++ (y ∷ [])
  unfolding added
  added_new l y e = rw (e, added)

  pub added_prefix : (l : List X) (o : Option X) → Prefix l (added same l o)
  unfolding added
  added_prefix l None = prefix_refl l
  added_prefix l (Some y) =
      ⊎_elim
      (λ e. subst (Prefix l) (sym (added_old l y e)) (prefix_refl l))
      (λ e. record { rest = y ∷ []; is = added_new l y e })
      (told (known same l y))

  -- an appended element is known, and has the place that it had before: the length, where it was not known
  pub added_known : (l : List X) (y : X) → T (same y y) → T (known same (added same l (Some y)) y)
  added_known l y t = ⊎_elim old new (told (known same l y))
    where
      old : known same l y ≡ true → T (known same (added same l (Some y)) y)
      old e = prefix_known (added_prefix l (Some y)) y (true_is (known same l y) e)

      new : known same l y ≡ false → T (known same (added same l (Some y)) y)
      new e =
          subst
          (λ (m : List X). T (known same m y))
          (sym (added_new l y e))
          (known_in (l ++ (y ∷ [])) y y (length l) (omega (arith, length-append l (y ∷ []))) (subst (λ (z : X). T (same z y)) (sym (get_or-append_seam l y [] y)) t))

  pub added_place : (l : List X) (y : X) → T (same y y) → place same (added same l (Some y)) y ≡ place same l y
  added_place l y t = ⊎_elim old new (told (known same l y))
    where
      old : known same l y ≡ true → place same (added same l (Some y)) y ≡ place same l y
      old e = prefix_place (added_prefix l (Some y)) y (true_is (known same l y) e)

      new : known same l y ≡ false → place same (added same l (Some y)) y ≡ place same l y
      new e =
          ap (λ (m : List X). place same m y) (added_new l y e)
          ∙ place_is (l ++ (y ∷ [])) y y (length l) (omega (arith, length-append l (y ∷ [])))
          (subst (λ (z : X). T (same z y)) (sym (get_or-append_seam l y [] y)) t)
          (λ j b u. not_true (known same l y) e (known_in l y y j b (subst (λ (z : X). T (same z y)) (get_or-append l (y ∷ []) y j b) u)))
          ∙ sym (place_new l y e)
