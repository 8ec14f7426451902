-- Laws of dictionary order, alone and behind the length, and of the search through all lists in such an order.
use Rattle.std.specs.Prelude.{◌≡◌, Bool, true, false, ◌↔◌, ◌⊎◌, List, [], ◌∷◌, ◌++◌, map, T, length, get_or, Option, None, Some, option_map}
use Rattle.std.proofs.Math.Path.{refl, subst}
use Rattle.std.proofs.Common.{sym, ap, ◌∙◌, inl, inr, ⊎_elim, arith, le_of_suc-le-suc, length-append}
use Prim.Native.Nat.{ℕ, zero, suc, ◌<◌}
use Rattle.std.proofs.Math.Nat.{not-suc-le-zero}
use Rattle.systems.specs.Lists.{collect}
use Rattle.systems.proofs.Laws.{true_is, not_true, below_suc}
use Rattle.systems.specs.System.{Below, below_nil, below_cons}
use Rattle.systems.specs.Words.{lists_below, shorter_lists, first_that, Before, less, later, Sooner, shorter, as_long}
use Rattle.systems.specs.Dictionary.{NoLater, ListBelow, Found, found, nothing, Among, Shorter}

-- nothing is before the empty list
pub nil_first : {cs ds : List ℕ} → Before cs ds → length ds ≡ 0 → ⊥
nil_first (less h) e = omega arith
nil_first (later b) e = omega arith

pub before_cases : {c d : ℕ} {cs ds : List ℕ} → Before (c ∷ cs) (d ∷ ds) → (c < d) ⊎ ((c ≡ d) × Before cs ds)
before_cases (less h) = inl h
before_cases (later b) = inr (refl, b)

pub compared : (c d : ℕ) → (c < d) ⊎ ((c ≡ d) ⊎ (d < c))
compared zero zero = inr (inl refl)
compared zero (suc d) = inl (omega arith)
compared (suc c) zero = inr (inr (omega arith))
compared (suc c) (suc d) = ⊎_elim (λ h. inl (omega arith)) (λ s. ⊎_elim (λ p. inr (inl (ap suc p))) (λ h. inr (inr (omega arith))) s) (compared c d)

-- of two lists of one length one is before the other, or they are equal
pub ordered : (cs ds : List ℕ) → length cs ≡ length ds → (cs ≡ ds) ⊎ (Before cs ds ⊎ Before ds cs)
ordered [] [] e = inl refl
ordered [] (d ∷ ds) e = absurd (omega arith)
ordered (c ∷ cs) [] e = absurd (omega arith)
ordered (c ∷ cs) (d ∷ ds) e = go (compared c d) (ordered cs ds (omega arith))
  where
    behind : c ≡ d → (cs ≡ ds) ⊎ (Before cs ds ⊎ Before ds cs) → (◌≡◌ {A = List ℕ} (c ∷ cs) (d ∷ ds)) ⊎ (Before (c ∷ cs) (d ∷ ds) ⊎ Before (d ∷ ds) (c ∷ cs))
    behind p (inl q) = inl (λ i. p i ∷ q i)
    behind p (inr (inl b)) = inr (inl (subst (λ (k : ℕ). Before (c ∷ cs) (k ∷ ds)) p (later b)))
    behind p (inr (inr b)) = inr (inr (subst (λ (k : ℕ). Before (k ∷ ds) (c ∷ cs)) p (later b)))

    go : (c < d) ⊎ ((c ≡ d) ⊎ (d < c)) → (cs ≡ ds) ⊎ (Before cs ds ⊎ Before ds cs)
        → (◌≡◌ {A = List ℕ} (c ∷ cs) (d ∷ ds)) ⊎ (Before (c ∷ cs) (d ∷ ds) ⊎ Before (d ∷ ds) (c ∷ cs))
    go (inl h) o = inr (inl (less h))
    go (inr (inl p)) o = behind p o
    go (inr (inr h)) o = inr (inr (less h))

-- no list is before itself, and what is before a list is before all that come behind that
before_irreflexive : (v : List ℕ) → Before v v → ⊥
before_irreflexive [] b = nil_first b refl
before_irreflexive (c ∷ v) b = ⊎_elim (λ h. omega arith) (λ q. before_irreflexive v q.1) (before_cases b)

before_trans : {u v w : List ℕ} → Before u v → Before v w → Before u w
before_trans (less {c = c} h) (less {d = d} k) = less {c = c} {d = d} (omega arith)
before_trans (less h) (later c) = less h
before_trans (later b) (less k) = less k
before_trans (later b) (later c) = later (before_trans b c)

-- whatever is appended
before_append : {v w : List ℕ} (x y : List ℕ) → Before v w → Before (v ++ x) (w ++ y)
before_append x y (less h) = less h
before_append x y (later b) = later (before_append x y b)

before_last : (v : List ℕ) {a b : ℕ} → a < b → Before (v ++ (a ∷ [])) (v ++ (b ∷ []))
before_last [] h = less h
before_last (c ∷ v) h = later (before_last v h)

-- By length first: a list is sooner than itself with a number more,
pub sooner_more : (v : List ℕ) (a : ℕ) → Sooner v (v ++ (a ∷ []))
sooner_more v a = shorter {v = v} {w = v ++ (a ∷ [])} (omega (arith, length-append v (a ∷ [])))

-- and the empty list than any that ends in a number.
pub nil_sooner : (v : List ℕ) (a : ℕ) → Sooner [] (v ++ (a ∷ []))
nil_sooner v a = shorter {v = []} {w = v ++ (a ∷ [])} (omega (arith, length-append v (a ∷ [])))

-- Of two lists one is sooner, or they are equal.
pub sooner_ordered : (v w : List ℕ) → (v ≡ w) ⊎ (Sooner v w ⊎ Sooner w v)
sooner_ordered v w = go (compared (length v) (length w))
  where
    go : (length v < length w) ⊎ ((length v ≡ length w) ⊎ (length w < length v)) → (v ≡ w) ⊎ (Sooner v w ⊎ Sooner w v)
    go (inl h) = inr (inl (shorter h))
    go (inr (inr h)) = inr (inr (shorter h))
    go (inr (inl e)) = ⊎_elim (λ q. inl q) (λ o. inr (⊎_elim (λ b. inl (as_long e b)) (λ b. inr (as_long (sym e) b)) o)) (ordered v w e)

pub sooner_irreflexive : {v : List ℕ} → Sooner v v → ⊥
sooner_irreflexive (shorter h) = omega arith
sooner_irreflexive {v} (as_long e b) = before_irreflexive v b

pub sooner_trans : {u v w : List ℕ} → Sooner u v → Sooner v w → Sooner u w
sooner_trans {u} {v} {w} (shorter h) (shorter k) = shorter {v = u} {w = w} (omega arith)
sooner_trans {u} {v} {w} (shorter h) (as_long e c) = shorter {v = u} {w = w} (omega arith)
sooner_trans {u} {v} {w} (as_long d b) (shorter k) = shorter {v = u} {w = w} (omega arith)
sooner_trans (as_long d b) (as_long e c) = as_long (d ∙ e) (before_trans b c)

-- whatever of one length is appended to lists of which one is sooner
pub sooner_append : {v w : List ℕ} (x y : List ℕ) → length x ≡ length y → Sooner v w → Sooner (v ++ x) (w ++ y)
sooner_append {v} {w} x y l (shorter h) = shorter {v = v ++ x} {w = w ++ y} (omega (arith, length-append v x, length-append w y))
sooner_append {v} {w} x y l (as_long e c) =
    let q : length (v ++ x) ≡ length (w ++ y) = omega (arith, length-append v x, length-append w y) in
    as_long q (before_append x y c)

-- one number more: whichever it is behind lists of which one is sooner, the lesser one first behind the same list
pub sooner_snoc : {v w : List ℕ} (a b : ℕ) → Sooner v w → Sooner (v ++ (a ∷ [])) (w ++ (b ∷ []))
sooner_snoc a b s = sooner_append (a ∷ []) (b ∷ []) refl s

pub sooner_last : (v : List ℕ) {a b : ℕ} → a < b → Sooner (v ++ (a ∷ [])) (v ++ (b ∷ []))
sooner_last v {a} {b} h =
    let q : length (v ++ (a ∷ [])) ≡ length (v ++ (b ∷ [])) = omega (arith, length-append v (a ∷ []), length-append v (b ∷ [])) in
    as_long q (before_last v h)

pub no_later_trans : {u v w : List ℕ} → NoLater u v → NoLater v w → NoLater u w
no_later_trans {u} {v} {w} (inl e) (inl q) = inl (e ∙ q)
no_later_trans {u} {v} {w} (inl e) (inr q) = inr (subst (λ (l : List ℕ). Sooner l w) (sym e) q)
no_later_trans {u} {v} {w} (inr p) (inl q) = inr (subst (Sooner u) q p)
no_later_trans {u} {v} {w} (inr p) (inr q) = inr (sooner_trans p q)

pub no_later_append : {v w : List ℕ} (x : List ℕ) → NoLater v w → NoLater (v ++ x) (w ++ x)
no_later_append x (inl e) = inl (ap (λ (l : List ℕ). l ++ x) e)
no_later_append x (inr p) = inr (sooner_append x x refl p)

pub below_in : {m k c : ℕ} {l : List ℕ} → c < m → ListBelow m k l → ListBelow m (suc k) (c ∷ l)
below_in {m} {k} {c} {l} h B = record { long = ap suc B.long; below = each }
  where
    each : (i : ℕ) → i < suc k → get_or (c ∷ l) i 0 < m
    each zero h' = h
    each (suc i) h' = B.below i (le_of_suc-le-suc h')

pub below_out : {m k c : ℕ} {l : List ℕ} → ListBelow m (suc k) (c ∷ l) → (c < m) × ListBelow m k l
below_out B = (B.below 0 (omega arith), record { long = omega (arith, B.long); below = λ i h. B.below (suc i) (omega arith) })

-- the same of a sequence of actions
pub sequence_listed : {m : ℕ} {w : List ℕ} → Below m w → ListBelow m (length w) w
sequence_listed below_nil = record { long = refl; below = λ i h. absurd (not-suc-le-zero h) }
sequence_listed (below_cons h b) = below_in h (sequence_listed b)

pub listed_sequence : {m : ℕ} (k : ℕ) (w : List ℕ) → ListBelow m k w → Below m w
listed_sequence k [] B = below_nil
listed_sequence zero (a ∷ w) B = absurd (omega (arith, B.long))
listed_sequence (suc k) (a ∷ w) B = let (h, D) = below_out B in below_cons h (listed_sequence k w D)

module _ {A : Type 0} {R : A → A → Type 0} {P : A → Type 0} {p : A → Bool} where
  -- the same among the elements that have Q just if they have P, and in an order that agrees on them
  found_among : {Q : A → Type 0} {o : Option A} → ((x : A) → P x ↔ Q x) → Found R P p o → Found R Q p o
  found_among e (found {x = x} c t f) = found ((e x).0 c) t (λ y d. f y ((e y).1 d))
  found_among e (nothing f) = nothing (λ y d. f y ((e y).1 d))

  found_in : {S : A → A → Type 0} {o : Option A} → ((x y : A) → P x → P y → S y x → R y x) → Found R P p o → Found S P p o
  found_in e (found {x = x} c t f) = found c t (λ y d u r. f y d u (e x y c d r))
  found_in e (nothing f) = nothing f

  -- Where of any two elements one is before the other, the first that passes is what is found.
  pub found_is : {o : Option A} → Found R P p o → ((x y : A) → P x → P y → (x ≡ y) ⊎ (R x y ⊎ R y x))
      → (x : A) → P x → T (p x) → ((y : A) → P y → T (p y) → R y x → ⊥) → o ≡ Some x
  found_is (nothing f) order x c t g = absurd (f x c t)
  found_is (found {x = y} d u f) order x c t g =
      ⊎_elim (λ e. ap Some e) (λ o. absurd (⊎_elim (λ r. g y d u r) (λ r. f x c t r) o)) (order y x d c)

-- a search through one list and then another, and through lists that begin alike
first_append : {A : Type 0} (p : A → Bool) (xs ys : List A) (y : A) → first_that p xs ≡ Some y → first_that p (xs ++ ys) ≡ Some y
unfolding first_that
first_append {A} p [] ys y e = absurd (none_some e)
  where
    none_some : ◌≡◌ {A = Option A} None (Some y) → ⊥
    none_some e = let z : ◌≡◌ {A = ℕ} 0 1 = ap (λ o. elim o [ None ↦ 0 | Some y ↦ 1 ]) e in omega arith
first_append p (x ∷ xs) ys y e = go (p x) (first_append p xs ys y) e
  where
    go : (t : Bool) → (first_that p xs ≡ Some y → first_that p (xs ++ ys) ≡ Some y)
        → elim t [ true ↦ Some x | false ↦ first_that p xs ] ≡ Some y → elim t [ true ↦ Some x | false ↦ first_that p (xs ++ ys) ] ≡ Some y
    go true f e = e
    go false f e = f e

second_append : {A : Type 0} (p : A → Bool) (xs ys : List A) → first_that p xs ≡ None → first_that p (xs ++ ys) ≡ first_that p ys
unfolding first_that
second_append p [] ys e = refl
second_append {A} p (x ∷ xs) ys e = go (p x) (second_append p xs ys) e
  where
    some_none : {y : A} → ◌≡◌ {A = Option A} (Some y) None → ⊥
    some_none e = let z : ◌≡◌ {A = ℕ} 1 0 = ap (λ o. elim o [ None ↦ 0 | Some y ↦ 1 ]) e in omega arith

    go : (t : Bool) → (first_that p xs ≡ None → first_that p (xs ++ ys) ≡ first_that p ys)
        → ◌≡◌ {A = Option A} (elim t [ true ↦ Some x | false ↦ first_that p xs ]) None
        → elim t [ true ↦ Some x | false ↦ first_that p (xs ++ ys) ] ≡ first_that p ys
    go true f e = absurd (some_none e)
    go false f e = f e

first_map : {A B : Type 0} (p : B → Bool) (f : A → B) (xs : List A) → first_that p (map f xs) ≡ option_map f (first_that (λ x. p (f x)) xs)
unfolding first_that
first_map p f [] = refl
first_map p f (x ∷ xs) = go (p (f x)) (first_map p f xs)
  where
    go : (t : Bool) → first_that p (map f xs) ≡ option_map f (first_that (λ x. p (f x)) xs)
        → elim t [ true ↦ Some (f x) | false ↦ first_that p (map f xs) ] ≡ option_map f (elim t [ true ↦ Some x | false ↦ first_that (λ x. p (f x)) xs ])
    go true e = refl
    go false e = e

-- A search piece by piece finds the first that passes, where nothing of a later piece is before anything of an earlier one.
module _ {A : Type 0} (R : A → A → Type 0) (P : ℕ → A → Type 0) (p : A → Bool) (f : ℕ → List A)
    (piece : (c : ℕ) → Found R (P c) p (first_that p (f c))) (apart : (c d : ℕ) (x y : A) → c < d → P c x → P d y → R y x → ⊥) where
  -- what was found stays,
  stays : (n : ℕ) (x : A) → Found R (Among P n) p (Some x) → Found R (Among P (suc n)) p (Some x)
  stays n x (found (c, h, q) t g) =
      found (c, omega arith, q) t
      (λ y (d, l, q') u r. ⊎_elim (λ e. apart c d x y (omega arith) q q' r) (λ b. g y (d, b, q') u r) (below_suc l))

  -- or it is found in piece n
  added : (n : ℕ) (o : Option A) → Found R (Among P n) p None → Found R (P n) p o → Found R (Among P (suc n)) p o
  added n (Some x) (nothing g) (found q t h) =
      found (n, omega arith, q) t
      (λ y (d, l, q') u r. ⊎_elim (λ e. h y (subst (λ (c : ℕ). P c y) e q') u r) (λ b. g y (d, b, q') u) (below_suc l))
  added n None (nothing g) (nothing h) =
      nothing (λ y (d, l, q') u. ⊎_elim (λ e. h y (subst (λ (c : ℕ). P c y) e q') u) (λ b. g y (d, b, q') u) (below_suc l))

  pub search_pieces : (n : ℕ) → Found R (Among P n) p (first_that p (collect f n))
  unfolding collect first_that
  search_pieces zero = nothing (λ y (d, l, q) t. not-suc-le-zero l)
  search_pieces (suc n) = go (first_that p (collect f n)) refl (search_pieces n)
    where
      go : (o : Option A) → first_that p (collect f n) ≡ o → Found R (Among P n) p o → Found R (Among P (suc n)) p (first_that p (collect f n ++ f n))
      go (Some x) e F = subst (Found R (Among P (suc n)) p) (sym (first_append p (collect f n) (f n) x e)) (stays n x F)
      go None e F = subst (Found R (Among P (suc n)) p) (sym (second_append p (collect f n) (f n) e)) (added n (first_that p (f n)) F (piece n))

-- the lists of k + 1 numbers below m that begin with c
data Headed (m k c : ℕ) : List ℕ → Type 0 where
  headed : {l : List ℕ} → ListBelow m k l → Headed m k c (c ∷ l)

headed_below : (m k : ℕ) (l : List ℕ) → Among (Headed m k) m l ↔ ListBelow m (suc k) l
headed_below m k l = (λ (c, h, H). into c h H, out l)
  where
    into : (c : ℕ) → c < m → {l : List ℕ} → Headed m k c l → ListBelow m (suc k) l
    into c h (headed B) = below_in h B

    out : (l : List ℕ) → ListBelow m (suc k) l → Among (Headed m k) m l
    out [] B = absurd (omega (arith, B.long))
    out (c ∷ l) B = let (h, D) = below_out B in (c, h, headed D)

headed_found : (m k c : ℕ) (p : List ℕ → Bool) (o : Option (List ℕ)) → Found Before (ListBelow m k) (λ l. p (c ∷ l)) o
    → Found Before (Headed m k c) p (option_map (λ l. c ∷ l) o)
headed_found m k c p (Some l) (found B t f) = found (headed B) t (λ y H. first H)
  where
    first : {y : List ℕ} → Headed m k c y → T (p y) → Before y (c ∷ l) → ⊥
    first (headed {l = l'} D) u b = ⊎_elim (λ h. omega arith) (λ q. f l' D u q.1) (before_cases b)
headed_found m k c p None (nothing f) = nothing (λ y H. none_of H)
  where
    none_of : {y : List ℕ} → Headed m k c y → T (p y) → ⊥
    none_of (headed {l = l'} D) u = f l' D u

headed_apart : (m k c d : ℕ) (x y : List ℕ) → c < d → Headed m k c x → Headed m k d y → Before y x → ⊥
headed_apart m k c d x y h (headed B) (headed D) b = ⊎_elim (λ q. omega arith) (λ q. omega (arith, q.0)) (before_cases b)

-- The search through all lists of k numbers below m finds the first that passes, in dictionary order.
pub search_lists : (m k : ℕ) (p : List ℕ → Bool) → Found Before (ListBelow m k) p (first_that p (lists_below m k))
unfolding lists_below first_that
search_lists m zero p = go (p []) refl
  where
    only : (l : List ℕ) → ListBelow m zero l → l ≡ []
    only [] B = refl
    only (c ∷ l) B = absurd (omega (arith, B.long))

    go : (t : Bool) → p [] ≡ t → Found Before (ListBelow m zero) p (elim t [ true ↦ Some [] | false ↦ None ])
    go true e = found (record { long = refl; below = λ i h. absurd (not-suc-le-zero h) }) (true_is (p []) e) (λ y D t b. nil_first b refl)
    go false e = nothing (λ y D t. not_true (p []) e (subst (λ (l : List ℕ). T (p l)) (only y D) t))
search_lists m (suc k) p =
    found_among (headed_below m k)
    (search_pieces Before (Headed m k) p (λ c. map (λ l. c ∷ l) (lists_below m k))
    (λ c.
    subst
    (Found Before (Headed m k c) p)
    (sym (first_map p (λ l. c ∷ l) (lists_below m k)))
    (headed_found m k c p (first_that (λ l. p (c ∷ l)) (lists_below m k)) (search_lists m k (λ l. p (c ∷ l)))))
    (headed_apart m k) m)

listed_shorter : (m n : ℕ) (w : List ℕ) → Among (ListBelow m) n w ↔ Shorter m n w
listed_shorter m n w = (
  λ (k, h, B). record { short = omega (arith, B.long); of_actions = listed_sequence k w B },
  λ S. (length w, S.short, sequence_listed S.of_actions),
)

-- in lists of one length, sooner is before
sooner_before : (m k : ℕ) (x y : List ℕ) → ListBelow m k x → ListBelow m k y → Sooner y x → Before y x
sooner_before m k x y B D (shorter h) = absurd (omega (arith, B.long, D.long))
sooner_before m k x y B D (as_long e b) = b

longer_later : (m c d : ℕ) (x y : List ℕ) → c < d → ListBelow m c x → ListBelow m d y → Sooner y x → ⊥
longer_later m c d x y h B D (shorter l) = omega (arith, B.long, D.long)
longer_later m c d x y h B D (as_long e b) = omega (arith, B.long, D.long)

-- The search through all sequences of fewer than n actions finds the first that passes, by length and then in dictionary order.
pub search_sequences : (m n : ℕ) (p : List ℕ → Bool) → Found Sooner (Shorter m n) p (first_that p (shorter_lists m n))
unfolding shorter_lists
search_sequences m n p =
    found_among (listed_shorter m n)
    (search_pieces Sooner (ListBelow m) p (lists_below m) (λ k. found_in (sooner_before m k) (search_lists m k p)) (longer_later m) n)

-- so the one that passes with none sooner is what is found
pub sequence_found : (m n : ℕ) (p : List ℕ → Bool) (w : List ℕ) → Shorter m n w → T (p w) → ((v : List ℕ) → T (p v) → Sooner v w → ⊥)
    → first_that p (shorter_lists m n) ≡ Some w
sequence_found m n p w S t f = found_is (search_sequences m n p) (λ x y c d. sooner_ordered x y) w S t (λ v c. f v)
