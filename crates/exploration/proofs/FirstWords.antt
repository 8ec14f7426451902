-- Numbers that are given as first named: the tree of first namings gives each its first word, the shortest that leads to it and of several the first in
-- dictionary order. An exploration gives such numbers.
use Rattle.std.specs.Prelude.{ℕ, zero, suc, ◌≤◌, ◌<◌, ◌≡◌, ◌⊎◌, Bool, get_or, Option, Some, None, option_map}
use Rattle.std.proofs.Common.{not-suc-le-zero, arith, sym, ◌∙◌, inl, inr, ⊎_elim, length-append}
use Rattle.std.proofs.Math.Decide.{dec_lt}
use Rattle.std.proofs.Math.Path.{refl, ap, subst}
use mathlib.Core.List.{List, [], ◌∷◌, ◌++◌, append_assoc, append-nil}
use Rattle.std.proofs.Math.ListN.{length}
use Rattle.systems.specs.System.{System, Reading, after, earliest, first_barred, reading, Alike, Below, below_nil, below_cons, Reached, by_step}
use Rattle.exploration.specs.Exploration.{place, explore}
use Rattle.systems.specs.Words.{ended, Sooner}
use Rattle.systems.specs.Alike.{Both, both_barred, both_open}
use Rattle.systems.proofs.Alike.{alike_next}
use Rattle.systems.specs.Dictionary.{NoLater}
use Rattle.systems.proofs.Dictionary.{compared, sooner_ordered, sooner_irreflexive, sooner_trans, sooner_snoc, sooner_last, sooner_more, nil_sooner, no_later_trans, no_later_append}
use Rattle.exploration.specs.Explored.{Explorable, Representatives, seen, grown}
use Rattle.exploration.proofs.Explored.{seen_next, seen_later, origin, explore_representatives, place_alike}
use Rattle.exploration.specs.Quotient.{quotient}
use Rattle.exploration.proofs.Quotient.{quotient_step, quotient_alike, quotient_apart, quotient_closed, quotient_bounded}
use Rattle.exploration.specs.FirstWords.{Earlier, NumberedAsNamed, FirstNaming, Along, along_start, along_naming, FirstWord}

-- the earlier of two belongs to a number that is not greater
pub earlier_below : (i a j b : ℕ) {n : ℕ} → Earlier i a j b → j < n → i < n
earlier_below i a j b (inl l) h = omega arith
earlier_below i a j b (inr (e, l)) h = omega arith

-- where one sequence and then another lead
pub ended_append : {X : Type 0} (s : System X) (v w : List ℕ) (x : X) → ended s (v ++ w) x ≡ ended s w (ended s v x)
unfolding ended
ended_append s [] w x = refl
ended_append s (a ∷ v) w x = ended_append s v w (after x (s.step a x))

-- and what is led to is reached
pub ended_reached : {X : Type 0} (s : System X) (start : X) (w : List ℕ) (x : X) → Reached s start x → Reached s start (ended s w x)
unfolding ended after
ended_reached s start [] x r = r
ended_reached {X} s start (a ∷ w) x r = ended_reached s start w (after x (s.step a x)) (go (s.step a x) refl)
  where
    go : (o : Option X) → s.step a x ≡ o → Reached s start (after x o)
    go None e = r
    go (Some y) e = by_step a r e

-- one open action more
pub ended_open : {X : Type 0} (s : System X) (v : List ℕ) (a : ℕ) (x y : X) → s.step a (ended s v x) ≡ Some y → ended s (v ++ (a ∷ [])) x ≡ y
unfolding ended after
ended_open s v a x y e = ended_append s v (a ∷ []) x ∙ ap (after (ended s v x)) e

barred_open : {X : Type 0} (s : System X) (v : List ℕ) (a : ℕ) (x y : X) → first_barred s v x ≡ None → s.step a (ended s v x) ≡ Some y
    → first_barred s (v ++ (a ∷ [])) x ≡ None
unfolding ended first_barred earliest
barred_open s [] a x y f e = ap (λ o. earliest o None) e
barred_open {X} s (b ∷ v) a x y f e = go (s.step b x) refl (λ f'. barred_open s v a (after x (s.step b x)) y f' e)
  where
    later : (o : Option ℕ) → option_map suc o ≡ None → o ≡ None
    later None q = refl
    later (Some k) q = let z : ◌≡◌ {A = ℕ} 0 1 = cc in absurd (omega arith)

    go : (o : Option X) → s.step b x ≡ o
        → (first_barred s v (after x (s.step b x)) ≡ None → first_barred s (v ++ (a ∷ [])) (after x (s.step b x)) ≡ None)
        → earliest (s.step b x) (first_barred s (v ++ (a ∷ [])) (after x (s.step b x))) ≡ None
    go None q again = absurd (let z : ◌≡◌ {A = Option ℕ} (Some 0) None = ap (λ u. earliest u (first_barred s v (after x (s.step b x)))) (sym q) ∙ f in let z' : ◌≡◌ {A = ℕ} 0 1 = cc in omega arith)
    go (Some z) q again =
        let f' = later (first_barred s v (after x (s.step b x))) (ap (λ u. earliest u (first_barred s v (after x (s.step b x)))) (sym q) ∙ f) in
        ap (λ u. earliest u (first_barred s (v ++ (a ∷ [])) (after x (s.step b x)))) q
        ∙ ap (option_map suc) (again f')

-- an open action is below a bound from which on all are barred
open_below : {X : Type 0} {actions : ℕ} {o : Option X} {y : X} (a : ℕ) → (actions ≤ a → o ≡ None) → o ≡ Some y → a < actions
open_below {X} {actions} {o} {y} a f e = go (dec_lt a actions)
  where
    go : Dec (a < actions) → a < actions
    go (yes h) = h
    go (no h) = let q = f (omega arith) in let z : ◌≡◌ {A = ℕ} 0 1 = cc in absurd (omega arith)

pub below_snoc : {n : ℕ} {v : List ℕ} (a : ℕ) → Below n v → a < n → Below n (v ++ (a ∷ []))
below_snoc a below_nil h = below_cons h below_nil
below_snoc a (below_cons l b) h = below_cons l (below_snoc a b h)

-- of two pairs one is earlier, or they are equal
pub pairs_compared : (i a j b : ℕ) → Earlier i a j b ⊎ (((i ≡ j) × (a ≡ b)) ⊎ Earlier j b i a)
pairs_compared i a j b = go (compared i j) (compared a b)
  where
    go : (i < j) ⊎ ((i ≡ j) ⊎ (j < i)) → (a < b) ⊎ ((a ≡ b) ⊎ (b < a)) → Earlier i a j b ⊎ (((i ≡ j) × (a ≡ b)) ⊎ Earlier j b i a)
    go (inl h) c = inl (inl h)
    go (inr (inr h)) c = inr (inr (inl h))
    go (inr (inl e)) (inl h) = inl (inr (e, h))
    go (inr (inl e)) (inr (inl q)) = inr (inl (e, q))
    go (inr (inl e)) (inr (inr h)) = inr (inr (inr (sym e, h)))

-- there is one first naming
naming_one : {t : System ℕ} {i a j b k : ℕ} → FirstNaming t i a k → FirstNaming t j b k → (i ≡ j) × (a ≡ b)
naming_one {t} {i} {a} {j} {b} {k} F G =
    ⊎_elim
    (λ h. absurd (G.first i a h F.leads))
    (λ o. ⊎_elim (λ e. e) (λ h. absurd (F.first j b h G.leads)) o)
    (pairs_compared i a j b)

module _ {t : System ℕ} {n : ℕ} (N : NumberedAsNamed t n) where
  -- each number but 0 has a first naming,
  naming_some : (k : ℕ) → 0 < k → k < n → (i : ℕ) × (a : ℕ) × (i < k) × FirstNaming t i a k × (N.named i a ≡ k)
  naming_some k p h =
      let (i, a, l, e, q) = N.origin k p h in
      (i, a, l, record { leads = e; first = λ j b o s. omega (arith, N.counted j b i a k o (omega arith) s) }, q)

  -- by which it is the next number
  pub naming_next : (i a k : ℕ) → 0 < k → k < n → FirstNaming t i a k → (i < k) × (N.named i a ≡ k)
  naming_next i a k p h F =
      let (j, b, l, G, q) = naming_some k p h in
      let (x, y) = naming_one F G in
      (omega arith, ap (λ (z : ℕ). N.named z a) x ∙ ap (N.named j) y ∙ q)

  -- every number has a word, and one alone
  pub along_some : (k : ℕ) → k < n → (w : List ℕ) × Along t k w
  along_some k h = go (suc k) k (omega arith) h
    where
      go : (m k : ℕ) → k < m → k < n → (w : List ℕ) × Along t k w
      go zero k l h = absurd (not-suc-le-zero l)
      go (suc m) zero l h = ([], along_start)
      go (suc m) (suc k) l h =
          let (i, a, b, F, q) = naming_some (suc k) (omega arith) h in
          let (v, U) = go m i (omega arith) (omega arith) in
          (v ++ (a ∷ []), along_naming {k = suc k} U (omega arith) F)

  pub along_one : {k : ℕ} {v w : List ℕ} → k < n → Along t k v → Along t k w → v ≡ w
  along_one h along_start along_start = refl
  along_one h along_start (along_naming W p G) = absurd (omega arith)
  along_one h (along_naming U p F) along_start = absurd (omega arith)
  along_one h (along_naming {i = i} {a = a} {k = k} {v = v} U p F) (along_naming {i = j} {a = b} {v = w} W q G) =
      let (x, y) = naming_one F G in
      let l = (naming_next i a k p h F).0 in
      let e = along_one (omega arith) U (subst (λ (z : ℕ). Along t z w) (sym x) W) in
      ap (λ (l : List ℕ). l ++ (a ∷ [])) e ∙ ap (λ (c : ℕ). w ++ (c ∷ [])) y

  -- it is no longer than the number,
  pub along_length : {k : ℕ} {w : List ℕ} → k < n → Along t k w → length w ≤ k
  along_length h along_start = omega arith
  along_length h (along_naming {i = i} {a = a} {k = k} {v = v} U p F) =
      let l = (naming_next i a k p h F).0 in
      let m = along_length (omega arith) U in
      omega (arith, length-append v (a ∷ []))

  -- and leads there, with nothing barred on the way
  pub along_leads : {k : ℕ} {w : List ℕ} → Along t k w → (ended t w 0 ≡ k) × (first_barred t w 0 ≡ None)
  unfolding ended first_barred
  along_leads along_start = (refl, refl)
  along_leads (along_naming {i = i} {a = a} {k = k} {v = v} U p F) =
      let (e, f) = along_leads U in
      let q = ap (t.step a) e ∙ F.leads in
      (ended_open t v a 0 k q, barred_open t v a 0 k f q)

  pub along_below : {k actions : ℕ} {w : List ℕ} → ((a i : ℕ) → actions ≤ a → t.step a i ≡ None) → Along t k w → Below actions w
  along_below f along_start = below_nil
  along_below f (along_naming {i = i} {a = a} U p F) = below_snoc a (along_below f U) (open_below a (f a i) F.leads)

  -- The smaller number has the sooner word.
  pub along_order : {j k : ℕ} {v w : List ℕ} → j < k → k < n → Along t j v → Along t k w → Sooner v w
  along_order l h U along_start = absurd (omega arith)
  along_order l h along_start (along_naming {a = b} {v = w} W q G) = nil_sooner w b
  along_order l h (along_naming {i = i} {a = a} {k = j} {v = v} U p F) (along_naming {i = i'} {a = b} {k = k} {v = w} W q G) =
      let (x, x') = naming_next i a j p (omega arith) F in
      let (y, y') = naming_next i' b k q h G in
      let go : Earlier i a i' b → Sooner (v ++ (a ∷ [])) (w ++ (b ∷ [])) =
      λ o.
      ⊎_elim
      (λ m. sooner_snoc a b (along_order m (omega arith) U W))
      (λ m.
      let e = along_one (omega arith) (subst (λ (z : ℕ). Along t z v) m.0 U) W in
      subst (λ (u : List ℕ). Sooner (v ++ (a ∷ [])) (u ++ (b ∷ []))) e (sooner_last v m.1))
      o in
      ⊎_elim
      go
      (λ o. absurd (⊎_elim (λ e. omega (arith, ap (λ (z : ℕ). N.named z a) e.0, ap (N.named i') e.1)) (λ m. omega (arith, N.counted i' b i a k m (omega arith) G.leads)) o))
      (pairs_compared i a i' b)

  -- an action leads from a number to one whose word is no later than that number's and then the action
  along_step : {i a k : ℕ} {v w : List ℕ} → i < n → Along t i v → t.step a i ≡ Some k → Along t k w → NoLater w (v ++ (a ∷ []))
  along_step {i} {a} {k} {v} {w} h U e along_start = inr (nil_sooner v a)
  along_step {i} {a} {k} {v} h U e (along_naming {i = j} {a = b} {v = w} W q G) =
      let (y, y') = naming_next j b k q (N.closed a i k h e) G in
      let same : (j ≡ i) → v ≡ w = λ p. along_one h U (subst (λ (z : ℕ). Along t z w) p W) in
      ⊎_elim
      (λ o. absurd (G.first i a o e))
      (λ o.
      ⊎_elim
      (λ p. inl (ap (λ (l : List ℕ). l ++ (b ∷ [])) (sym (same (sym p.0))) ∙ ap (λ (c : ℕ). v ++ (c ∷ [])) (sym p.1)))
      (λ p.
      inr
      (⊎_elim
      (λ m. sooner_snoc b a (along_order m h W U))
      (λ m. subst (λ (u : List ℕ). Sooner (u ++ (b ∷ [])) (v ++ (a ∷ []))) (same m.0) (sooner_last v m.1))
      p))
      o)
      (pairs_compared i a j b)

  -- No sequence, of whatever actions, leads to a number sooner than its word: its word is no later than any that leads to it.
  along_least : (u v : List ℕ) (i : ℕ) {k : ℕ} {x w : List ℕ} → i < n → Along t i x → NoLater x u → ended t v i ≡ k → Along t k w → NoLater w (u ++ v)
  unfolding ended after
  along_least u [] i {k} {x} {w} h X l e W =
      let q = along_one h X (subst (λ (z : ℕ). Along t z w) (sym e) W) in
      subst (λ (z : List ℕ). NoLater w z) (sym (append-nil u)) (no_later_trans (inl (sym q)) l)
  along_least u (a ∷ v) i {k} {x} {w} h X l e W =
      go (t.step a i) refl (λ y z b p Z m. along_least (u ++ (a ∷ [])) v y b Z m (ap (ended t v) (sym p) ∙ e) W)
    where
      again : Type 0
      again = (y : ℕ) (z : List ℕ) → y < n → after i (t.step a i) ≡ y → Along t y z → NoLater z (u ++ (a ∷ [])) → NoLater w ((u ++ (a ∷ [])) ++ v)

      go : (o : Option ℕ) → t.step a i ≡ o → again → NoLater w (u ++ (a ∷ v))
      go None p f = subst (λ (r : List ℕ). NoLater w r) (append_assoc u (a ∷ []) v) (f i x h (ap (after i) p) X (no_later_trans l (inr (sooner_more u a))))
      go (Some y) p f =
          let b = N.closed a i y h p in
          let (z, Z) = along_some y b in
          subst (λ (r : List ℕ). NoLater w r) (append_assoc u (a ∷ []) v) (f y z b (ap (after i) p) Z (no_later_trans (along_step h X p Z) (no_later_append (a ∷ []) l)))

  pub along_first : {k : ℕ} {w : List ℕ} → k < n → Along t k w → (v : List ℕ) → ended t v 0 ≡ k → Sooner v w → ⊥
  along_first {k} {w} h W v e r =
      ⊎_elim
      (λ q. sooner_irreflexive (subst (λ (u : List ℕ). Sooner u w) (sym q) r))
      (λ q. sooner_irreflexive (sooner_trans q r))
      (along_least [] v 0 (omega arith) along_start (inl refl) e W)

-- equivalent configurations are led to equivalent ones
pub ended_alike : {X Y : Type 0} (s : System X) (t : System Y) (w : List ℕ) (x : X) (y : Y) → Alike s t x y → Alike s t (ended s w x) (ended t w y)
unfolding ended after
ended_alike s t [] x y h = h
ended_alike {X} {Y} s t (a ∷ w) x y h = ended_alike s t w (after x (s.step a x)) (after y (t.step a y)) (go (alike_next s t x y h a))
  where
    go : {o : Option X} {u : Option Y} → Both (Alike s t) o u → Alike s t (after x o) (after y u)
    go both_barred = h
    go (both_open r) = r

-- A system of numbers that are given as first named, no two of them equivalent, and a system that is equivalent to it: the words along the first namings
-- are the first words.
module _ {X : Type 0} (s : System X) (start : X) {t : System ℕ} {n : ℕ} (N : NumberedAsNamed t n) (Some-number : 0 < n) (same : Alike s t start 0)
    (apart : (i j : ℕ) → i < j → j < n → Alike t t i j → ⊥) where
  -- where a sequence leads is a number
  number_led : (w : List ℕ) (i : ℕ) → i < n → ended t w i < n
  unfolding ended after
  number_led [] i h = h
  number_led (a ∷ w) i h = number_led w (after i (t.step a i)) (go (t.step a i) refl)
    where
      go : (o : Option ℕ) → t.step a i ≡ o → after i (t.step a i) < n
      go None e = subst (λ (z : ℕ). z < n) (sym (ap (after i) e)) h
      go (Some k) e = subst (λ (z : ℕ). z < n) (sym (ap (after i) e)) (N.closed a i k h e)

  only_number : (i j : ℕ) → i < n → j < n → Alike t t i j → i ≡ j
  only_number i j h l r =
      ⊎_elim (λ b. absurd (apart i j b l r)) (λ o. ⊎_elim (λ e. e) (λ b. absurd (apart j i b h (λ w. sym (r w)))) o) (compared i j)

  -- the number where a sequence leads is the one that is equivalent to where it leads from the start
  led_to : (w : List ℕ) (k : ℕ) → k < n → Alike s t (ended s w start) k → ended t w 0 ≡ k
  led_to w k h r = only_number (ended t w 0) k (number_led w 0 Some-number) h (λ v. sym (ended_alike s t w start 0 same v) ∙ r v)

  pub first_word : (k : ℕ) (w : List ℕ) → k < n → Along t k w → FirstWord s start t k w
  unfolding reading
  first_word k w h W =
      let (e, f) = along_leads N W in
      record {
        arrives = subst (Alike s t (ended s w start)) e (ended_alike s t w start 0 same);
        unbarred = ap (λ (r : Reading). r.barred) (same w) ∙ f;
        first = λ v r. along_first N h W v (led_to v k h r);
      }

  -- there is one
  pub first_word_one : (k : ℕ) (v w : List ℕ) → k < n → FirstWord s start t k v → Along t k w → v ≡ w
  first_word_one k v w h F W =
      let G = first_word k w h W in
      ⊎_elim
      (λ e. e)
      (λ o. absurd (⊎_elim (λ r. G.first v F.arrives r) (λ r. F.first w G.arrives r) o))
      (sooner_ordered v w)

  -- and the numbers come in the order of their first words
  pub first_words_order : (j k : ℕ) (v w : List ℕ) → j < k → k < n → FirstWord s start t j v → FirstWord s start t k w → Sooner v w
  first_words_order j k v w l h F G =
      let (x, X') = along_some N j (omega arith) in
      let (y, Y') = along_some N k h in
      let p = first_word_one j v x (omega arith) F X' in
      let q = first_word_one k w y h G Y' in
      subst (λ (z : List ℕ). Sooner z w) (sym p) (subst (Sooner x) (sym q) (along_order N l h X' Y'))

-- systems with the same steps below n
pub numbered_same : {t u : System ℕ} {n : ℕ} → ((a i : ℕ) → i < n → t.step a i ≡ u.step a i) → NumberedAsNamed t n → NumberedAsNamed u n
numbered_same {t} {u} {n} e N =
    record {
      named = N.named;
      counted = λ i a j b k o h q. N.counted i a j b k o h (e a i (earlier_below i a j b o h) ∙ q);
      origin = λ k p h. let (i, a, l, q, m) = N.origin k p h in (i, a, l, sym (e a i (omega arith)) ∙ q, m);
      closed = λ a i k h q. N.closed a i k h (e a i h ∙ q);
    }

-- An exploration numbers its members as first named,
module _ {X : Type 0} (s : System X) (same : X → X → Bool) (actions : ℕ) (start : X) (C : X → Type 0) (E : Explorable s same actions start C)
    (n : ℕ) (complete : length (explore s same actions start n) ≤ n) where
  -- an action of a number that leads to k is below the bound, and leads from the member to a configuration whose place is k
  step_member : (a i k : ℕ) → i < length (explore s same actions start n) → (quotient s same start (explore s same actions start n)).step a i ≡ Some k
      → (a < actions) × (option_map (place same (explore s same actions start n)) (s.step a (get_or (explore s same actions start n) i start)) ≡ Some k)
  step_member a i k h e = (
    open_below a (λ b. quotient_bounded s same actions start C E n complete a b i) e,
    sym (quotient_step s same start (explore s same actions start n) a i h) ∙ e,
  )

  pub explored_numbered : NumberedAsNamed (quotient s same start (explore s same actions start n)) (length (explore s same actions start n))
  unfolding grown
  explored_numbered =
      record {
        named = λ i a. length (seen s same actions start i a);
        counted = counted;
        origin = origins;
        closed = λ a i k h e. quotient_closed s same actions start C E n complete a i k h e;
      }
    where
      l : List X
      l = explore s same actions start n

      R : Representatives s start C l
      R = explore_representatives s same actions start C E n

      counted : (i a j b k : ℕ) → Earlier i a j b → j < length l → (quotient s same start l).step a i ≡ Some k → k < length (seen s same actions start j b)
      counted i a j b k o h e =
          let g = earlier_below i a j b o h in
          let (c, q) = step_member a i k g e in
          let m = seen_next s same actions start C E n i a (omega arith) g ∙ ap (grown (length (seen s same actions start i a))) q in
          omega (arith, seen_later s same actions start C E n i a j b (omega arith) g c o)

      own : (k : ℕ) → k < length l → place same l (get_or l k start) ≡ k
      own k h = (place_alike s same actions start C E l R (get_or l k start) (R.covered k h) k h).1 (λ w. refl)

      origins : (k : ℕ) → 0 < k → k < length l
          → (i : ℕ) × (a : ℕ) × (i < k) × ((quotient s same start l).step a i ≡ Some k) × (length (seen s same actions start i a) ≡ k)
      origins k p h =
          let M = origin s same actions start C E n k p h in
          let d = M.earlier in (
            M.from,
            M.by,
            d,
            quotient_step s same start l M.by M.from (omega arith) ∙ ap (option_map (place same l)) M.leads ∙ ap (λ (m : ℕ). Some m) (own k h),
            M.next,
          )

  -- so each has a first word, which has fewer actions than there are members
  pub explored_first : (k : ℕ) → k < length (explore s same actions start n)
      → (w : List ℕ) × FirstWord s start (quotient s same start (explore s same actions start n)) k w × Below actions w × (length w ≤ k)
  explored_first k h =
      let q = quotient s same start (explore s same actions start n) in
      let R = explore_representatives s same actions start C E n in
      let N = explored_numbered in
      let (w, W) = along_some N k h in
      let a = subst (λ (x : X). Alike s q x 0) R.first (quotient_alike s same actions start C E n complete 0 R.nonempty) in (
        w,
        first_word s start N R.nonempty a (quotient_apart s same actions start C E n complete) k w h W,
        along_below N (λ b i g. quotient_bounded s same actions start C E n complete b g i) W,
        along_length N h W,
      )
