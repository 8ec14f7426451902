-- What the exploration of a system finds: representatives of the classes of the reached configurations, numbered as first named.
use Prim.Native.Nat.{ℕ, zero, suc, ◌≤◌, ◌<◌}
use Rattle.std.proofs.Math.Decide.{dec_lt, le_ind}
use Rattle.std.proofs.Common.{arith, sym, subst₂, ◌∙◌, length-append}
use Rattle.std.specs.Prelude.{◌≡◌, ◌↔◌, ◌⊎◌, Bool, false, Option, Some, None, option_map}
use Rattle.std.proofs.Math.Path.{refl, ap, subst}
use Rattle.std.proofs.Math.Logic.{⊎_elim}
use mathlib.Core.List.{List, [], ◌∷◌, ◌++◌}
use Rattle.std.proofs.Math.Dec.{T}
use Rattle.std.proofs.Math.ListN.{length, get_or, get_or-append}
use Rattle.std.proofs.Math.Seq.{get_or-append_seam}
use Rattle.systems.specs.System.{System, Alike, Reached, at_start, by_step}
use Rattle.exploration.specs.Exploration.{place, known, added, visited, visited_at, visited_next, explore}
use Rattle.systems.proofs.Laws.{told, true_is, not_true}
use Rattle.systems.proofs.Alike.{both_left, alike_next}
use Rattle.exploration.proofs.Pigeonhole.{pigeonhole, choose}
use Rattle.exploration.specs.Places.{Prefix}
use Rattle.exploration.proofs.Places.{at_in, at_out, prefix_refl, prefix_trans, prefix_length, prefix_at, each_snoc, place_le, known_place, place_new, known_in, known_at}
use Rattle.exploration.proofs.Places.{prefix_known, prefix_place, added_old, added_new, added_prefix, added_known, added_place}
use Rattle.exploration.specs.Explored.{Explorable, Representatives, seen, grown, Named, Many}

none_some : {X : Type 0} {A : Type 0} {o : Option X} {y : X} → o ≡ None → o ≡ Some y → A
none_some p q = let z : ◌≡◌ {A = ℕ} 0 1 = cc in absurd (omega arith)

module _ {X : Type 0} (s : System X) (same : X → X → Bool) (actions : ℕ) (start : X) (C : X → Type 0) (E : Explorable s same actions start C) where
  -- a covered configuration passes the test with itself
  pub itself : (x : X) → C x → T (same x x)
  itself x c = (E.tells x x c c).1 (λ w. refl)

  -- a covered configuration is known exactly where a member is equivalent to it: the one at its place
  pub known_alike : (l : List X) → Representatives s start C l → (y : X) → C y → T (known same l y) → Alike s s (get_or l (place same l y) start) y
  known_alike l R y c t = (E.tells (get_or l (place same l y) start) y (R.covered (place same l y) ((known_place same l y).0 t)) c).0 (known_at same l y start t)

  pub alike_known : (l : List X) → Representatives s start C l → (y : X) → C y → (i : ℕ) → i < length l → Alike s s (get_or l i start) y → T (known same l y)
  alike_known l R y c i h r = known_in same l y start i h ((E.tells (get_or l i start) y (R.covered i h) c).1 r)

  -- no two members are equivalent
  pub one_index : (l : List X) → Representatives s start C l → (i j : ℕ) → i < length l → j < length l → Alike s s (get_or l i start) (get_or l j start) → i ≡ j
  one_index l R i j hi hj r = go (dec_lt i j) (dec_lt j i)
    where
      go : Dec (i < j) → Dec (j < i) → i ≡ j
      go (yes b) d = absurd (R.apart i j b hj r)
      go (no b) (yes d) = absurd (R.apart j i d hi (λ w. sym (r w)))
      go (no b) (no d) = omega arith

  -- the place of a covered configuration is the index of the member equivalent to it
  pub place_alike : (l : List X) → Representatives s start C l → (y : X) → C y → (i : ℕ) → i < length l → (place same l y ≡ i) ↔ Alike s s (get_or l i start) y
  place_alike l R y c i h = (λ e. subst (λ (k : ℕ). Alike s s (get_or l k start) y) e (known_alike l R y c ((known_place same l y).1 (omega arith))), back)
    where
      back : Alike s s (get_or l i start) y → place same l y ≡ i
      back r =
          let k = alike_known l R y c i h r in
          one_index l R (place same l y) i ((known_place same l y).0 k) h (λ w. known_alike l R y c k w ∙ sym (r w))

  snoc_representatives : (l : List X) → Representatives s start C l → (y : X) → Reached s start y → C y → known same l y ≡ false
      → Representatives s start C (l ++ (y ∷ []))
  snoc_representatives l R y r c k =
      let z = R.nonempty in
      record {
        nonempty = omega (arith, length-append l (y ∷ []));
        first = get_or-append l (y ∷ []) start 0 R.nonempty ∙ R.first;
        reached = each_snoc (Reached s start) l y start R.reached r;
        covered = each_snoc C l y start R.covered c;
        apart = apart;
      }
    where
      apart : (i j : ℕ) → i < j → j < length (l ++ (y ∷ [])) → Alike s s (get_or (l ++ (y ∷ [])) i start) (get_or (l ++ (y ∷ [])) j start) → ⊥
      apart i j b h r' = go (dec_lt j (length l))
        where
          hi : i < length l
          hi = omega (arith, length-append l (y ∷ []))

          p : get_or (l ++ (y ∷ [])) i start ≡ get_or l i start
          p = get_or-append l (y ∷ []) start i hi

          go : Dec (j < length l) → ⊥
          go (yes d) = R.apart i j b d (subst₂ (Alike s s) p (get_or-append l (y ∷ []) start j d) r')
          go (no d) =
              let e : j ≡ length l = omega (arith, length-append l (y ∷ [])) in
              let q : get_or (l ++ (y ∷ [])) j start ≡ y = ap (λ (m : ℕ). get_or (l ++ (y ∷ [])) m start) e ∙ get_or-append_seam l y [] start in
              not_true (known same l y) k (alike_known l R y c i hi (subst₂ (Alike s s) p q r'))

  added_representatives : (l : List X) → Representatives s start C l → (a : ℕ) (x : X) → Reached s start x → C x
      → Representatives s start C (added same l (s.step a x))
  unfolding added
  added_representatives l R a x r c = go (s.step a x) refl
    where
      go : (o : Option X) → s.step a x ≡ o → Representatives s start C (added same l o)
      go None e = R
      go (Some y) e =
          ⊎_elim
          (λ k. subst (Representatives s start C) (sym (added_old same l y k)) R)
          (λ k. subst (Representatives s start C) (sym (added_new same l y k)) (snoc_representatives l R y (by_step a r e) (E.closed a x y c e) k))
          (told (known same l y))

  visited_representatives : (l : List X) → Representatives s start C l → (x : X) → Reached s start x → C x → (a : ℕ)
      → Representatives s start C (visited s same l x a)
  unfolding visited
  visited_representatives l R x r c zero = R
  visited_representatives l R x r c (suc a) = added_representatives (visited s same l x a) (visited_representatives l R x r c a) a x r c

  visited_prefix : (l : List X) (x : X) (a : ℕ) → Prefix l (visited s same l x a)
  unfolding visited
  visited_prefix l x zero = prefix_refl l
  visited_prefix l x (suc a) = prefix_trans (visited_prefix l x a) (added_prefix same (visited s same l x a) (s.step a x))

  visited_le : (l : List X) (x : X) (a b : ℕ) → a ≤ b → Prefix (visited s same l x a) (visited s same l x b)
  unfolding visited
  visited_le l x a b h =
      le_ind (λ m. Prefix (visited s same l x a) (visited s same l x m)) (prefix_refl (visited s same l x a))
      (λ m d p. prefix_trans p (added_prefix same (visited s same l x m) (s.step m x))) b h

  -- once action a is looked at, where it leads is known, at the place that it had before
  visited_known : (l : List X) (x y : X) → C x → (a : ℕ) → s.step a x ≡ Some y → T (known same (visited s same l x (suc a)) y)
  unfolding visited
  visited_known l x y c a e =
      subst
      (λ (o : Option X). T (known same (added same (visited s same l x a) o) y))
      (sym e)
      (added_known same (visited s same l x a) y (itself y (E.closed a x y c e)))

  visited_place : (l : List X) (x y : X) → C x → (a : ℕ) → s.step a x ≡ Some y → place same (visited s same l x (suc a)) y ≡ place same (visited s same l x a) y
  unfolding visited
  visited_place l x y c a e =
      ap (λ (o : Option X). place same (added same (visited s same l x a) o) y) e
      ∙ added_place same (visited s same l x a) y (itself y (E.closed a x y c e))

  next_in_lem : (l : List X) (n : ℕ) → n < length l → visited_next s same actions l n ≡ visited s same l (get_or l n start) actions
  unfolding visited_next visited_at
  next_in_lem l n h = ap (visited_at s same actions l) (at_in l n start h)

  next_out : (l : List X) (n : ℕ) → length l ≤ n → visited_next s same actions l n ≡ l
  unfolding visited_next visited_at
  next_out l n h = ap (visited_at s same actions l) (at_out l n h)

  -- member n, if there is one, is visited next
  pub explore_visits : (n : ℕ) → n < length (explore s same actions start n) → explore s same actions start (suc n) ≡ seen s same actions start n actions
  unfolding explore seen
  explore_visits n h = next_in_lem (explore s same actions start n) n h

  pub explore_stops : (n : ℕ) → length (explore s same actions start n) ≤ n → explore s same actions start (suc n) ≡ explore s same actions start n
  unfolding explore
  explore_stops n h = next_out (explore s same actions start n) n h

  -- The members are representatives: the first is the start, each is reached, no two are equivalent.
  pub explore_representatives : (n : ℕ) → Representatives s start C (explore s same actions start n)
  unfolding explore
  explore_representatives zero =
      record {
        nonempty = omega arith;
        first = refl;
        reached = reached;
        covered = covered;
        apart = λ i j b h r. omega arith;
      }
    where
      reached : (i : ℕ) → i < 1 → Reached s start (get_or (start ∷ []) i start)
      reached zero h = at_start
      reached (suc i) h = absurd (omega arith)

      covered : (i : ℕ) → i < 1 → C (get_or (start ∷ []) i start)
      covered zero h = E.starts
      covered (suc i) h = absurd (omega arith)
  explore_representatives (suc n) = go (explore_representatives n) (dec_lt n (length (explore s same actions start n)))
    where
      l : List X
      l = explore s same actions start n

      go : Representatives s start C l → Dec (n < length l) → Representatives s start C (visited_next s same actions l n)
      go R (yes h) =
          subst
          (Representatives s start C)
          (sym (next_in_lem l n h))
          (visited_representatives l R (get_or l n start) (R.reached n h) (R.covered n h) actions)
      go R (no h) = subst (Representatives s start C) (sym (next_out l n (omega arith))) R

  explore_next : (n : ℕ) → Prefix (explore s same actions start n) (explore s same actions start (suc n))
  unfolding seen
  explore_next n = go (dec_lt n (length (explore s same actions start n)))
    where
      l : List X
      l = explore s same actions start n

      go : Dec (n < length l) → Prefix l (explore s same actions start (suc n))
      go (yes h) = subst (Prefix l) (sym (explore_visits n h)) (visited_prefix l (get_or l n start) actions)
      go (no h) = subst (Prefix l) (sym (explore_stops n (omega arith))) (prefix_refl l)

  -- exploring further keeps every member where it is,
  pub explore_prefix : (n m : ℕ) → n ≤ m → Prefix (explore s same actions start n) (explore s same actions start m)
  explore_prefix n m h =
      le_ind (λ k. Prefix (explore s same actions start n) (explore s same actions start k)) (prefix_refl (explore s same actions start n))
      (λ k b p. prefix_trans p (explore_next k)) m h

  -- and changes nothing once all members are visited
  pub explore_done : (n m : ℕ) → length (explore s same actions start n) ≤ n → n ≤ m → explore s same actions start m ≡ explore s same actions start n
  explore_done n m d h =
      le_ind (λ k. explore s same actions start k ≡ explore s same actions start n) refl
      (λ k b e. let e' = ap length e in explore_stops k (omega arith) ∙ e) m h

  -- a member is there before its turn comes
  pub present : (n i : ℕ) → i ≤ n → i < length (explore s same actions start n) → i < length (explore s same actions start i)
  present n i h b = go (dec_lt i (length (explore s same actions start i)))
    where
      go : Dec (i < length (explore s same actions start i)) → i < length (explore s same actions start i)
      go (yes c) = c
      go (no c) = let e = ap length (explore_done i n (omega arith) h) in absurd (omega arith)

  -- and stays where it is
  pub member_stays : (n i : ℕ) → i ≤ n → i < length (explore s same actions start n)
      → get_or (explore s same actions start n) i start ≡ get_or (explore s same actions start i) i start
  member_stays n i h b = prefix_at (explore_prefix i n h) start i (present n i h b)

  -- an open action is below the bound
  below : (a : ℕ) (x y : X) → s.step a x ≡ Some y → a < actions
  below a x y e = go (dec_lt a actions)
    where
      go : Dec (a < actions) → a < actions
      go (yes h) = h
      go (no h) = none_some (E.bounded a (omega arith) x) e

  -- the list begins as the last one ended
  pub seen_zero : (i : ℕ) → seen s same actions start i 0 ≡ explore s same actions start i
  unfolding seen visited
  seen_zero i = refl

  pub seen_last : (n i : ℕ) → i ≤ n → i < length (explore s same actions start n) → seen s same actions start i actions ≡ explore s same actions start (suc i)
  seen_last n i h b = sym (explore_visits i (present n i h b))

  -- row i + 1 begins as row i ended, and the first with the start alone
  pub seen_row : (n i : ℕ) → i ≤ n → i < length (explore s same actions start n) → seen s same actions start (suc i) 0 ≡ seen s same actions start i actions
  seen_row n i h b = seen_zero (suc i) ∙ sym (seen_last n i h b)

  pub seen_start : seen s same actions start 0 0 ≡ start ∷ []
  unfolding explore
  seen_start = seen_zero 0

  seen_prefix : (n i a : ℕ) → i < n → i < length (explore s same actions start n) → a < actions → Prefix (seen s same actions start i (suc a)) (explore s same actions start n)
  unfolding seen
  seen_prefix n i a h b c =
      prefix_trans
      (visited_le (explore s same actions start i) (get_or (explore s same actions start i) i start) (suc a) actions c)
      (subst (λ (m : List X). Prefix m (explore s same actions start n)) (explore_visits i (present n i (omega arith) b)) (explore_prefix (suc i) n h))

  -- what is looked at later, by member and then by action, finds no fewer
  pub seen_later : (n i a j b : ℕ) → i ≤ n → i < length (explore s same actions start n) → a < actions → (i < j) ⊎ ((i ≡ j) × (a < b))
      → length (seen s same actions start i (suc a)) ≤ length (seen s same actions start j b)
  unfolding seen
  seen_later n i a j b h l c =
      ⊎_elim
      (λ d.
      prefix_length
      (prefix_trans
      (visited_le (explore s same actions start i) (get_or (explore s same actions start i) i start) (suc a) actions c)
      (prefix_trans
      (subst (λ (m : List X). Prefix m (explore s same actions start j)) (explore_visits i (present n i h l)) (explore_prefix (suc i) j d))
      (visited_prefix (explore s same actions start j) (get_or (explore s same actions start j) j start) b))))
      (λ d.
      subst
      (λ (k : ℕ). length (seen s same actions start i (suc a)) ≤ length (seen s same actions start k b))
      d.0
      (prefix_length (visited_le (explore s same actions start i) (get_or (explore s same actions start i) i start) (suc a) b d.1)))

  -- an action's target has the place that it had when the action was looked at, and was known then or is the next number
  step_seen : (n i a : ℕ) (y : X) → i < n → i < length (explore s same actions start n) → s.step a (get_or (explore s same actions start n) i start) ≡ Some y
      → T (known same (explore s same actions start n) y) × (place same (explore s same actions start n) y ≡ place same (seen s same actions start i a) y)
  unfolding seen
  step_seen n i a y h b e =
      let l = explore s same actions start i in
      let x = get_or (explore s same actions start i) i start in
      let b' = present n i (omega arith) b in
      let e' : s.step a (get_or (explore s same actions start i) i start) ≡ Some y = ap (s.step a) (sym (member_stays n i (omega arith) b)) ∙ e in
      let c : C (get_or (explore s same actions start i) i start) = (explore_representatives i).covered i b' in
      let p = seen_prefix n i a h b (below a x y e') in
      let k = visited_known l x y c a e' in
      (prefix_known same p y k, prefix_place same p y k ∙ visited_place l x y c a e')

  -- Every open action of a visited member leads to a configuration that a member is equivalent to, the one at its place.
  pub step_known : (n i a : ℕ) (y : X) → i < n → i < length (explore s same actions start n) → s.step a (get_or (explore s same actions start n) i start) ≡ Some y
      → place same (explore s same actions start n) y < length (explore s same actions start n)
  step_known n i a y h b e = (known_place same (explore s same actions start n) y).0 (step_seen n i a y h b e).0

  pub step_alike : (n i a : ℕ) (y : X) → i < n → i < length (explore s same actions start n) → s.step a (get_or (explore s same actions start n) i start) ≡ Some y
      → Alike s s (get_or (explore s same actions start n) (place same (explore s same actions start n) y) start) y
  step_alike n i a y h b e =
      let R = explore_representatives n in
      known_alike (explore s same actions start n) R y (E.closed a (get_or (explore s same actions start n) i start) y (R.covered i b) e) (step_seen n i a y h b e).0

  -- Numbering: a target is at most the number of those named before it,
  pub step_named : (n i a : ℕ) (y : X) → i < n → i < length (explore s same actions start n) → s.step a (get_or (explore s same actions start n) i start) ≡ Some y
      → place same (explore s same actions start n) y ≤ length (seen s same actions start i a)
  step_named n i a y h b e = let p = (step_seen n i a y h b e).1 in omega (arith, place_le same (seen s same actions start i a) y)

  -- and the number of those named grows by one where it is just that
  pub seen_next : (n i a : ℕ) → i < n → i < length (explore s same actions start n)
      → length (seen s same actions start i (suc a))
      ≡ grown (length (seen s same actions start i a)) (option_map (place same (explore s same actions start n)) (s.step a (get_or (explore s same actions start n) i start)))
  unfolding seen visited added grown
  seen_next n i a h b = go (s.step a x) refl
    where
      x : X
      x = get_or (explore s same actions start i) i start

      v : List X
      v = visited s same (explore s same actions start i) x a

      stays : get_or (explore s same actions start n) i start ≡ x
      stays = member_stays n i (omega arith) b

      one : (o : Option X) → s.step a x ≡ o → length (added same v o) ≡ grown (length v) (option_map (place same (explore s same actions start n)) o)
      one None e = refl
      one (Some y) e =
          let q : place same (explore s same actions start n) y ≡ place same v y = (step_seen n i a y h b (ap (s.step a) stays ∙ e)).1 in
          ⊎_elim
          (λ k. let c = (known_place same v y).0 (true_is (known same v y) k) in omega (arith, ap length (added_old same v y k)))
          (λ k. omega (arith, ap length (added_new same v y k), length-append v (y ∷ []), place_new same v y k))
          (told (known same v y))

      go : (o : Option X) → s.step a x ≡ o
          → length (added same v (s.step a x)) ≡ grown (length v) (option_map (place same (explore s same actions start n)) (s.step a (get_or (explore s same actions start n) i start)))
      go o e =
          ap (λ (u : Option X). length (added same v u)) e
          ∙ one o e
          ∙ ap (λ (u : Option X). grown (length v) (option_map (place same (explore s same actions start n)) u)) (sym (ap (s.step a) stays ∙ e))

  visited_origin : (l : List X) (x : X) (a j : ℕ) → length l ≤ j → j < length (visited s same l x a)
      → (b : ℕ) × (b < a) × (s.step b x ≡ Some (get_or (visited s same l x a) j start)) × (length (visited s same l x b) ≡ j)
  unfolding visited added
  visited_origin l x zero j h c = absurd (omega arith)
  visited_origin l x (suc a) j h c = go (dec_lt j (length (visited s same l x a))) (visited_origin l x a j h)
    where
      v : List X
      v = visited s same l x a

      new : (o : Option X) → s.step a x ≡ o → length v ≤ j → j < length (added same v o)
          → (b : ℕ) × (b < suc a) × (s.step b x ≡ Some (get_or (added same v (s.step a x)) j start)) × (length (visited s same l x b) ≡ j)
      new None e d c' = absurd (omega arith)
      new (Some y) e d c' =
          ⊎_elim
          (λ k. absurd (omega (arith, ap length (added_old same v y k))))
          (λ k.
          let q : length v ≡ j = omega (arith, ap length (added_new same v y k), length-append v (y ∷ [])) in
          let g : get_or (added same v (s.step a x)) j start ≡ y =
          ap (λ (o : Option X). get_or (added same v o) j start) e
          ∙ ap (λ (m : List X). get_or m j start) (added_new same v y k)
          ∙ ap (λ (i : ℕ). get_or (v ++ (y ∷ [])) i start) (sym q)
          ∙ get_or-append_seam v y [] start in
          (a, omega arith, e ∙ ap (λ (z : X). Some z) (sym g), q))
          (told (known same v y))

      go : Dec (j < length v) → (j < length v → (b : ℕ) × (b < a) × (s.step b x ≡ Some (get_or v j start)) × (length (visited s same l x b) ≡ j))
          → (b : ℕ) × (b < suc a) × (s.step b x ≡ Some (get_or (added same v (s.step a x)) j start)) × (length (visited s same l x b) ≡ j)
      go (yes d) f =
          let (b, k, e, q) = f d in
          (b, omega arith, e ∙ ap (λ (z : X). Some z) (sym (prefix_at (added_prefix same v (s.step a x)) start j d)), q)
      go (no d) f = new (s.step a x) refl (omega arith) c

  -- every member but the start was named by an earlier one, and was the next number then
  pub origin : (n j : ℕ) → 0 < j → j < length (explore s same actions start n) → Named s same actions start n j
  unfolding explore seen
  origin zero j p h = absurd (omega arith)
  origin (suc n) j p h = go (dec_lt j (length l)) (dec_lt n (length l)) (origin n j p)
    where
      l : List X
      l = explore s same actions start n

      l' : List X
      l' = explore s same actions start (suc n)

      P : Prefix l l'
      P = explore_next n

      go : Dec (j < length l) → Dec (n < length l) → (j < length l → Named s same actions start n j) → Named s same actions start (suc n) j
      go (yes d) k f =
          let N = f d in
          let v = N.visits in
          let e = N.earlier in
          record {
            from = N.from;
            by = N.by;
            earlier = e;
            visits = omega arith;
            below = N.below;
            leads = ap (s.step N.by) (prefix_at P start N.from (omega arith)) ∙ N.leads ∙ ap (λ (z : X). Some z) (sym (prefix_at P start j d));
            next = N.next;
          }
      go (no d) (no k) f = let e = ap length (explore_stops n (omega arith)) in absurd (omega arith)
      go (no d) (yes k) f =
          let e = explore_visits n k in
          let e' = ap length e in
          let (b, c, q, r) = visited_origin l (get_or l n start) actions j (omega arith) (omega arith) in
          record {
            from = n;
            by = b;
            earlier = omega arith;
            visits = omega arith;
            below = c;
            leads = ap (s.step b) (prefix_at P start n k) ∙ q ∙ ap (λ (m : List X). Some (get_or m j start)) (sym e);
            next = r;
          }

  -- Once all members are visited, each reached configuration has an equivalent member,
  pub explored : (n : ℕ) → length (explore s same actions start n) ≤ n → (y : X) → Reached s start y
      → (i : ℕ) × (i < length (explore s same actions start n)) × Alike s s (get_or (explore s same actions start n) i start) y
  explored n d y at_start =
      let R = explore_representatives n in
      (0, R.nonempty, subst (λ (z : X). Alike s s z y) (sym R.first) (λ w. refl))
  explored n d y (by_step {x = x} a r e) =
      let (i, h, p) = explored n d x r in
      let (z, q, u) = both_left (s.step a x) (alike_next s s (get_or (explore s same actions start n) i start) x p a) e in
      let b : i < n = omega arith in
      (place same (explore s same actions start n) z, step_known n i a z b h q, λ w. step_alike n i a z b h q w ∙ u w)

  -- and only one
  pub explored_one : (n : ℕ) (y : X) (i j : ℕ) → i < length (explore s same actions start n) → j < length (explore s same actions start n)
      → Alike s s (get_or (explore s same actions start n) i start) y → Alike s s (get_or (explore s same actions start n) j start) y → i ≡ j
  explored_one n y i j hi hj p q = one_index (explore s same actions start n) (explore_representatives n) i j hi hj (λ w. p w ∙ sym (q w))

  -- Refusal: m members do not suffice exactly where there are m + 1 reached configurations, no two of them equivalent.
  pub refused : (m : ℕ) → (m < length (explore s same actions start m)) ↔ Many s start (suc m)
  refused m = (many, few)
    where
      l : List X
      l = explore s same actions start m

      R : Representatives s start C l
      R = explore_representatives m

      many : m < length l → Many s start (suc m)
      many h = record { each = λ i. get_or l i start; reached = λ i b. R.reached i (omega arith); apart = λ i j b c. R.apart i j b (omega arith) }

      few : Many s start (suc m) → m < length l
      few M = go (dec_lt m (length l))
        where
          -- k is the number of configuration i
          at : ℕ → ℕ → Type 0
          at i k = (k < length l) × Alike s s (get_or l k start) (M.each i)

          index : length l ≤ m → (i : ℕ) → i < suc m → (k : ℕ) × at i k
          index d i b = let (k, c, r) = explored m d (M.each i) (M.reached i b) in (k, (c, r))

          one : (f : ℕ → ℕ) → ((i : ℕ) → i < suc m → at i (f i)) → (i j : ℕ) → i < suc m → j < suc m → f i ≡ f j → i ≡ j
          one f p i j hi hj e = pick (dec_lt i j) (dec_lt j i)
            where
              alike : Alike s s (M.each i) (M.each j)
              alike w = sym ((p i hi).1 w) ∙ (subst (at j) (sym e) (p j hj)).1 w

              pick : Dec (i < j) → Dec (j < i) → i ≡ j
              pick (yes b) d = absurd (M.apart i j b hj alike)
              pick (no b) (yes d) = absurd (M.apart j i d hi (λ w. sym (alike w)))
              pick (no b) (no d) = omega arith

          go : Dec (m < length l) → m < length l
          go (yes h) = h
          go (no h) =
              let (f, p) = choose at (suc m) (index (omega arith)) in
              let z = pigeonhole (suc m) (length l) f (λ i b. (p i b).0) (one f p) in
              absurd (omega arith)
