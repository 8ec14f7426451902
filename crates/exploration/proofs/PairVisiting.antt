-- One step of the search: the next action of a pair is barred on both sides, leads to what is joined already, or to a new pair.
use Rattle.std.specs.Prelude.{ℕ, zero, suc, ◌+◌, ◌≤◌, ◌<◌, ◌≡◌, refl, ◌⊎◌, Some, None}
use Rattle.std.proofs.Common.{add-one, sym, ap, ◌∙◌, inl, inr, ⊎_elim}
use native.Mathlib.Omega.{arith}
use Rattle.std.proofs.Math.Path.{subst}
use mathlib.Core.List.{List, [], ◌∷◌, ◌++◌}
use Rattle.systems.specs.System.{System, below_nil}
use Rattle.systems.specs.Words.{ended, Sooner}
use Rattle.systems.proofs.Laws.{below_suc, below_next}
use Rattle.systems.specs.Alike.{Both, both_barred, both_open}
use Rattle.systems.proofs.Alike.{both_map}
use Rattle.systems.specs.Dictionary.{NoLater}
use Rattle.systems.proofs.Dictionary.{sooner_snoc, sooner_last, nil_sooner}
use Rattle.exploration.specs.FirstWords.{Earlier}
use Rattle.exploration.proofs.FirstWords.{ended_open, below_snoc}
use Rattle.exploration.specs.Pairs.{Pair, Joined, JoinedAll, Origin, Held, Visited}
use Rattle.exploration.specs.PairVisiting.{Extends}

-- one action more was looked at
earlier_more : {i b h : ℕ} (a : ℕ) → Earlier i b h a → Earlier i b h (a + 1)
earlier_more a (inl l) = inl l
earlier_more a (inr (e, l)) = inr (e, omega arith)

earlier_last : (k b h a : ℕ) → Earlier k b h (a + 1) → Earlier k b h a ⊎ ((k ≡ h) × (b ≡ a))
earlier_last k b h a (inl l) = inl (inl l)
earlier_last k b h a (inr (e, l)) = ⊎_elim (λ q. inr (e, q)) (λ m. inl (inr (e, m))) (below_suc (rw add-one at l))

module _ {X Y : Type 0} (s : System X) (t : System Y) (x₀ : X) (y₀ : Y) (actions : ℕ) where
  -- The search begins with the pair of the starts, where they have one label.
  pub visited_begun : (q : ℕ → Pair X Y) → q 0 ≡ record { left = x₀; right = y₀; word = [] } → s.label x₀ ≡ t.label y₀ → Visited s t x₀ y₀ actions q 1 0 0
  unfolding ended
  visited_begun q e l =
      let start : Held s t x₀ y₀ actions (record { left = x₀; right = y₀; word = [] }) =
      record { of_actions = below_nil; left_led = refl; right_led = refl; labels = l } in
      record {
        some = omega arith;
        first = e;
        held = λ k h. let z : k ≡ 0 = omega arith in subst (λ (i : ℕ). Held s t x₀ y₀ actions (q i)) (sym z) (subst (Held s t x₀ y₀ actions) (sym e) start);
        origin = λ k p h. absurd (omega arith);
        rising = λ j k p h. absurd (omega arith);
        looked = λ k b h l o. absurd (⊎_elim (λ z. omega arith) (λ z. omega (arith, z.1)) o);
      }

  -- every pair's word is sooner than that of the action that is looked at next
  pub words_before : {q : ℕ → Pair X Y} {m h a : ℕ} → Visited s t x₀ y₀ actions q m h a → h < m → (k : ℕ) → k < m → Sooner (q k).word ((q h).word ++ (a ∷ []))
  words_before {q} {m} {h} {a} Q l zero d = subst (λ (p : Pair X Y). Sooner p.word ((q h).word ++ (a ∷ []))) (sym Q.first) (nil_sooner (q h).word a)
  words_before {q} {m} {h} {a} Q l (suc k) d =
      let O = Q.origin (suc k) (omega arith) d in
      let w = O.word_is in
      subst (λ (v : List ℕ). Sooner v ((q h).word ++ (a ∷ []))) (sym w)
      (⊎_elim
      (λ b. sooner_snoc O.action a (Q.rising O.parent h b l))
      (λ b. subst (λ (i : ℕ). Sooner ((q i).word ++ (O.action ∷ [])) ((q h).word ++ (a ∷ []))) (sym b.0) (sooner_last (q h).word b.1))
      O.earlier)

  -- one action more was looked at, which is barred on both sides or leads to what is joined
  looked_more : {q : ℕ → Pair X Y} {m h a : ℕ} → Visited s t x₀ y₀ actions q m h a
      → Both (Joined q m ((q h).word ++ (a ∷ []))) (s.step a (q h).left) (t.step a (q h).right) → Visited s t x₀ y₀ actions q m h (a + 1)
  looked_more {q} {m} {h} {a} Q B =
      record {
        some = Q.some;
        first = Q.first;
        held = Q.held;
        origin = λ k p d.
            let O = Q.origin k p d in
            record { parent = O.parent; action = O.action; before = O.before; word_is = O.word_is; earlier = earlier_more a O.earlier };
        rising = Q.rising;
        looked = λ k b d l o.
            ⊎_elim
            (λ z. Q.looked k b d l z)
            (λ z.
            subst (λ (x : ℕ × ℕ). Both (Joined q m ((q x.0).word ++ (x.1 ∷ []))) (s.step x.1 (q x.0).left) (t.step x.1 (q x.0).right))
            (λ i. (sym z.0 i, sym z.1 i)) B)
            (earlier_last k b h a o);
      }

  pub visited_barred : {q : ℕ → Pair X Y} {m h a : ℕ} → Visited s t x₀ y₀ actions q m h a → s.step a (q h).left ≡ None → t.step a (q h).right ≡ None
      → Visited s t x₀ y₀ actions q m h (a + 1)
  visited_barred Q e f = looked_more Q (rw (e, f) both_barred)

  pub visited_joined : {q : ℕ → Pair X Y} {m h a : ℕ} {x : X} {y : Y} → Visited s t x₀ y₀ actions q m h a → h < m
      → s.step a (q h).left ≡ Some x → t.step a (q h).right ≡ Some y → JoinedAll q m x y → Visited s t x₀ y₀ actions q m h (a + 1)
  visited_joined Q l e f J =
      looked_more Q (rw (e, f) (both_open (record { agree = λ f g H. J.agree f g (λ k d. H k d (inr (words_before Q l k d))) })))

  -- what is joined stays so in a longer queue
  joined_longer : {q q' : ℕ → Pair X Y} {m n : ℕ} {w : List ℕ} (x : X) (y : Y) → Extends q q' m → m ≤ n → Joined q m w x y → Joined q' n w x y
  joined_longer {q} {q'} {m} {n} {w} x y e l J =
      record {
        agree = λ f g H.
            J.agree f g (λ k h r.
            subst (λ (p : Pair X Y). f p.left ≡ g p.right) (e k h)
            (H k (omega arith) (subst (λ (p : Pair X Y). NoLater p.word w) (sym (e k h)) r)));
      }

  -- a new pair is queued
  module _ {q q' : ℕ → Pair X Y} {m h a : ℕ} {x : X} {y : Y} (Q : Visited s t x₀ y₀ actions q m h a) (l : h < m) (ha : a < actions)
      (e : s.step a (q h).left ≡ Some x) (f : t.step a (q h).right ≡ Some y) (labels : s.label x ≡ t.label y)
      (E : Extends q q' m) (N : q' m ≡ record { left = x; right = y; word = (q h).word ++ (a ∷ []) }) where
    new_held : Held s t x₀ y₀ actions (record { left = x; right = y; word = (q h).word ++ (a ∷ []) })
    new_held =
        let H = Q.held h l in
        record {
          of_actions = below_snoc a H.of_actions ha;
          left_led = ended_open s (q h).word a x₀ x (ap (s.step a) H.left_led ∙ e);
          right_led = ended_open t (q h).word a y₀ y (ap (t.step a) H.right_led ∙ f);
          labels = labels;
        }

    new_word : (q' m).word ≡ (q' h).word ++ (a ∷ [])
    new_word = ap (λ (p : Pair X Y). p.word) N ∙ ap (λ (p : Pair X Y). p.word ++ (a ∷ [])) (sym (E h l))

    new_origin : (k : ℕ) → 0 < k → k < m + 1 → Origin q' k h (a + 1)
    new_origin k p d = ⊎_elim last old (below_suc (rw add-one at d))
      where
        last : k ≡ m → Origin q' k h (a + 1)
        last z =
            subst (λ (i : ℕ). Origin q' i h (a + 1)) (sym z)
            (record { parent = h; action = a; before = l; word_is = new_word; earlier = inr (refl, omega arith) })

        old : k < m → Origin q' k h (a + 1)
        old d' =
            let O = Q.origin k p d' in
            let b = O.before in
            record {
              parent = O.parent;
              action = O.action;
              before = O.before;
              word_is =
                  ap (λ (r : Pair X Y). r.word) (E k d') ∙ O.word_is ∙ ap (λ (r : Pair X Y). r.word ++ (O.action ∷ [])) (sym (E O.parent (omega arith)));
              earlier = earlier_more a O.earlier;
            }

    new_rising : (j k : ℕ) → j < k → k < m + 1 → Sooner (q' j).word (q' k).word
    new_rising j k p d = ⊎_elim last old (below_suc (rw add-one at d))
      where
        last : k ≡ m → Sooner (q' j).word (q' k).word
        last z =
            subst (λ (i : ℕ). Sooner (q' j).word (q' i).word) (sym z)
            (subst (λ (r : Pair X Y). Sooner (q' j).word r.word) (sym N)
            (subst (λ (r : Pair X Y). Sooner r.word ((q h).word ++ (a ∷ []))) (sym (E j (omega arith))) (words_before Q l j (omega arith))))

        old : k < m → Sooner (q' j).word (q' k).word
        old d' =
            subst (λ (r : Pair X Y). Sooner (q' j).word r.word) (sym (E k d'))
            (subst (λ (r : Pair X Y). Sooner r.word (q k).word) (sym (E j (omega arith))) (Q.rising j k p d'))

    new_joined : Joined q' (m + 1) ((q' h).word ++ (a ∷ [])) x y
    new_joined =
        record {
          agree = λ f g H. subst (λ (r : Pair X Y). f r.left ≡ g r.right) N (H m (omega arith) (inl new_word));
        }

    new_looked : (k b : ℕ) → k < m + 1 → b < actions → Earlier k b h (a + 1)
        → Both (Joined q' (m + 1) ((q' k).word ++ (b ∷ []))) (s.step b (q' k).left) (t.step b (q' k).right)
    new_looked k b d lb o = ⊎_elim old last (earlier_last k b h a o)
      where
        below : Earlier k b h a → k < m
        below (inl z) = omega arith
        below (inr (z, z')) = omega arith

        old : Earlier k b h a → Both (Joined q' (m + 1) ((q' k).word ++ (b ∷ []))) (s.step b (q' k).left) (t.step b (q' k).right)
        old z =
            subst (λ (r : Pair X Y). Both (Joined q' (m + 1) (r.word ++ (b ∷ []))) (s.step b r.left) (t.step b r.right)) (sym (E k (below z)))
            (both_map (λ x' y' J. joined_longer x' y' E (omega arith) J) (Q.looked k b (below z) lb z))

        here : Both (Joined q' (m + 1) ((q' h).word ++ (a ∷ []))) (s.step a (q' h).left) (t.step a (q' h).right)
        here =
            let e' = ap (λ (r : Pair X Y). s.step a r.left) (E h l) ∙ e in
            let f' = ap (λ (r : Pair X Y). t.step a r.right) (E h l) ∙ f in
            rw (e', f') (both_open new_joined)

        last : (k ≡ h) × (b ≡ a) → Both (Joined q' (m + 1) ((q' k).word ++ (b ∷ []))) (s.step b (q' k).left) (t.step b (q' k).right)
        last z =
            subst
            (λ (r : ℕ × ℕ). Both (Joined q' (m + 1) ((q' r.0).word ++ (r.1 ∷ []))) (s.step r.1 (q' r.0).left) (t.step r.1 (q' r.0).right))
            (λ i. (sym z.0 i, sym z.1 i)) here

    pub visited_new : Visited s t x₀ y₀ actions q' (m + 1) h (a + 1)
    visited_new =
        record {
          some = omega arith;
          first = E 0 Q.some ∙ Q.first;
          held =
              below_next m (λ k d. subst (Held s t x₀ y₀ actions) (sym (E k d)) (Q.held k d)) (subst (Held s t x₀ y₀ actions) (sym N) new_held);
          origin = new_origin;
          rising = new_rising;
          looked = new_looked;
        }

  -- all actions of a pair were looked at: the next pair's turn
  pub visited_next : {q : ℕ → Pair X Y} {m h a : ℕ} → Visited s t x₀ y₀ actions q m h a → actions ≤ a → Visited s t x₀ y₀ actions q m (h + 1) 0
  visited_next {q} {m} {h} {a} Q r =
      record {
        some = Q.some;
        first = Q.first;
        held = Q.held;
        origin = λ k p d.
            let O = Q.origin k p d in
            record {
              parent = O.parent;
              action = O.action;
              before = O.before;
              word_is = O.word_is;
              earlier = inl (⊎_elim (λ z. omega arith) (λ z. omega (arith, z.0)) O.earlier);
            };
        rising = Q.rising;
        looked = λ k b d l o. Q.looked k b d l (⊎_elim (λ z. turn k b l (below_suc (rw add-one at z))) (λ z. absurd (omega (arith, z.1))) o);
      }
    where
      turn : (k b : ℕ) → b < actions → (k ≡ h) ⊎ (k < h) → Earlier k b h a
      turn k b l (inl z) = inr (z, omega arith)
      turn k b l (inr z) = inl z
