-- What the search has found: where an action of a pair writes different entries, the pair's word and that action are the first word that separates the two
-- starts; where all actions of all pairs were looked at, no word does.
use Rattle.std.specs.Prelude.{ℕ, ◌≤◌, ◌<◌, ◌≡◌, refl, List, [], ◌∷◌, ◌++◌, length, None}
use Rattle.std.proofs.Math.Decide.{dec_lt}
use Rattle.std.proofs.Common.{arith, sym, subst, ◌∙◌, inl, inr, ⊎_elim, append_assoc, append-nil, length-append}
use Rattle.std.proofs.Math.Path.{ap}
use Rattle.systems.specs.System.{System, Reading, after, entry, written, reading, Alike}
use Rattle.systems.specs.Words.{ended, Sooner, shorter, as_long}
use Rattle.systems.specs.Alike.{Both, both_barred}
use Rattle.systems.proofs.Alike.{reading_parts, next_both, alike_to_zero}
use Rattle.systems.specs.Dictionary.{NoLater}
use Rattle.systems.proofs.Dictionary.{nil_first, sooner_irreflexive, sooner_trans, sooner_snoc, sooner_last, no_later_append}
use Rattle.exploration.specs.FirstWords.{Earlier}
use Rattle.exploration.proofs.FirstWords.{pairs_compared}
use Rattle.exploration.specs.Pairs.{Pair, Joined, Visited, FirstSeparating}

-- the last action of a word writes the same entry on both sides, where all entries are the same
entries_last : {X Y : Type 0} (s : System X) (t : System Y) (v : List ℕ) (a : ℕ) (x : X) (y : Y) → written s (v ++ (a ∷ [])) x ≡ written t (v ++ (a ∷ [])) y
    → entry s (s.step a (ended s v x)) ≡ entry t (t.step a (ended t v y))
unfolding written ended
entries_last s t [] a x y e = cc
entries_last s t (b ∷ v) a x y e = entries_last s t v a (after x (s.step b x)) (after y (t.step b y)) (cc)

-- the beginning of a word is no later than the word
prefix_no_later : (v z : List ℕ) → NoLater v (v ++ z)
prefix_no_later v [] = inl (sym (append-nil v))
prefix_no_later v (a ∷ z) = inr (shorter {v = v} {w = v ++ (a ∷ z)} (omega (arith, length-append v (a ∷ z))))

module _ {X Y : Type 0} (s : System X) (t : System Y) (x₀ : X) (y₀ : Y) (actions : ℕ) {q : ℕ → Pair X Y} {m h a : ℕ} (Q : Visited s t x₀ y₀ actions q m h a)
    (sb : (b : ℕ) → actions ≤ b → (x : X) → s.step b x ≡ None) (tb : (b : ℕ) → actions ≤ b → (y : Y) → t.step b y ≡ None) where
  -- Where all words of a kind were looked at, and what is sooner than one of the kind is of it, words of the kind read the same.
  module _ (P : List ℕ → Type 0) (down : (v w : List ℕ) → Sooner v w → P w → P v)
      (ready : (k b : ℕ) → k < m → b < actions → P ((q k).word ++ (b ∷ [])) → Earlier k b h a) where
    down_to : {v w : List ℕ} → NoLater v w → P w → P v
    down_to (inl e) p = subst P (sym e) p
    down_to {v} {w} (inr r) p = down v w r p

    pairs_read : (z : List ℕ) (k : ℕ) → k < m → P ((q k).word ++ z) → reading s z (q k).left ≡ reading t z (q k).right
    pairs_read [] k l p = (alike_to_zero s t (q k).left (q k).right).1 (Q.held k l).labels [] (omega arith)
    pairs_read (b ∷ z) k l p =
        next_both s t b z (q k).left (q k).right (pairs_read z k l (down ((q k).word ++ z) ((q k).word ++ (b ∷ z)) shorter_by p)) (joined (λ j. pairs_read z j)) (steps (dec_lt b actions))
      where
        -- the word with its first action set apart
        cut : ((q k).word ++ (b ∷ [])) ++ z ≡ (q k).word ++ (b ∷ z)
        cut = append_assoc (q k).word (b ∷ []) z

        shorter_by : Sooner ((q k).word ++ z) ((q k).word ++ (b ∷ z))
        shorter_by = shorter {v = (q k).word ++ z} {w = (q k).word ++ (b ∷ z)} (omega (arith, length-append (q k).word z, length-append (q k).word (b ∷ z)))

        joined : ((j : ℕ) → j < m → P ((q j).word ++ z) → reading s z (q j).left ≡ reading t z (q j).right)
            → (x : X) (y : Y) → Joined q m ((q k).word ++ (b ∷ [])) x y → reading s z x ≡ reading t z y
        joined again x y J =
            J.agree (reading s z) (reading t z)
            (λ j d r. again j d (down_to (subst (NoLater ((q j).word ++ z)) cut (no_later_append z r)) p))

        steps : Dec (b < actions) → Both (Joined q m ((q k).word ++ (b ∷ []))) (s.step b (q k).left) (t.step b (q k).right)
        steps (yes d) = Q.looked k b l d (ready k b l d (down_to (subst (NoLater ((q k).word ++ (b ∷ []))) cut (prefix_no_later ((q k).word ++ (b ∷ [])) z)) p))
        steps (no d) = rw (sb b (omega arith) (q k).left, tb b (omega arith) (q k).right) both_barred

    words_read : (v : List ℕ) → P v → reading s v x₀ ≡ reading t v y₀
    words_read v p =
        subst (λ (r : Pair X Y). P (r.word ++ v) → reading s v r.left ≡ reading t v r.right) Q.first (pairs_read v 0 Q.some) p

  -- Where all actions of all pairs were looked at, all words read the same.
  pub visited_all : m ≤ h → Alike s t x₀ y₀
  visited_all l v = words_read (λ w. Unit {0}) (λ v w r p. tt) (λ k b d e p. inl (omega arith)) v tt

  -- what is sooner than the action that is looked at next was looked at
  sooner_looked : h < m → (k b : ℕ) → k < m → b < actions → Sooner ((q k).word ++ (b ∷ [])) ((q h).word ++ (a ∷ [])) → Earlier k b h a
  sooner_looked l k b d e r =
      ⊎_elim
      (λ o. o)
      (λ o.
      absurd
      (⊎_elim
      (λ z.
      sooner_irreflexive
      (subst (λ (p : ℕ × ℕ). Sooner ((q k).word ++ (b ∷ [])) ((q p.0).word ++ (p.1 ∷ []))) (λ i. (sym z.0 i, sym z.1 i)) r))
      (λ z. sooner_irreflexive (sooner_trans r (later z)))
      o))
      (pairs_compared k b h a)
    where
      later : Earlier h a k b → Sooner ((q h).word ++ (a ∷ [])) ((q k).word ++ (b ∷ []))
      later (inl z) = sooner_snoc a b (Q.rising h k z d)
      later (inr (z, z')) = subst (λ (i : ℕ). Sooner ((q h).word ++ (a ∷ [])) ((q i).word ++ (b ∷ []))) z (sooner_last (q h).word z')

  -- Where an action of a pair writes different entries, and all before it was looked at, its word is the first that separates the starts.
  pub visited_parts : h < m → (entry s (s.step a (q h).left) ≡ entry t (t.step a (q h).right) → ⊥) → FirstSeparating s t x₀ y₀ ((q h).word ++ (a ∷ []))
  unfolding reading
  visited_parts l n =
      let H = Q.held h l in
      record {
        parts = λ e.
            let f : s.label x₀ ∷ written s ((q h).word ++ (a ∷ [])) x₀ ≡ t.label y₀ ∷ written t ((q h).word ++ (a ∷ [])) y₀ = ap (λ (r : Reading). r.entries) e in
            let g = entries_last s t (q h).word a x₀ y₀ (cc) in
            n (ap (λ (x : X). entry s (s.step a x)) (sym H.left_led) ∙ g ∙ ap (λ (y : Y). entry t (t.step a y)) H.right_led);
        first = words_read (λ v. Sooner v ((q h).word ++ (a ∷ []))) (λ v w r p. sooner_trans r p) (sooner_looked l);
      }

-- nothing is sooner than the empty word
none_sooner : {v w : List ℕ} → Sooner v w → length w ≡ 0 → ⊥
none_sooner (shorter h) e = omega arith
none_sooner (as_long q b) e = nil_first b e

-- Starts with different labels are separated by the empty word.
pub starts_apart : {X Y : Type 0} (s : System X) (t : System Y) (x : X) (y : Y) → (s.label x ≡ t.label y → ⊥) → FirstSeparating s t x y []
starts_apart s t x y n = record { parts = λ e. n (reading_parts s t [] x y e).0; first = λ v r. absurd (none_sooner r refl) }
