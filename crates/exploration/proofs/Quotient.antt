-- The quotient of a system by equivalence: its members are the numbers of a complete exploration.
use Rattle.std.specs.Prelude.{ℕ, zero, suc, ◌≤◌, ◌<◌, ◌≡◌, refl, Bool, length, get_or, Option, Some, None, option_map}
use Rattle.std.proofs.Common.{not-suc-le-zero, arith, ap, subst, ◌∙◌, lt-ltb, le-ltb}
use Rattle.std.proofs.Math.Decide.{dec_lt}
use Rattle.std.proofs.Math.Path.{sym}
use mathlib.Core.List.{List}
use Rattle.systems.specs.System.{System, Alike, Reached, at_start, by_step}
use Rattle.exploration.specs.Exploration.{place, explore}
use Rattle.systems.specs.Alike.{Both, both_barred, both_open, Bisimulation}
use Rattle.systems.proofs.Alike.{bisimilar_alike, alike_label, alike_next}
use Rattle.exploration.specs.Explored.{Explorable, Representatives}
use Rattle.exploration.proofs.Explored.{explore_representatives, step_known, step_alike, place_alike, origin}
use Rattle.exploration.specs.Quotient.{quotient}

pub quotient_label : {X : Type 0} (s : System X) (same : X → X → Bool) (start : X) (l : List X) (i : ℕ) → (quotient s same start l).label i ≡ s.label (get_or l i start)
unfolding quotient
quotient_label s same start l i = refl

pub quotient_step : {X : Type 0} (s : System X) (same : X → X → Bool) (start : X) (l : List X) (a i : ℕ) → i < length l
    → (quotient s same start l).step a i ≡ option_map (place same l) (s.step a (get_or l i start))
unfolding quotient
quotient_step s same start l a i h = rw (lt-ltb i (length l) h, quotient)

pub quotient_past : {X : Type 0} (s : System X) (same : X → X → Bool) (start : X) (l : List X) (a i : ℕ) → length l ≤ i
    → (quotient s same start l).step a i ≡ None
unfolding quotient
quotient_past s same start l a i h = rw (le-ltb i (length l) h, quotient)

module _ {X : Type 0} (s : System X) (same : X → X → Bool) (actions : ℕ) (start : X) (C : X → Type 0) (E : Explorable s same actions start C)
    (n : ℕ) (complete : length (explore s same actions start n) ≤ n) where
  -- x is equivalent to member i
  related : X → ℕ → Type 0
  related x i = (i < length (explore s same actions start n)) × Alike s s x (get_or (explore s same actions start n) i start)

  quotient_bisimulation : Bisimulation s (quotient s same start (explore s same actions start n)) related
  unfolding related
  quotient_bisimulation =
      record {
        label = λ x i r. alike_label s s x (get_or l i start) r.1 ∙ sym (quotient_label s same start l i);
        next = next;
      }
    where
      l : List X
      l = explore s same actions start n

      next : (x : X) (i : ℕ) → related x i → (a : ℕ) → Both related (s.step a x) ((quotient s same start l).step a i)
      next x i r a =
          subst (Both related (s.step a x)) (sym (quotient_step s same start l a i r.0)) (go (s.step a (get_or l i start)) refl (alike_next s s x (get_or l i start) r.1 a))
        where
          go : {o : Option X} (u : Option X) → s.step a (get_or l i start) ≡ u → Both (Alike s s) o u → Both related o (option_map (place same l) u)
          go u e both_barred = both_barred
          go u e (both_open {x = x'} {y = z} q) =
              let b : i < n = (let h = r.0 in omega arith) in
              both_open (step_known s same actions start C E n i a z b r.0 e, λ w. q w ∙ sym (step_alike s same actions start C E n i a z b r.0 e w))

  -- Each member is equivalent to its number.
  pub quotient_alike : (i : ℕ) → i < length (explore s same actions start n)
      → Alike s (quotient s same start (explore s same actions start n)) (get_or (explore s same actions start n) i start) i
  unfolding related
  quotient_alike i h =
      bisimilar_alike s (quotient s same start (explore s same actions start n)) quotient_bisimulation (get_or (explore s same actions start n) i start) i (h, λ w. refl)

  -- No two numbers are equivalent,
  pub quotient_apart : (i j : ℕ) → i < j → j < length (explore s same actions start n)
      → Alike (quotient s same start (explore s same actions start n)) (quotient s same start (explore s same actions start n)) i j → ⊥
  quotient_apart i j b h r =
      (explore_representatives s same actions start C E n).apart i j b h (λ w. quotient_alike i (omega arith) w ∙ r w ∙ sym (quotient_alike j h w))

  -- an action leads to a number of the quotient,
  pub quotient_closed : (a i k : ℕ) → i < length (explore s same actions start n)
      → (quotient s same start (explore s same actions start n)).step a i ≡ Some k → k < length (explore s same actions start n)
  quotient_closed a i k h e = go (s.step a (get_or l i start)) refl
    where
      l : List X
      l = explore s same actions start n

      go : (o : Option X) → s.step a (get_or l i start) ≡ o → k < length l
      go None q =
          let z : ◌≡◌ {A = Option ℕ} None (Some k) = ap (option_map (place same l)) (sym q) ∙ sym (quotient_step s same start l a i h) ∙ e in
          let z' : ◌≡◌ {A = ℕ} 0 1 = cc in
          absurd (omega arith)
      go (Some y) q =
          let z : Some (place same l y) ≡ Some k = ap (option_map (place same l)) (sym q) ∙ sym (quotient_step s same start l a i h) ∙ e in
          let z' : place same l y ≡ k = cc in
          let b = step_known s same actions start C E n i a y (omega arith) h q in
          omega arith

  -- and the actions from the bound on are barred.
  pub quotient_bounded : (a : ℕ) → actions ≤ a → (i : ℕ) → (quotient s same start (explore s same actions start n)).step a i ≡ None
  quotient_bounded a h i = go (dec_lt i (length l))
    where
      l : List X
      l = explore s same actions start n

      go : Dec (i < length l) → (quotient s same start l).step a i ≡ None
      go (yes b) = quotient_step s same start l a i b ∙ ap (option_map (place same l)) (E.bounded a h (get_or l i start))
      go (no b) = quotient_past s same start l a i (omega arith)

  -- Every number is reached from 0.
  pub quotient_reached : (i : ℕ) → i < length (explore s same actions start n) → Reached (quotient s same start (explore s same actions start n)) 0 i
  quotient_reached i h = go (suc i) i (omega arith) h
    where
      l : List X
      l = explore s same actions start n

      R : Representatives s start C l
      R = explore_representatives s same actions start C E n

      own : (j : ℕ) → j < length l → place same l (get_or l j start) ≡ j
      own j b = (place_alike s same actions start C E l R (get_or l j start) (R.covered j b) j b).1 (λ w. refl)

      go : (k j : ℕ) → j < k → j < length l → Reached (quotient s same start l) 0 j
      go zero j c b = absurd (not-suc-le-zero c)
      go (suc k) zero c b = at_start
      go (suc k) (suc j) c b =
          let N = origin s same actions start C E n (suc j) (omega arith) b in
          let d = N.earlier in
          by_step N.by (go k N.from (omega arith) (omega arith))
          (quotient_step s same start l N.by N.from (omega arith) ∙ ap (option_map (place same l)) N.leads ∙ ap (λ (m : ℕ). Some m) (own (suc j) b))
