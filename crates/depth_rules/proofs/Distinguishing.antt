-- Two configurations that run side by side, and what it is for no sequence of at most L actions to tell them apart: a distinguishing sequence is one along
-- which both run through the same regions and then are in different ones.
use Rattle.std.specs.Prelude.{◌≡◌, get_or, drop, Option, Some, None}
use Rattle.std.proofs.Math.Path.{refl, ap}
use Rattle.std.proofs.Common.{sym, subst₂, ◌∙◌, arith, not-suc-le-zero, le_of_suc-le-suc, length-append}
use mathlib.Core.List.{List, [], ◌∷◌, ◌++◌}
use Prim.Native.Nat.{ℕ, zero, suc, ◌+◌, ◌≤◌}
use Rattle.std.proofs.Math.ListN.{length}
use Rattle.systems.specs.System.{Alike, Reached, by_step}
use Rattle.systems.specs.Alike.{Both, both_barred, both_open, AlikeTo}
use Rattle.systems.proofs.Alike.{alike_to_zero, alike_to_suc, alike_label, alike_next}
use Rattle.model.specs.declared.Rule.{Rule}
use Rattle.model.specs.Sheet.{Configuration, Move, Barred, Open, Region, Sheet, region_number, region_of, landing, moved, step, sheet_system, region_system, Covered, WellFormed}
use Rattle.model.proofs.Classes.{region_eq}
use Rattle.depth_rules.specs.Composition.{updated_by}
use Rattle.depth_rules.specs.Distinguishing.{Beside, beside_here, beside_there, Untold, left_at, right_at, Part}

-- where two steps are open and related, so are the configurations that they lead to
both_at : {X Y : Type 0} {R : X → Y → Type 0} {o : Option X} {u : Option Y} {x : X} {y : Y} → o ≡ Some x → u ≡ Some y → Both R o u → R x y
both_at {X} {Y} {R} p q b = opened (subst₂ (Both R) p q b)
  where
    opened : {x' : X} {y' : Y} → Both R (Some x') (Some y') → R x' y'
    opened (both_open r) = r

module _ (s : Sheet) where
  -- what an action does by its move
  step_open : (a : ℕ) (x : Configuration) {target : ℕ} {rules : List Rule} → get_or (region_of s x).moves a Barred ≡ Open target rules
      → step s a x ≡ Some (landing target rules x)
  unfolding step moved
  step_open a x o = ap (λ (m : Move). moved m x) o

  step_barred : (a : ℕ) (x : Configuration) → get_or (region_of s x).moves a Barred ≡ Barred → step s a x ≡ None
  unfolding step moved
  step_barred a x o = ap (λ (m : Move). moved m x) o

  -- in one region an action has one move
  move_same : (a : ℕ) (x y : Configuration) {m : Move} → region_number s x ≡ region_number s y → get_or (region_of s x).moves a Barred ≡ m
      → get_or (region_of s y).moves a Barred ≡ m
  move_same a x y e o = ap (λ (r : Region). get_or r.moves a Barred) (sym (region_eq s x y e)) ∙ o

  -- Not told apart by runs of at most L moves, so not by the traces of sequences of at most L actions,
  pub untold_alike : (L : ℕ) (x y : Configuration) → Untold s L x y → AlikeTo L (region_system s) (region_system s) x y
  unfolding region_system
  untold_alike zero x y u = (alike_to_zero (region_system s) (region_system s) x y).1 (u [] x y beside_here (omega arith))
  untold_alike (suc L) x y u = (alike_to_suc (region_system s) (region_system s) L x y).1 (same, λ a. go a (get_or (region_of s x).moves a Barred) refl (untold_alike L))
    where
      same : region_number s x ≡ region_number s y
      same = u [] x y beside_here (omega arith)

      go : (a : ℕ) (m : Move) → get_or (region_of s x).moves a Barred ≡ m
          → ((x' y' : Configuration) → Untold s L x' y' → AlikeTo L (region_system s) (region_system s) x' y')
          → Both (AlikeTo L (region_system s) (region_system s)) (step s a x) (step s a y)
      go a Barred o f =
          subst₂ (Both (AlikeTo L (region_system s) (region_system s))) (sym (step_barred a x o)) (sym (step_barred a y (move_same a x y same o))) both_barred
      go a (Open target rules) o f =
          subst₂ (Both (AlikeTo L (region_system s) (region_system s))) (sym (step_open a x o)) (sym (step_open a y (move_same a x y same o)))
          (both_open (f (landing target rules x) (landing target rules y) (λ moves x' y' b l. u (rules ∷ moves) x' y' (beside_there a same o b) (omega arith))))

  -- and back.
  pub alike_untold : (L : ℕ) (x y : Configuration) → AlikeTo L (region_system s) (region_system s) x y → Untold s L x y
  unfolding region_system
  alike_untold L x y h moves x' y' b l = go L b h l
    where
      go : (K : ℕ) {moves : List (List Rule)} {x y x' y' : Configuration} → Beside s moves x y x' y' → AlikeTo K (region_system s) (region_system s) x y
          → length moves ≤ K → region_number s x' ≡ region_number s y'
      go K (beside_here {x = x} {y = y}) h l = (alike_to_zero (region_system s) (region_system s) x y).0 (λ w m. h w (omega arith))
      go zero (beside_there a e o b) h l = absurd (not-suc-le-zero l)
      go (suc K) (beside_there {x = x} {y = y} a e o b) h l =
          go K b (both_at (step_open a x o) (step_open a y (move_same a x y e o)) (((alike_to_suc (region_system s) (region_system s) K x y).0 h).1 a)) (le_of_suc-le-suc l)

  -- two runs, one after the other
  pub beside_join : {left right : List (List Rule)} {x y x₁ y₁ x₂ y₂ : Configuration} → Beside s left x y x₁ y₁ → Beside s right x₁ y₁ x₂ y₂
      → Beside s (left ++ right) x y x₂ y₂
  beside_join beside_here c = c
  beside_join (beside_there a e o b) c = beside_there a e o (beside_join b c)

  -- after a run, what remains of the length tells nothing apart
  pub untold_after : {moves : List (List Rule)} {x y x' y' : Configuration} (K L : ℕ) → Beside s moves x y x' y' → length moves + K ≤ L → Untold s L x y
      → Untold s K x' y'
  untold_after {moves} K L b h u moves' x'' y'' c l = u (moves ++ moves') x'' y'' (beside_join b c) (omega (arith, length-append moves moves'))

  -- What is equivalent to x runs beside it, to what is equivalent to where x arrives.
  pub beside_alike : {moves : List (List Rule)} {x y x' y' : Configuration} → Beside s moves x y x' y'
      → (z : Configuration) → Alike (region_system s) (region_system s) x z → (z' : Configuration) × Beside s moves x z x' z' × Alike (region_system s) (region_system s) x' z'
  unfolding region_system
  beside_alike beside_here z h = (z, beside_here, h)
  beside_alike (beside_there {rules = rules} {x = x} {target = target} a e o b) z h =
      let same = alike_label (region_system s) (region_system s) x z h in
      let next = both_at (step_open a x o) (step_open a z (move_same a x z same o)) (alike_next (region_system s) (region_system s) x z h a) in
      let (z', c, k) = beside_alike b (landing target rules z) next in
      (z', beside_there a same o c, k)

  -- What no run that short tells apart from z runs beside it.
  pub beside_untold : {moves : List (List Rule)} {x z x' z' : Configuration} → Beside s moves x z x' z' → (y : Configuration) → Untold s (length moves) z y
      → (y' : Configuration) × Beside s moves z y z' y'
  beside_untold (beside_here {y = z}) y u = (y, beside_here)
  beside_untold (beside_there {rules = rules} {x = x} {y = z} {target = target} a e o b) y u =
      let same = u [] z y beside_here (omega arith) in
      let o' = move_same a x z e o in
      let (y', c) = beside_untold b (landing target rules y) (λ moves' x'' y'' c l. u (rules ∷ moves') x'' y'' (beside_there a same o' c) (omega arith)) in
      (y', beside_there a same o' c)

  -- the run seen from either of the two
  pub beside_swap : {moves : List (List Rule)} {x y x' y' : Configuration} → Beside s moves x y x' y' → Beside s moves y x y' x'
  beside_swap beside_here = beside_here
  beside_swap (beside_there {x = x} {y = y} a e o b) = beside_there a (sym e) (move_same a x y e o) (beside_swap b)

  -- both land in one state
  pub beside_state : {moves : List (List Rule)} {x y x' y' : Configuration} → Beside s moves x y x' y' → x.state ≡ y.state → x'.state ≡ y'.state
  unfolding landing
  beside_state beside_here h = h
  beside_state (beside_there a e o b) h = beside_state b refl

  -- the values at the end, by the moves' rules
  pub beside_values : {moves : List (List Rule)} {x y x' y' : Configuration} → Beside s moves x y x' y' → x'.values ≡ updated_by moves x.values
  unfolding landing updated_by
  beside_values beside_here = refl
  beside_values (beside_there a e o b) = beside_values b

  -- a run from a reached configuration ends at one
  pub beside_reached : {moves : List (List Rule)} {x y x' y' : Configuration} → Beside s moves x y x' y' → Reached (sheet_system s) s.start x
      → Reached (sheet_system s) s.start x'
  unfolding sheet_system
  beside_reached beside_here r = r
  beside_reached (beside_there {x = x} a e o b) r = beside_reached b (by_step a r (step_open a x o))

  -- and one from a covered configuration at a covered one
  pub beside_covered : WellFormed s → {moves : List (List Rule)} {x y x' y' : Configuration} → Beside s moves x y x' y' → Covered s x → Covered s x'
  beside_covered W beside_here h = h
  beside_covered W (beside_there {rules = rules} {x = x} {target = target} a e o b) h =
      beside_covered W b (W.moves_land x (landing target rules x) a h (step_open a x o))

  pub left_first : {moves : List (List Rule)} {x y x' y' : Configuration} (b : Beside s moves x y x' y') → left_at s b zero ≡ x
  unfolding left_at
  left_first beside_here = refl
  left_first (beside_there a e o b) = refl

  pub right_first : {moves : List (List Rule)} {x y x' y' : Configuration} (b : Beside s moves x y x' y') → right_at s b zero ≡ y
  unfolding right_at
  right_first beside_here = refl
  right_first (beside_there a e o b) = refl

  -- There is one from each place to each later one.
  pub part : {moves : List (List Rule)} {x y x' y' : Configuration} (b : Beside s moves x y x' y') (k l : ℕ) → k ≤ l → l ≤ length moves → Part s b k l
  unfolding left_at right_at
  part beside_here zero zero h g = record { middle = []; runs = beside_here; long = refl; after = refl }
  part beside_here zero (suc l) h g = absurd (not-suc-le-zero g)
  part beside_here (suc k) zero h g = absurd (not-suc-le-zero h)
  part beside_here (suc k) (suc l) h g = absurd (not-suc-le-zero g)
  part (beside_there a e o b) zero zero h g = record { middle = []; runs = beside_here; long = refl; after = refl }
  part (beside_there {rules = rules} a e o b) zero (suc l) h g =
      let p = part b zero l (omega arith) (le_of_suc-le-suc g) in
      let long = p.long in
      record {
        middle = rules ∷ p.middle;
        runs = beside_there a e o (subst₂ (λ (x y : Configuration). Beside s p.middle x y (left_at s b l) (right_at s b l)) (left_first b) (right_first b) p.runs);
        long = omega arith;
        after = ap (λ (m : List (List Rule)). rules ∷ m) p.after;
      }
  part (beside_there a e o b) (suc k) zero h g = absurd (not-suc-le-zero h)
  part (beside_there a e o b) (suc k) (suc l) h g =
      let p = part b k l (le_of_suc-le-suc h) (le_of_suc-le-suc g) in
      let long = p.long in
      record { middle = p.middle; runs = p.runs; long = omega arith; after = p.after }

  -- and the run goes on from each place to its end.
  pub rest : {moves : List (List Rule)} {x y x' y' : Configuration} (b : Beside s moves x y x' y') (k : ℕ) → k ≤ length moves
      → Beside s (drop k moves) (left_at s b k) (right_at s b k) x' y'
  unfolding left_at right_at
  rest beside_here zero h = beside_here
  rest beside_here (suc k) h = absurd (not-suc-le-zero h)
  rest (beside_there a e o b) zero h = beside_there a e o b
  rest (beside_there a e o b) (suc k) h = rest b k (le_of_suc-le-suc h)
