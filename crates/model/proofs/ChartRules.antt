-- A sheet's chart obeys the chart rules, and what is read on it is what is read on the sheet.
use Rattle.std.specs.Prelude.{◌≡◌, ◌↔◌, ◌⊎◌, List, get_or, Option, Some, None, option_map}
use Rattle.std.proofs.Math.Path.{refl, sym, ap, subst}
use Rattle.std.proofs.Common.{◌∙◌, eq-eqb, ne_eqb}
use Rattle.std.proofs.Math.Logic.{inl, inr}
use Prim.Native.Nat.{ℕ, zero, suc, max, ◌≤◌, ◌<◌}
use Rattle.std.proofs.Math.Decide.{dec_lt, ℕ_discrete}
use native.Mathlib.Omega.{arith}
use Rattle.std.proofs.Math.ListN.{length}
use Rattle.exploration.specs.Exploration.{explore, place}
use Rattle.systems.specs.System.{System, Alike}
use Rattle.systems.specs.Alike.{Both, both_barred, both_open}
use Rattle.systems.proofs.Alike.{bisimilar_alike, alike_trans}
use Rattle.exploration.specs.Explored.{seen, grown}
use Rattle.exploration.proofs.Explored.{present, seen_zero, seen_last, seen_next, step_known, step_named}
use Rattle.exploration.specs.Quotient.{quotient}
use Rattle.exploration.proofs.Quotient.{quotient_label, quotient_step, quotient_alike, quotient_closed}
use Rattle.model.specs.Sheet.{Configuration, Move, Barred, Open, Region, Sheet, region_of, moved, step, sheet_system, sheet_reading, Covered, WellFormed}
use Rattle.model.specs.Blocks.{same_class, blocks, block_at, target_byte, chart_of}
use Rattle.model.specs.Chart.{label_of, target_of, block_named, chart_step, chart_system, chart_reading, next_after, next_in, next_unnamed, ChartRules}
use Rattle.model.proofs.Classes.{label_number, region_eq}
use Rattle.model.proofs.ClassTheorem.{step_bounded, sheet_explorable, blocks_representatives}
use Rattle.model.proofs.ChartBytes.{chart_of_mark, chart_of_actions, chart_of_length, chart_of_label, chart_of_target}
use Rattle.model.proofs.Labels.{sheet_plain}
use Rattle.model.specs.Rounds.{TargetsRight}
use Rattle.model.proofs.Rounds.{named_barred, named_block, chart_step_in, chart_step_out, told_alike}

-- the next unnamed number after a target: nothing new, or one more
next_barred : (m : ℕ) → next_after m 255 ≡ m
unfolding next_after
next_barred m = refl

next_named : (m t : ℕ) → t < 255 → t ≤ m → next_after m t ≡ max m (suc t)
unfolding next_after
next_named m t h b = go (ℕ_discrete t m)
  where
    go : Dec (t ≡ m) → next_after m t ≡ max m (suc t)
    go (yes e) = rw (ne_eqb t 255 (omega arith), eq-eqb t m e, next_after) (omega arith)
    go (no n) = rw (ne_eqb t 255 (omega arith), ne_eqb t m n, next_after) (omega arith)

both_same : {X : Type 0} {R : X → X → Type 0} (o : Option X) → ((x : X) → o ≡ Some x → R x x) → Both R o o
both_same None f = both_barred
both_same (Some x) f = both_open (f x refl)

-- configurations of one region have the same actions barred
barred_alike : (s : Sheet) (a : ℕ) (x y : Configuration) → region_of s x ≡ region_of s y → step s a x ≡ None → step s a y ≡ None
unfolding step moved
barred_alike s a x y e p = go (get_or (region_of s x).moves a Barred) (get_or (region_of s y).moves a Barred) (ap (λ (r : Region). get_or r.moves a Barred) e) p
  where
    go : (m n : Move) → m ≡ n → moved m x ≡ None → moved n y ≡ None
    go m Barred q r = refl
    go Barred (Open t rs) q r = let z : ◌≡◌ {A = ℕ} 0 1 = cc in absurd (omega arith)
    go (Open u qs) (Open t rs) q r = let z : ◌≡◌ {A = ℕ} 0 1 = cc in absurd (omega arith)

module _ (s : Sheet) (W : WellFormed s) (few : length (blocks s) ≤ 255) where
  -- an open action of a block leads to a block
  pub place_lt : (i a : ℕ) (y : Configuration) → i < length (blocks s) → step s a (block_at s i) ≡ Some y → place (same_class s) (blocks s) y < length (blocks s)
  unfolding blocks sheet_system
  place_lt i a y h e = step_known (sheet_system s) (same_class s) s.actions s.start (Covered s) (sheet_explorable s W) 255 i a y (omega arith) h e

  -- a step on the chart is the place of the step on the sheet
  pub chart_step_lem : (a i : ℕ) → i < length (blocks s) → chart_step (chart_of s) a i ≡ option_map (place (same_class s) (blocks s)) (step s a (block_at s i))
  unfolding target_byte
  chart_step_lem a i h = go (dec_lt a s.actions)
    where
      one : (o : Option Configuration) → step s a (block_at s i) ≡ o → block_named (target_byte s o) ≡ option_map (place (same_class s) (blocks s)) o
      one None e = named_barred 255 refl
      one (Some y) e = named_block (place (same_class s) (blocks s) y) (omega (arith, place_lt i a y h e))

      go : Dec (a < s.actions) → chart_step (chart_of s) a i ≡ option_map (place (same_class s) (blocks s)) (step s a (block_at s i))
      go (yes b) =
          chart_step_in (chart_of s) a i (subst (λ (n : ℕ). a < n) (sym (chart_of_actions s)) b)
          ∙ ap block_named (chart_of_target s i a h b)
          ∙ one (step s a (block_at s i)) refl
      go (no b) =
          chart_step_out (chart_of s) a i (omega (arith, chart_of_actions s))
          ∙ sym (ap (option_map (place (same_class s) (blocks s))) (step_bounded s W a (omega arith) (block_at s i)))

  -- Each block of the sheet is equivalent to its number on the chart.
  pub block_alike : (i : ℕ) → i < length (blocks s) → Alike (sheet_system s) (chart_system (chart_of s)) (block_at s i) i
  unfolding blocks sheet_system chart_system
  block_alike i h =
      alike_trans (sheet_system s) Q (chart_system (chart_of s)) (block_at s i) i i
      (quotient_alike (sheet_system s) (same_class s) s.actions s.start (Covered s) (sheet_explorable s W) 255 few i h)
      (bisimilar_alike Q (chart_system (chart_of s)) (record { label = label; next = next }) i i (h, refl))
    where
      Q : System ℕ
      Q = quotient (sheet_system s) (same_class s) s.start (blocks s)

      R : ℕ → ℕ → Type 0
      R i j = (i < length (blocks s)) × (j ≡ i)

      label : (i j : ℕ) → R i j → Q.label i ≡ label_of (chart_of s) j
      label i j r =
          quotient_label (sheet_system s) (same_class s) s.start (blocks s) i ∙ sym (chart_of_label s W i r.0) ∙ ap (label_of (chart_of s)) (sym r.1)

      next : (i j : ℕ) → R i j → (a : ℕ) → Both R (Q.step a i) (chart_step (chart_of s) a j)
      next i j r a =
          subst
          (Both R (Q.step a i))
          (quotient_step (sheet_system s) (same_class s) s.start (blocks s) a i r.0 ∙ sym (chart_step_lem a i r.0) ∙ ap (chart_step (chart_of s) a) (sym r.1))
          (both_same (Q.step a i)
          (λ k e. (quotient_closed (sheet_system s) (same_class s) s.actions s.start (Covered s) (sheet_explorable s W) 255 few a i k r.0 e, refl)))

  -- the byte of a target, and when it says barred
  target_barred : (i a : ℕ) → i < length (blocks s) → a < s.actions → (target_of (chart_of s) i a ≡ 255) ↔ (step s a (block_at s i) ≡ None)
  unfolding target_byte
  target_barred i a h b = (λ e. to (step s a (block_at s i)) refl (sym (chart_of_target s i a h b) ∙ e), λ e. chart_of_target s i a h b ∙ ap (target_byte s) e)
    where
      to : (o : Option Configuration) → step s a (block_at s i) ≡ o → target_byte s o ≡ 255 → o ≡ None
      to None q e = refl
      to (Some y) q e = absurd (omega (arith, place_lt i a y h q))

  pub chart_targets : TargetsRight (chart_of s)
  unfolding chart_of target_byte
  chart_targets i a h b = go (step s a (block_at s i)) refl
    where
      go : (o : Option Configuration) → step s a (block_at s i) ≡ o → (target_of (chart_of s) i a < length (blocks s)) ⊎ (target_of (chart_of s) i a ≡ 255)
      go None e = inr ((target_barred i a h b).1 e)
      go (Some y) e = inl (let q = chart_of_target s i a h b ∙ ap (target_byte s) e in omega (arith, place_lt i a y h e))

  -- before action a of block i the chart has named as many blocks as the exploration had found
  next_in_lem : (i : ℕ) → i < length (blocks s) → next_unnamed (chart_of s) i ≡ length (explore (sheet_system s) (same_class s) s.actions s.start i)
      → (a : ℕ) → a ≤ s.actions
      → next_in (chart_of s) i (next_unnamed (chart_of s) i) a ≡ length (seen (sheet_system s) (same_class s) s.actions s.start i a)
  unfolding next_in blocks sheet_system target_byte grown
  next_in_lem i h e zero b = e ∙ sym (ap length (seen_zero (sheet_system s) (same_class s) s.actions s.start (Covered s) (sheet_explorable s W) i))
  next_in_lem i h e (suc a) b =
      ap (λ (m : ℕ). next_after m (target_of (chart_of s) i a)) (next_in_lem i h e a (omega arith))
      ∙ ap (next_after (length (seen (sheet_system s) (same_class s) s.actions s.start i a))) (chart_of_target s i a h b)
      ∙ one (step s a (block_at s i)) refl
      ∙ sym (seen_next (sheet_system s) (same_class s) s.actions s.start (Covered s) (sheet_explorable s W) 255 i a (omega arith) h)
    where
      n : ℕ
      n = length (seen (sheet_system s) (same_class s) s.actions s.start i a)

      one : (o : Option Configuration) → step s a (block_at s i) ≡ o → next_after n (target_byte s o) ≡ grown n (option_map (place (same_class s) (blocks s)) o)
      one None q = next_barred n
      one (Some y) q =
          next_named n (place (same_class s) (blocks s) y) (omega (arith, place_lt i a y h q))
          (step_named (sheet_system s) (same_class s) s.actions s.start (Covered s) (sheet_explorable s W) 255 i a y (omega arith) h q)

  row_last : (i : ℕ) → i < length (blocks s)
      → seen (sheet_system s) (same_class s) s.actions s.start i s.actions ≡ explore (sheet_system s) (same_class s) s.actions s.start (suc i)
  unfolding blocks
  row_last i h = seen_last (sheet_system s) (same_class s) s.actions s.start (Covered s) (sheet_explorable s W) 255 i (omega arith) h

  next_unnamed_lem : (i : ℕ) → i ≤ length (blocks s) → next_unnamed (chart_of s) i ≡ length (explore (sheet_system s) (same_class s) s.actions s.start i)
  unfolding next_unnamed explore
  next_unnamed_lem zero h = refl
  next_unnamed_lem (suc i) h =
      ap (next_in (chart_of s) i (next_unnamed (chart_of s) i)) (chart_of_actions s)
      ∙ next_in_lem i h (next_unnamed_lem i (omega arith)) s.actions (omega arith)
      ∙ ap length (row_last i h)

  chart_order : (i a : ℕ) → i < length (blocks s) → a < s.actions
      → (target_of (chart_of s) i a ≡ 255) ⊎ (target_of (chart_of s) i a ≤ next_in (chart_of s) i (next_unnamed (chart_of s) i) a)
  unfolding blocks sheet_system target_byte
  chart_order i a h b = go (step s a (block_at s i)) refl
    where
      go : (o : Option Configuration) → step s a (block_at s i) ≡ o
          → (target_of (chart_of s) i a ≡ 255) ⊎ (target_of (chart_of s) i a ≤ next_in (chart_of s) i (next_unnamed (chart_of s) i) a)
      go None e = inl ((target_barred i a h b).1 e)
      go (Some y) e =
          let q = chart_of_target s i a h b ∙ ap (target_byte s) e in
          let p = step_named (sheet_system s) (same_class s) s.actions s.start (Covered s) (sheet_explorable s W) 255 i a y (omega arith) h e in
          inr (omega (arith, next_in_lem i h (next_unnamed_lem i (omega arith)) a (omega arith)))

  chart_before : (i : ℕ) → i < length (blocks s) → i < next_unnamed (chart_of s) i
  unfolding blocks
  chart_before i h =
      omega (
        arith,
        next_unnamed_lem i (omega arith),
        present (sheet_system s) (same_class s) s.actions s.start (Covered s) (sheet_explorable s W) 255 i (omega arith) h,
      )

  -- blocks of one label have the same actions barred
  bars : (i j a : ℕ) → i < length (blocks s) → j < length (blocks s) → a < s.actions → label_of (chart_of s) i ≡ label_of (chart_of s) j
      → target_of (chart_of s) i a ≡ 255 → target_of (chart_of s) j a ≡ 255
  bars i j a hi hj b e t =
      let R = blocks_representatives s W in
      let l = sym (chart_of_label s W i hi) ∙ e ∙ chart_of_label s W j hj in
      let n = (label_number s W (block_at s i) (block_at s j) (R.covered i hi) (R.covered j hj)).0 l in
      (target_barred j a hj b).1 (barred_alike s a (block_at s i) (block_at s j) (region_eq s (block_at s i) (block_at s j) n) ((target_barred i a hi b).0 t))

  -- The chart of a well-formed sheet with at most 255 blocks obeys the chart rules.
  pub chart_rules : ChartRules (chart_of s)
  unfolding chart_of sheet_system
  chart_rules =
      record {
        mark = chart_of_mark s;
        actions_some = W.actions_some;
        actions_few = W.actions_few;
        blocks_some = (blocks_representatives s W).nonempty;
        blocks_few = few;
        length_right = chart_of_length s;
        labels_right = λ i h. subst (λ (l : ℕ). l < 65535) (sym (chart_of_label s W i h)) (sheet_plain s W (block_at s i));
        targets_right = chart_targets;
        named_in_order = chart_order;
        named_before = λ i p h. chart_before i h;
        bars_alike = λ i j a h b l e. (bars i j a (omega arith) b l e, bars j i a b (omega arith) l (sym e));
        told_apart =
            λ i j h b.
            (told_alike (chart_of s) few chart_targets i j (omega arith) b).1
            (λ r. (blocks_representatives s W).apart i j h b (λ w. block_alike i (omega arith) w ∙ r w ∙ sym (block_alike j b w)));
      }

  -- The sheet's start is equivalent to block 0 of the chart:
  pub chart_alike : Alike (sheet_system s) (chart_system (chart_of s)) s.start 0
  chart_alike =
      let R = blocks_representatives s W in
      subst (λ (x : Configuration). Alike (sheet_system s) (chart_system (chart_of s)) x 0) R.first (block_alike 0 R.nonempty)

  -- what is read on the chart is what is read on the sheet.
  pub chart_reading_lem : (w : List ℕ) → chart_reading (chart_of s) w ≡ sheet_reading s w
  unfolding chart_reading sheet_reading
  chart_reading_lem w = sym (chart_alike w)
