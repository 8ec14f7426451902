-- Numbering: a breadth-first walk over the row numbers and stored targets of a sound and stable table goes in lock step with the exploration of the
-- system itself. Knows nothing of boxes.
use Rattle.std.specs.Prelude.{ℕ, zero, suc, ◌≤◌, ◌<◌, ◌≡◌, refl, Bool, List, T, get_or, option_map}
use Rattle.std.proofs.Common.{arith, sym, subst, ◌∙◌, lt-ltb, le-ltb, eqb→eq}
use Rattle.std.proofs.Math.Path.{ap}
use Rattle.std.proofs.Math.Dec.{eqb, eqb_refl}
use Rattle.std.proofs.Math.ListN.{length}
use Rattle.systems.specs.System.{Alike}
use Rattle.exploration.specs.Exploration.{place, explore}
use Rattle.systems.proofs.Laws.{same_test}
use Rattle.systems.specs.Alike.{Both, both_barred, both_open}
use Rattle.systems.proofs.Alike.{alike_refl, alike_label}
use Rattle.exploration.proofs.Places.{prefix_length}
use Rattle.exploration.specs.Explored.{Explorable, Many}
use Rattle.exploration.proofs.Explored.{explore_representatives, explore_prefix, one_index, refused}
use Rattle.exploration.specs.LockStep.{All2, LockStep}
use Rattle.exploration.proofs.LockStep.{all2_length, all2_at, lock_explore, lock_step_place}
use Rattle.exploration.proofs.Pigeonhole.{pigeonhole}
use Rattle.model.specs.Chart.{block_named}
use Rattle.model.proofs.Rounds.{named_block, named_barred}
use Rattle.refinement.specs.Table.{Frame, Framed, Sound, StableAt, stable_barred, stable_open, Stable}
use Rattle.refinement.proofs.Table.{row_barred, row_alike, alike_row, sound_many}
use Rattle.refinement.specs.Numbering.{target_system, walk, InRow}

pub target_step : (t : ℕ → ℕ → ℕ) (actions a i : ℕ) → a < actions → (target_system t actions).step a i ≡ block_named (t i a)
unfolding target_system
target_step t actions a i h = rw (lt-ltb a actions h, target_system)

-- Two numbers are equivalent only where they are equal, so the system can be explored by equality.
pub target_explorable : (t : ℕ → ℕ → ℕ) (actions : ℕ) → Explorable (target_system t actions) eqb actions 0 (λ i. Unit {0})
unfolding target_system
target_explorable t actions =
    record {
      starts = tt;
      closed = λ a i j c e. tt;
      tells =
          λ i j c d. (
            λ u. subst (Alike (target_system t actions) (target_system t actions) i) (eqb→eq i j u) (alike_refl (target_system t actions) i),
            λ r. subst (λ (k : ℕ). T (eqb i k)) (alike_label (target_system t actions) (target_system t actions) i j r) (eqb_refl i),
          );
      bounded = λ a h i. rw (le-ltb a actions h, target_system);
    }

module _ {X Row : Type 0} (F : Frame X Row) (E : Framed F) (same : X → X → Bool) (G : Explorable F.system same F.actions F.start F.Covered)
    {n : ℕ} {row : ℕ → Row} {t : ℕ → ℕ → ℕ} (few : n ≤ 255) (S : Sound F n row) (B : Stable F n row t) where
  -- steps lead from a row into the row of its target, and two configurations pass the test exactly where their rows have one number
  pub rows_lock : LockStep F.system (target_system t F.actions) same eqb F.actions (InRow F n row)
  rows_lock =
      record {
        tests = tests;
        steps =
            λ x i (h, u) a b.
            subst (Both (InRow F n row) (F.system.step a x)) (sym (target_step t F.actions a i b)) (next x i h u a (t i a) (B i a h b));
      }
    where
      tests : (x x' : X) (i i' : ℕ) → InRow F n row x i → InRow F n row x' i' → same x x' ≡ eqb i i'
      tests x x' i i' (h, u) (h', u') =
          let c = (S.rows i h).covered x u in
          let c' = (S.rows i' h').covered x' u' in
          let g = G.tells x x' c c' in
          same_test (same x x') (eqb i i') (
            λ p. subst (λ (k : ℕ). T (eqb i k)) (alike_row F E S B i i' h h' x x' u u' (g.0 p)) (eqb_refl i),
            λ p. g.1 (row_alike F E S B i h x x' u (subst (λ (k : ℕ). T (F.has (row k) x')) (sym (eqb→eq i i' p)) u')),
          )

      next : (x : X) (i : ℕ) → i < n → T (F.has (row i) x) → (a m : ℕ) → StableAt F n row (row i) a m → Both (InRow F n row) (F.system.step a x) (block_named m)
      next x i h u a m (stable_barred p q) = rw (row_barred F E (row i) a x (S.rows i h) u p, named_barred m q) both_barred
      next x i h u a m (stable_open l f) = let L = f x u in rw (L.leads, named_block m (omega arith)) (both_open (l, L.inside))

  start_in : InRow F n row F.start 0
  start_in = (S.nonempty, subst (λ (z : X). T (F.has (row 0) z)) S.first (S.rows 0 S.nonempty).holds)

  -- Numbering: member k of the exploration lies in row k of the walk.
  pub numbering : (m : ℕ) → All2 (InRow F n row) (explore F.system same F.actions F.start m) (walk t F.actions m)
  unfolding walk
  numbering m = lock_explore F.system (target_system t F.actions) same eqb F.actions (InRow F n row) rows_lock F.start 0 start_in m

  -- so they are equally long,
  pub numbering_length : (m : ℕ) → length (explore F.system same F.actions F.start m) ≡ length (walk t F.actions m)
  numbering_length m = all2_length (numbering m)

  pub numbering_at : (m k : ℕ) → k < length (walk t F.actions m)
      → InRow F n row (get_or (explore F.system same F.actions F.start m) k F.start) (get_or (walk t F.actions m) k 0)
  numbering_at m k h = let e = numbering_length m in all2_at (numbering m) F.start 0 k (omega arith)

  -- and an action of member k is barred, or leads to the place that the stored target has in the walk.
  pub numbering_place : (m k a : ℕ) → k < length (walk t F.actions m) → a < F.actions
      → option_map (place same (explore F.system same F.actions F.start m)) (F.system.step a (get_or (explore F.system same F.actions F.start m) k F.start))
      ≡ option_map (place eqb (walk t F.actions m)) (block_named (t (get_or (walk t F.actions m) k 0) a))
  unfolding walk
  numbering_place m k a h b =
      let e : length (explore F.system same F.actions F.start m) ≡ length (explore (target_system t F.actions) eqb F.actions 0 m) = numbering_length m in
      lock_step_place F.system (target_system t F.actions) same eqb F.actions (InRow F n row) rows_lock F.start 0 start_in m k a (omega arith) b
      ∙ ap (option_map (place eqb (walk t F.actions m))) (target_step t F.actions a (get_or (walk t F.actions m) k 0) b)

  -- The exploration has at most as many members as the table has rows,
  pub rows_bound : (m : ℕ) → length (explore F.system same F.actions F.start m) ≤ n
  rows_bound m =
      pigeonhole (length l) n (λ k. get_or w k 0) (λ k h. (at k h).0)
      (λ i j hi hj e.
      one_index F.system same F.actions F.start F.Covered G l (explore_representatives F.system same F.actions F.start F.Covered G m) i j hi hj
      (row_alike F E S B (get_or w i 0) (at i hi).0 (get_or l i F.start) (get_or l j F.start) (at i hi).1
      (subst (λ (k : ℕ). T (F.has (row k) (get_or l j F.start))) (sym e) (at j hj).1)))
    where
      l : List X
      l = explore F.system same F.actions F.start m

      w : List ℕ
      w = walk t F.actions m

      at : (k : ℕ) → k < length l → InRow F n row (get_or l k F.start) (get_or w k 0)
      at k h = all2_at (numbering m) F.start 0 k h

  -- and once it has gone far enough, just as many: all rows are walked to.
  pub rows_all : (m : ℕ) → n ≤ suc m → length (explore F.system same F.actions F.start m) ≡ n
  rows_all m h = go n refl
    where
      go : (p : ℕ) → n ≡ p → length (explore F.system same F.actions F.start m) ≡ n
      go zero e = let z = S.nonempty in absurd (omega arith)
      go (suc p) e =
          let M = subst (Many F.system F.start) e (sound_many F E S) in
          let b = (refused F.system same F.actions F.start F.Covered G p).1 M in
          let c = prefix_length (explore_prefix F.system same F.actions F.start F.Covered G p m (omega arith)) in
          let d = rows_bound m in
          omega arith

  pub walk_length : (m : ℕ) → n ≤ suc m → length (walk t F.actions m) ≡ n
  walk_length m h = sym (numbering_length m) ∙ rows_all m h

  pub walk_bound : (m : ℕ) → length (walk t F.actions m) ≤ n
  walk_bound m = let e = numbering_length m in let b = rows_bound m in omega arith
