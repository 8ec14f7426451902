-- Rounds of refinement on a chart: what they tell after each round, when they settle, and sequences that tell blocks apart.
use Rattle.std.specs.Prelude.{◌≡◌, ◌↔◌, ◌⊎◌, Bool, false, not, ◌&&◌, Option, Some, None}
use Rattle.std.proofs.Math.Path.{refl}
use Rattle.std.proofs.Common.{sym, ap, subst, ◌∙◌, not-suc-le-zero, arith, lt-ltb, le-ltb, eq-eqb, ne_eqb}
use Rattle.std.proofs.Math.Logic.{inl, inr, ⊎_elim}
use mathlib.Core.List.{List, [], ◌∷◌}
use Prim.Native.Nat.{ℕ, zero, suc, ◌+◌, ◌≤◌, ◌<◌}
use Rattle.std.proofs.Math.Decide.{dec_lt, le_ind, ℕ_discrete}
use Rattle.std.proofs.Math.Dec.{T, eqb}
use Rattle.systems.specs.Search.{any, all, count}
use Rattle.systems.specs.System.{Alike, below_nil, below_cons}
use Rattle.systems.proofs.Laws.{not_tells, both, any_true, all_true, same_test, below_suc, count_ext, least_tells, least_own, eqb_tells}
use Rattle.systems.specs.Alike.{Both, both_barred, both_open, AlikeTo}
use Rattle.systems.proofs.Alike.{reading_parts, barred_differs, open_next, alike_to_zero, alike_to_suc, alike_to_le, alike_depths, alike_to_equivalence}
use Rattle.exploration.specs.Counting.{numbers, Finer, classes}
use Rattle.exploration.proofs.Counting.{numbers_length, numbers_mem, classes_finer}
use Rattle.exploration.specs.Moore.{Chain, changes, changed, Tested}
use Rattle.exploration.proofs.Moore.{changed_differs, changes_le, settled_from, depths_chain, alike_length}
use Rattle.model.specs.Chart.{actions_of, blocks_of, label_of, target_of, block_named, chart_step, chart_system, ToldApart, same_target, refines, round_class}
use Rattle.model.specs.ChartDepth.{same_round, parts, label_count, ApartIn}
use Rattle.model.specs.Rounds.{TargetsRight, Tells, Quiet, Parted}

-- the block that a target names
pub named_barred : (t : ℕ) → t ≡ 255 → block_named t ≡ None
unfolding block_named
named_barred t e = rw (eq-eqb t 255 e, block_named)

named_open : (t : ℕ) → (t ≡ 255 → ⊥) → block_named t ≡ Some t
unfolding block_named
named_open t n = rw (ne_eqb t 255 n, block_named)

pub named_block : (t : ℕ) → t < 255 → block_named t ≡ Some t
named_block t h = named_open t (λ e. omega arith)

-- the chart's step, for its actions and past them
pub chart_step_in : (c : List ℕ) (a i : ℕ) → a < actions_of c → chart_step c a i ≡ block_named (target_of c i a)
unfolding chart_step
chart_step_in c a i h = rw (lt-ltb a (actions_of c) h, chart_step)

pub chart_step_out : (c : List ℕ) (a i : ℕ) → actions_of c ≤ a → chart_step c a i ≡ None
unfolding chart_step
chart_step_out c a i h = rw (le-ltb a (actions_of c) h, chart_step)

-- a step to a block is the byte of the target, and back
pub step_target : (c : List ℕ) (a i k : ℕ) → chart_step c a i ≡ Some k → (a < actions_of c) × (target_of c i a ≡ k)
step_target c a i k e = go (dec_lt a (actions_of c))
  where
    named : (t : ℕ) → block_named t ≡ Some k → Dec (t ≡ 255) → t ≡ k
    named t q (yes b) = let p = named_barred t b in let z : ◌≡◌ {A = ℕ} 0 1 = cc in absurd (omega arith)
    named t q (no b) = let p = named_open t b in cc

    go : Dec (a < actions_of c) → (a < actions_of c) × (target_of c i a ≡ k)
    go (yes h) = (h, named (target_of c i a) (sym (chart_step_in c a i h) ∙ e) (ℕ_discrete (target_of c i a) 255))
    go (no h) = let q = chart_step_out c a i (omega arith) in let z : ◌≡◌ {A = ℕ} 0 1 = cc in absurd (omega arith)

pub target_step : (c : List ℕ) (a i k : ℕ) → a < actions_of c → target_of c i a ≡ k → k < 255 → chart_step c a i ≡ Some k
target_step c a i k h e l = chart_step_in c a i h ∙ ap block_named e ∙ named_block k l

-- the test of two targets, by what they are
same_open : (f : ℕ → ℕ) (t u : ℕ) → t < 255 → u < 255 → same_target f t u ≡ eqb (f t) (f u)
unfolding same_target
same_open f t u h g = rw (ne_eqb t 255 (omega arith), ne_eqb u 255 (omega arith), same_target)

same_left : (f : ℕ → ℕ) (t u : ℕ) → t < 255 → u ≡ 255 → same_target f t u ≡ false
unfolding same_target
same_left f t u h g = rw (ne_eqb t 255 (omega arith), eq-eqb u 255 g, same_target)

same_barred : (f : ℕ → ℕ) (t u : ℕ) → t ≡ 255 → same_target f t u ≡ eqb u 255
unfolding same_target
same_barred f t u h = rw (eq-eqb t 255 h, same_target)

open_barred : {X Y : Type 0} {R : X → Y → Type 0} {x : X} → Both R (Some x) None → ⊥
open_barred b = elim b [ ]

barred_open : {X Y : Type 0} {R : X → Y → Type 0} {y : Y} → Both R None (Some y) → ⊥
barred_open b = elim b [ ]

-- where f tells R for the numbers below n, the test of two targets tells it for what they name
target_tells : (f : ℕ → ℕ) (n : ℕ) (R : ℕ → ℕ → Type 0) → n ≤ 255 → ((i j : ℕ) → i < n → j < n → (f i ≡ f j) ↔ R i j)
    → (t u : ℕ) → (t < n) ⊎ (t ≡ 255) → (u < n) ⊎ (u ≡ 255) → T (same_target f t u) ↔ Both R (block_named t) (block_named u)
target_tells f n R few e t u (inl h) (inl g) =
    rw (same_open f t u (omega arith) (omega arith), named_block t (omega arith), named_block u (omega arith))
    (λ p. both_open ((e t u h g).0 ((eqb_tells (f t) (f u)).0 p)), λ b. (eqb_tells (f t) (f u)).1 ((e t u h g).1 (opened b)))
  where
    opened : Both R (Some t) (Some u) → R t u
    opened (both_open r) = r
target_tells f n R few e t u (inl h) (inr g) =
    rw (same_left f t u (omega arith) g, named_block t (omega arith), named_barred u g) (λ p. absurd p, open_barred)
target_tells f n R few e t u (inr h) (inl g) =
    rw (same_barred f t u h ∙ ne_eqb u 255 (omega arith), named_barred t h, named_block u (omega arith)) (λ p. absurd p, barred_open)
target_tells f n R few e t u (inr h) (inr g) =
    rw (same_barred f t u h ∙ eq-eqb u 255 g, named_barred t h, named_barred u g) (λ p. both_barred, λ b. tt)

-- the test for it
pub parts_tells : (c : List ℕ) (k : ℕ) → T (parts c k) ↔ Parted c k
unfolding parts
parts_tells c k = (to, from)
  where
    row : ℕ → ℕ → Bool
    row i j = same_round c k i j && not (same_round c (suc k) i j)

    to : T (any (λ i. any (row i) (blocks_of c)) (blocks_of c)) → Parted c k
    to t =
        let (i, hi, u) = (any_true (λ i. any (row i) (blocks_of c)) (blocks_of c)).0 t in
        let (j, hj, v) = (any_true (row i) (blocks_of c)).0 u in
        let (p, q) = (both (same_round c k i j) (not (same_round c (suc k) i j))).0 v in
        record {
          one = i;
          other = j;
          one_block = hi;
          other_block = hj;
          together = (eqb_tells (round_class c k i) (round_class c k j)).0 p;
          apart = λ e. (not_tells (same_round c (suc k) i j)).0 q ((eqb_tells (round_class c (suc k) i) (round_class c (suc k) j)).1 e);
        }

    from : Parted c k → T (any (λ i. any (row i) (blocks_of c)) (blocks_of c))
    from p =
        (any_true (λ i. any (row i) (blocks_of c)) (blocks_of c)).1 (
          p.one,
          p.one_block,
          (any_true (row p.one) (blocks_of c)).1 (
            p.other,
            p.other_block,
            (both (same_round c k p.one p.other) (not (same_round c (suc k) p.one p.other))).1 (
              (eqb_tells (round_class c k p.one) (round_class c k p.other)).1 p.together,
              (not_tells (same_round c (suc k) p.one p.other)).1
                  (λ t. p.apart ((eqb_tells (round_class c (suc k) p.one) (round_class c (suc k) p.other)).0 t)),
            ),
          ),
        )

-- a round that parts two blocks is not quiet
pub parted_loud : (c : List ℕ) (k : ℕ) → Parted c k → Quiet c k → ⊥
parted_loud c k p q = p.apart (q p.one p.other p.one_block p.other_block p.together)

-- each number below n has one property, or something else holds
each_or : (P : ℕ → Type 0) (Q : Type 0) (n : ℕ) → ((a : ℕ) → a < n → P a ⊎ Q) → ((a : ℕ) → a < n → P a) ⊎ Q
each_or P Q zero f = inl (λ a h. absurd (not-suc-le-zero h))
each_or P Q (suc n) f = go (each_or P Q n (λ a h. f a (omega arith))) (f n (omega arith))
  where
    go : ((a : ℕ) → a < n → P a) ⊎ Q → P n ⊎ Q → ((a : ℕ) → a < suc n → P a) ⊎ Q
    go (inl g) (inl p) = inl (λ a h. ⊎_elim (λ e. subst P (sym e) p) (λ b. g a b) (below_suc h))
    go (inl g) (inr q) = inr q
    go (inr q) r = inr q

-- a round is quiet, or parts two blocks
pub quiet_or : (c : List ℕ) (k : ℕ) → Quiet c k ⊎ Parted c k
quiet_or c k =
    ⊎_elim
    (λ f. inl (λ i j hi hj. f i hi j hj))
    (λ p. inr p)
    (each_or (λ i. (j : ℕ) → j < blocks_of c → round_class c k i ≡ round_class c k j → round_class c (suc k) i ≡ round_class c (suc k) j) (Parted c k) (blocks_of c)
    (λ i hi.
    each_or (λ j. round_class c k i ≡ round_class c k j → round_class c (suc k) i ≡ round_class c (suc k) j) (Parted c k) (blocks_of c)
    (λ j hj. pair i j hi hj (ℕ_discrete (round_class c k i) (round_class c k j)) (ℕ_discrete (round_class c (suc k) i) (round_class c (suc k) j)))))
  where
    pair : (i j : ℕ) → i < blocks_of c → j < blocks_of c → Dec (round_class c k i ≡ round_class c k j) → Dec (round_class c (suc k) i ≡ round_class c (suc k) j)
        → (round_class c k i ≡ round_class c k j → round_class c (suc k) i ≡ round_class c (suc k) j) ⊎ Parted c k
    pair i j hi hj (yes p) (yes q) = inl (λ e. q)
    pair i j hi hj (yes p) (no q) = inr (record { one = i; other = j; one_block = hi; other_block = hj; together = p; apart = q })
    pair i j hi hj (no p) q = inl (λ e. absurd (p e))

module _ (c : List ℕ) (few : blocks_of c ≤ 255) (right : TargetsRight c) where
  steps_tell : (k : ℕ) (f : ℕ → ℕ) → Tells c k f → (i j a : ℕ) → i < blocks_of c → j < blocks_of c → a < actions_of c
      → T (same_target f (target_of c i a) (target_of c j a)) ↔ Both (AlikeTo k (chart_system c) (chart_system c)) (chart_step c a i) (chart_step c a j)
  steps_tell k f t i j a hi hj h =
      rw (chart_step_in c a i h, chart_step_in c a j h)
      (target_tells f (blocks_of c) (AlikeTo k (chart_system c) (chart_system c)) few t (target_of c i a) (target_of c j a) (right i a hi h) (right j a hj h))

  -- a round of refinement goes one action deeper
  refines_tells : (k : ℕ) (f : ℕ → ℕ) → Tells c k f → (i j : ℕ) → i < blocks_of c → j < blocks_of c
      → T (refines c f i j) ↔ AlikeTo (suc k) (chart_system c) (chart_system c) i j
  unfolding refines chart_system
  refines_tells k f t i j hi hj = (λ p. (alike_to_equivalence (suc k) (chart_system c)).symm j i (to p), λ r. from ((alike_to_equivalence (suc k) (chart_system c)).symm i j r))
    where
      to : T (refines c f i j) → AlikeTo (suc k) (chart_system c) (chart_system c) j i
      to p =
          let (q, r) = (both (eqb (f j) (f i)) (all (λ a. same_target f (target_of c j a) (target_of c i a)) (actions_of c))).0 p in
          let d = (t j i hj hi).0 ((eqb_tells (f j) (f i)).0 q) in
          (alike_to_suc (chart_system c) (chart_system c) k j i).1
          ((alike_to_zero (chart_system c) (chart_system c) j i).0 (alike_to_le (chart_system c) (chart_system c) j i (omega arith) d), λ a. next r a (dec_lt a (actions_of c)))
        where
          next : T (all (λ a. same_target f (target_of c j a) (target_of c i a)) (actions_of c)) → (a : ℕ) → Dec (a < actions_of c)
              → Both (AlikeTo k (chart_system c) (chart_system c)) (chart_step c a j) (chart_step c a i)
          next r a (yes h) = (steps_tell k f t j i a hj hi h).0 ((all_true (λ a. same_target f (target_of c j a) (target_of c i a)) (actions_of c)).0 r a h)
          next r a (no h) = rw (chart_step_out c a j (omega arith), chart_step_out c a i (omega arith)) both_barred

      from : AlikeTo (suc k) (chart_system c) (chart_system c) j i → T (refines c f i j)
      from r =
          (both (eqb (f j) (f i)) (all (λ a. same_target f (target_of c j a) (target_of c i a)) (actions_of c))).1 (
            (eqb_tells (f j) (f i)).1 ((t j i hj hi).1 (alike_to_le (chart_system c) (chart_system c) j i (omega arith) r)),
            (all_true (λ a. same_target f (target_of c j a) (target_of c i a)) (actions_of c)).1
                (λ a h. (steps_tell k f t j i a hj hi h).1 (((alike_to_suc (chart_system c) (chart_system c) k j i).0 r).1 a)),
          )

  -- labels tell as much as no action does
  labels_tell : (i j : ℕ) → i < blocks_of c → j < blocks_of c → T (eqb (label_of c j) (label_of c i)) ↔ AlikeTo zero (chart_system c) (chart_system c) i j
  unfolding chart_system
  labels_tell i j hi hj = (
    λ p. (alike_to_zero (chart_system c) (chart_system c) i j).1 (sym ((eqb_tells (label_of c j) (label_of c i)).0 p)),
    λ r. (eqb_tells (label_of c j) (label_of c i)).1 (sym ((alike_to_zero (chart_system c) (chart_system c) i j).0 r)),
  )

  -- After k rounds two blocks are in one class exactly where no sequence of at most k actions tells them apart.
  pub round_tells : (k : ℕ) → Tells c k (round_class c k)
  unfolding round_class
  round_tells zero =
      least_tells (λ i j. eqb (label_of c j) (label_of c i)) (blocks_of c) (AlikeTo zero (chart_system c) (chart_system c)) (alike_to_equivalence zero (chart_system c))
      labels_tell
  round_tells (suc k) =
      least_tells (refines c (round_class c k)) (blocks_of c) (AlikeTo (suc k) (chart_system c) (chart_system c)) (alike_to_equivalence (suc k) (chart_system c))
      (refines_tells k (round_class c k) (round_tells k))

  -- a block's class after k rounds is the number of a block in it, no later than the block
  pub class_own : (k j : ℕ) → j < blocks_of c → (round_class c k j ≤ j) × (round_class c k (round_class c k j) ≡ round_class c k j)
  unfolding round_class
  class_own zero =
      least_own (λ i j. eqb (label_of c j) (label_of c i)) (blocks_of c) (AlikeTo zero (chart_system c) (chart_system c)) (alike_to_equivalence zero (chart_system c))
      labels_tell
  class_own (suc k) =
      least_own (refines c (round_class c k)) (blocks_of c) (AlikeTo (suc k) (chart_system c) (chart_system c)) (alike_to_equivalence (suc k) (chart_system c))
      (refines_tells k (round_class c k) (round_tells k))

  -- what one more round leaves together was together
  round_finer : (k i j : ℕ) → i < blocks_of c → j < blocks_of c → round_class c (suc k) i ≡ round_class c (suc k) j → round_class c k i ≡ round_class c k j
  round_finer k i j hi hj e =
      (round_tells k i j hi hj).1 (alike_to_le (chart_system c) (chart_system c) i j (omega arith) ((round_tells (suc k) i j hi hj).0 e))

  -- the least of a class stays the least of its class
  least_stays : (k m : ℕ) → m < blocks_of c → round_class c k m ≡ m → round_class c (suc k) m ≡ m
  least_stays k m h e =
      let (l, o) = class_own (suc k) m h in
      let b : round_class c (suc k) m < blocks_of c = omega arith in
      let f = round_finer k (round_class c (suc k) m) m b h o in
      let g = (class_own k (round_class c (suc k) m) b).0 in
      omega arith

  -- a round that changes a block's class parts the block from the one whose number the class had
  pub changed_parted : (k i : ℕ) → i < blocks_of c → (round_class c (suc k) i ≡ round_class c k i → ⊥) → Parted c k
  changed_parted k i h n =
      let (l, o) = class_own k i h in
      let b : round_class c k i < blocks_of c = omega arith in
      record {
        one = i;
        other = round_class c k i;
        one_block = h;
        other_block = b;
        together = sym o;
        apart = λ e. n (e ∙ least_stays k (round_class c k i) b o);
      }

  -- a step from a block leads to a block
  pub chart_closed : (a i j : ℕ) → i < blocks_of c → chart_step c a i ≡ Some j → j < blocks_of c
  chart_closed a i j h e = go (dec_lt a (actions_of c))
    where
      target : (target_of c i a < blocks_of c) ⊎ (target_of c i a ≡ 255) → block_named (target_of c i a) ≡ Some j → j < blocks_of c
      target (inl g) n = let q = named_block (target_of c i a) (omega arith) in let e' : target_of c i a ≡ j = cc in omega arith
      target (inr g) n = let q = named_barred (target_of c i a) g in let z : ◌≡◌ {A = ℕ} 0 1 = cc in absurd (omega arith)

      go : Dec (a < actions_of c) → j < blocks_of c
      go (yes l) = target (right i a h l) (sym (chart_step_in c a i l) ∙ e)
      go (no l) = let q = chart_step_out c a i (omega arith) in let z : ◌≡◌ {A = ℕ} 0 1 = cc in absurd (omega arith)

  rounds_tested : Tested (chart_system c) (numbers (blocks_of c)) (same_round c)
  unfolding chart_system
  rounds_tested =
      record {
        closed = λ a i j m e. (numbers_mem (blocks_of c) j).1 (chart_closed a i j ((numbers_mem (blocks_of c) i).0 m) e);
        tells =
            λ k i j m n.
            let r = round_tells k i j ((numbers_mem (blocks_of c) i).0 m) ((numbers_mem (blocks_of c) j).0 n) in
            let q = eqb_tells (round_class c k i) (round_class c k j) in
            (λ t. r.0 (q.0 t), λ p. q.1 (r.1 p));
      }

  rounds_chain : Chain (numbers (blocks_of c)) (same_round c)
  rounds_chain = depths_chain (chart_system c) (numbers (blocks_of c)) (same_round c) rounds_tested

  -- After as many rounds as there are blocks, two blocks are in one class exactly where they are equivalent.
  pub rounds_alike : (i j : ℕ) → i < blocks_of c → j < blocks_of c
      → (round_class c (blocks_of c) i ≡ round_class c (blocks_of c) j) ↔ Alike (chart_system c) (chart_system c) i j
  rounds_alike i j hi hj = (
    λ e.
        alike_length (chart_system c) (numbers (blocks_of c)) (same_round c) rounds_tested i j ((numbers_mem (blocks_of c) i).1 hi) ((numbers_mem (blocks_of c) j).1 hj)
        (subst (λ (k : ℕ). AlikeTo k (chart_system c) (chart_system c) i j) (sym (numbers_length (blocks_of c))) ((round_tells (blocks_of c) i j hi hj).0 e)),
    λ r. (round_tells (blocks_of c) i j hi hj).1 ((alike_depths (chart_system c) (chart_system c) i j).0 r (blocks_of c)),
  )

  finer_quiet : (k : ℕ) → Finer (numbers (blocks_of c)) (same_round c k) (same_round c (suc k)) ↔ Quiet c k
  finer_quiet k = (
    λ f i j hi hj e.
        (eqb_tells (round_class c (suc k) i) (round_class c (suc k) j)).0
        (f i j ((numbers_mem (blocks_of c) i).1 hi) ((numbers_mem (blocks_of c) j).1 hj) ((eqb_tells (round_class c k i) (round_class c k j)).1 e)),
    λ q i j m n t.
        (eqb_tells (round_class c (suc k) i) (round_class c (suc k) j)).1
        (q i j ((numbers_mem (blocks_of c) i).0 m) ((numbers_mem (blocks_of c) j).0 n) ((eqb_tells (round_class c k i) (round_class c k j)).0 t)),
  )

  -- Once a round parts nothing, no later round does,
  pub quiet_later : (k m : ℕ) → k ≤ m → Quiet c k → Quiet c m
  quiet_later k m h q = le_ind (Quiet c) q (λ n b p. (finer_quiet (suc n)).0 (rounds_chain.settled n ((finer_quiet n).1 p))) m h

  -- and the classes are those of equivalence.
  pub quiet_alike : (k : ℕ) → Quiet c k → (i j : ℕ) → i < blocks_of c → j < blocks_of c
      → (round_class c k i ≡ round_class c k j) ↔ Alike (chart_system c) (chart_system c) i j
  quiet_alike k q i j hi hj = (
    λ e. (alike_depths (chart_system c) (chart_system c) i j).1 (λ m. go e m (dec_lt m k)),
    λ r. (round_tells k i j hi hj).1 ((alike_depths (chart_system c) (chart_system c) i j).0 r k),
  )
    where
      go : round_class c k i ≡ round_class c k j → (m : ℕ) → Dec (m < k) → AlikeTo m (chart_system c) (chart_system c) i j
      go e m (yes h) = alike_to_le (chart_system c) (chart_system c) i j (omega arith) ((round_tells k i j hi hj).0 e)
      go e m (no h) =
          (round_tells m i j hi hj).0 (le_ind (λ n. round_class c n i ≡ round_class c n j) e (λ n b p. quiet_later k n b q i j hi hj p) m (omega arith))

  -- a round is counted exactly where it parts two blocks
  pub counted_parts : (k : ℕ) → T (changed (numbers (blocks_of c)) (same_round c) k) ↔ Parted c k
  counted_parts k =
      let d = changed_differs (numbers (blocks_of c)) (same_round c) rounds_chain k in (
        λ t. ⊎_elim (λ q. absurd (d.0 t ((finer_quiet k).1 q))) (λ p. p) (quiet_or c k),
        λ p. d.1 (λ f. p.apart ((finer_quiet k).0 f p.one p.other p.one_block p.other_block p.together)),
      )

  label_classes : label_count c ≤ classes (same_round c 0) (numbers (blocks_of c))
  unfolding label_count chart_system
  label_classes =
      classes_finer (same_round c 0) (λ i j. eqb (label_of c i) (label_of c j)) (numbers (blocks_of c))
      (λ i j m n t. (eqb_tells (label_of c i) (label_of c j)).1 ((alike_to_zero (chart_system c) (chart_system c) i j).0 ((rounds_tested.tells 0 i j m n).0 t)))

  -- The rounds that part something are at most as many as there are more blocks than different labels.
  pub parting_few : (m : ℕ) → label_count c + count (parts c) m ≤ blocks_of c
  unfolding changes
  parting_few m =
      let e = count_ext (parts c) (changed (numbers (blocks_of c)) (same_round c)) m (λ k h. same_test (parts c k) (changed (numbers (blocks_of c)) (same_round c) k) (both_ways k)) in
      let h = changes_le (numbers (blocks_of c)) (same_round c) rounds_chain m in
      omega (arith, label_classes, numbers_length (blocks_of c))
    where
      both_ways : (k : ℕ) → T (parts c k) ↔ T (changed (numbers (blocks_of c)) (same_round c) k)
      both_ways k = (λ t. (counted_parts k).1 ((parts_tells c k).0 t), λ t. (parts_tells c k).1 ((counted_parts k).0 t))

  -- From that number on every round is quiet.
  pub quiet_from : (k : ℕ) → blocks_of c ≤ label_count c + k → Quiet c k
  quiet_from k h =
      (finer_quiet k).0 (settled_from (numbers (blocks_of c)) (same_round c) rounds_chain k (omega (arith, label_classes, numbers_length (blocks_of c))))

  -- one action, by what it does in both blocks
  apart_step : (k i j a : ℕ) → i < blocks_of c → j < blocks_of c → a < actions_of c
      → ((x y : ℕ) → x < blocks_of c → y < blocks_of c → AlikeTo k (chart_system c) (chart_system c) x y ⊎ ApartIn c k x y)
      → Both (AlikeTo k (chart_system c) (chart_system c)) (chart_step c a i) (chart_step c a j) ⊎ ApartIn c (suc k) i j
  unfolding chart_system
  apart_step k i j a hi hj h f = go (chart_step c a i) (chart_step c a j) refl refl
    where
      go : (o u : Option ℕ) → chart_step c a i ≡ o → chart_step c a j ≡ u
          → Both (AlikeTo k (chart_system c) (chart_system c)) (chart_step c a i) (chart_step c a j) ⊎ ApartIn c (suc k) i j
      go None None p q = inl (rw (p, q) both_barred)
      go (Some x) None p q =
          inr
          (record {
            sequence = a ∷ [];
            of_actions = below_cons h below_nil;
            short = omega arith;
            differs = λ e. barred_differs (chart_system c) (chart_system c) a [] i j x p q e;
          })
      go None (Some y) p q =
          inr
          (record {
            sequence = a ∷ [];
            of_actions = below_cons h below_nil;
            short = omega arith;
            differs = λ e. barred_differs (chart_system c) (chart_system c) a [] j i y q p (sym e);
          })
      go (Some x) (Some y) p q =
          ⊎_elim
          (λ r. inl (rw (p, q) (both_open r)))
          (λ d.
          inr
          (record {
            sequence = a ∷ d.sequence;
            of_actions = below_cons h d.of_actions;
            short = omega (arith, d.short);
            differs = λ e. d.differs (open_next (chart_system c) (chart_system c) a d.sequence i j x y p q e);
          }))
          (f x y (chart_closed a i x hi p) (chart_closed a j y hj q))

  labels_apart : (k i j : ℕ) → (label_of c i ≡ label_of c j → ⊥) → ApartIn c k i j
  unfolding chart_system
  labels_apart k i j n =
      record { sequence = []; of_actions = below_nil; short = omega arith; differs = λ e. n (reading_parts (chart_system c) (chart_system c) [] i j e).0 }

  -- Blocks agree to depth k, or a sequence of at most k actions tells them apart.
  pub apart_or : (k i j : ℕ) → i < blocks_of c → j < blocks_of c → AlikeTo k (chart_system c) (chart_system c) i j ⊎ ApartIn c k i j
  unfolding chart_system
  apart_or zero i j hi hj = go (ℕ_discrete (label_of c i) (label_of c j))
    where
      go : Dec (label_of c i ≡ label_of c j) → AlikeTo zero (chart_system c) (chart_system c) i j ⊎ ApartIn c zero i j
      go (yes e) = inl ((alike_to_zero (chart_system c) (chart_system c) i j).1 e)
      go (no n) = inr (labels_apart zero i j n)
  apart_or (suc k) i j hi hj =
      go (ℕ_discrete (label_of c i) (label_of c j))
      (each_or (λ a. Both (AlikeTo k (chart_system c) (chart_system c)) (chart_step c a i) (chart_step c a j)) (ApartIn c (suc k) i j) (actions_of c)
      (λ a h. apart_step k i j a hi hj h (λ x y hx hy. apart_or k x y hx hy)))
    where
      go : Dec (label_of c i ≡ label_of c j)
          → ((a : ℕ) → a < actions_of c → Both (AlikeTo k (chart_system c) (chart_system c)) (chart_step c a i) (chart_step c a j)) ⊎ ApartIn c (suc k) i j
          → AlikeTo (suc k) (chart_system c) (chart_system c) i j ⊎ ApartIn c (suc k) i j
      go (no n) d = inr (labels_apart (suc k) i j n)
      go (yes e) (inr d) = inr d
      go (yes e) (inl f) = inl ((alike_to_suc (chart_system c) (chart_system c) k i j).1 (e, λ a. past a (dec_lt a (actions_of c))))
        where
          past : (a : ℕ) → Dec (a < actions_of c) → Both (AlikeTo k (chart_system c) (chart_system c)) (chart_step c a i) (chart_step c a j)
          past a (yes h) = f a h
          past a (no h) = rw (chart_step_out c a i (omega arith), chart_step_out c a j (omega arith)) both_barred

  -- Round k separates two blocks exactly where a sequence of at most k of the chart's actions reads differently from them.
  pub round_apart : (k i j : ℕ) → i < blocks_of c → j < blocks_of c → (round_class c k i ≡ round_class c k j → ⊥) ↔ ApartIn c k i j
  round_apart k i j hi hj = (
    λ n. ⊎_elim (λ r. absurd (n ((round_tells k i j hi hj).1 r))) (λ d. d) (apart_or k i j hi hj),
    λ d e. d.differs ((round_tells k i j hi hj).0 e d.sequence d.short),
  )

  -- Two blocks are told apart by a sequence of the chart's actions exactly where as many rounds as there are blocks separate them,
  pub rounds_told : (i j : ℕ) → i < blocks_of c → j < blocks_of c → ToldApart c i j ↔ (round_class c (blocks_of c) i ≡ round_class c (blocks_of c) j → ⊥)
  rounds_told i j hi hj = (
    λ d e. d.differs ((rounds_alike i j hi hj).0 e d.sequence),
    λ n. let d = (round_apart (blocks_of c) i j hi hj).0 n in record { sequence = d.sequence; of_actions = d.of_actions; differs = d.differs },
  )

  -- and exactly where they are not equivalent.
  pub told_alike : (i j : ℕ) → i < blocks_of c → j < blocks_of c → ToldApart c i j ↔ (Alike (chart_system c) (chart_system c) i j → ⊥)
  told_alike i j hi hj = (λ d r. d.differs (r d.sequence), λ n. (rounds_told i j hi hj).1 (λ e. n ((rounds_alike i j hi hj).0 e)))
