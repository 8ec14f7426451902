-- Two charts that obey the chart rules, whoever made them, have equal bytes just when they behave alike. The statement first, then its proof: the records
-- of both are read abreast, so that each number stands for equivalent blocks.
use Rattle.std.specs.Prelude.{◌≡◌, refl, ◌⊎◌, List}
use Rattle.std.proofs.Common.{sym, ◌∙◌, ⊎_elim, arith}
use Rattle.std.proofs.Math.Path.{ap, subst}
use Rattle.std.proofs.Math.Logic.{inl, inr}
use Prim.Native.Nat.{ℕ, zero, suc, ◌≤◌, ◌<◌}
use Rattle.std.proofs.Math.Decide.{dec_lt}
use Rattle.integers.specs.LittleEndian.{Bytes}
use Rattle.systems.specs.System.{Alike}
use Rattle.systems.specs.Alike.{Both}
use Rattle.systems.proofs.Alike.{both_right, both_left, alike_label, alike_next, alike_below}
use Rattle.model.specs.Chart.{actions_of, blocks_of, target_of, chart_step, chart_system, chart_reading, next_after, next_in, next_unnamed, ChartRules}
use Rattle.model.specs.ChartBytes.{SameFields}
use Rattle.model.proofs.ChartBytes.{same_fields}
use Rattle.model.proofs.Rounds.{chart_step_out, step_target, target_step, chart_closed}
use Rattle.chart_equality.proofs.Numbered.{next_after_lem, name_first}
use Rattle.chart_equality.specs.SameBytes.{BytesTell}

-- block i of the one chart and block j of the other are equivalent
abbrev BlocksAlike : List ℕ → List ℕ → ℕ → ℕ → Type 0
BlocksAlike c d i j = Alike (chart_system c) (chart_system d) i j

-- No two blocks of a chart that obeys the rules are equivalent.
only_block : (c : List ℕ) → ChartRules c → (i j : ℕ) → i < blocks_of c → j < blocks_of c → BlocksAlike c c i j → i ≡ j
only_block c R i j hi hj r = go (dec_lt i j) (dec_lt j i)
  where
    apart : (i j : ℕ) → i < j → j < blocks_of c → BlocksAlike c c i j → ⊥
    apart i j b h r = let d = R.told_apart i j b h in d.differs (r d.sequence)

    go : Dec (i < j) → Dec (j < i) → i ≡ j
    go (yes b) o = absurd (apart i j b hj r)
    go (no b) (yes o) = absurd (apart j i o hi (λ w. sym (r w)))
    go (no b) (no o) = omega arith

-- The numbers below m are blocks of both charts, each equivalent to its namesake.
record Abreast (c d : List ℕ) (m : ℕ) : Type 0 where
  few : m ≤ blocks_of c
  few' : m ≤ blocks_of d
  each : (k : ℕ) → k < m → BlocksAlike c d k k

-- The targets t and u are one byte: 255, or a number of equivalent blocks.
record OneTarget (c d : List ℕ) (t u : ℕ) : Type 0 where
  same : t ≡ u
  leads : (t ≡ 255) ⊎ ((t < blocks_of c) × (t < blocks_of d) × BlocksAlike c d t t)

-- one more number, if the target is the next unnamed one
abreast_next : (c d : List ℕ) (m t u : ℕ) → Abreast c d m → OneTarget c d t u → Abreast c d (next_after m t)
abreast_next c d m t u A O = go (next_after_lem m t) O.leads
  where
    go : (next_after m t ≡ m) ⊎ ((next_after m t ≡ suc m) × (t ≡ m) × (t ≡ 255 → ⊥))
        → (t ≡ 255) ⊎ ((t < blocks_of c) × (t < blocks_of d) × BlocksAlike c d t t) → Abreast c d (next_after m t)
    go (inl e) l = subst (Abreast c d) (sym e) A
    go (inr (e, p, n)) (inl b) = absurd (n b)
    go (inr (e, p, n)) (inr (h, g, r)) = subst (Abreast c d) (sym e) (record { few = omega arith; few' = omega arith; each = λ k l. one k (dec_lt k m) l })
      where
        one : (k : ℕ) → Dec (k < m) → k < suc m → BlocksAlike c d k k
        one k (yes b) l = A.each k b
        one k (no b) l = subst (λ (z : ℕ). BlocksAlike c d z z) (omega arith) r

module _ (c d : List ℕ) (R : ChartRules c) (Q : ChartRules d) (e : actions_of c ≡ actions_of d) where
  -- An action of equivalent blocks is barred in both, or its targets are equivalent blocks.
  targets_alike : (i a : ℕ) → i < blocks_of c → i < blocks_of d → a < actions_of c → BlocksAlike c d i i
      → ((target_of c i a ≡ 255) × (target_of d i a ≡ 255))
      ⊎ ((target_of c i a < blocks_of c) × (target_of d i a < blocks_of d) × BlocksAlike c d (target_of c i a) (target_of d i a))
  unfolding chart_system
  targets_alike i a hi hj l r = go (R.targets_right i a hi l) (Q.targets_right i a hj (omega arith))
    where
      b : Both (BlocksAlike c d) (chart_step c a i) (chart_step d a i)
      b = alike_next (chart_system c) (chart_system d) i i r a

      go : (target_of c i a < blocks_of c) ⊎ (target_of c i a ≡ 255) → (target_of d i a < blocks_of d) ⊎ (target_of d i a ≡ 255)
          → ((target_of c i a ≡ 255) × (target_of d i a ≡ 255))
          ⊎ ((target_of c i a < blocks_of c) × (target_of d i a < blocks_of d) × BlocksAlike c d (target_of c i a) (target_of d i a))
      go (inr h) (inr g) = inl (h, g)
      go (inl h) g =
          let (y, q, k) = both_right (chart_step c a i) b (target_step c a i (target_of c i a) l refl (omega (arith, R.blocks_few))) in
          let p = (step_target d a i y q).1 in
          inr (
            h,
            omega (arith, chart_closed d Q.blocks_few Q.targets_right a i y hj q),
            subst (BlocksAlike c d (target_of c i a)) (sym p) k,
          )
      go (inr h) (inl g) =
          let (x, q, k) = both_left (chart_step d a i) b (target_step d a i (target_of d i a) (omega arith) refl (omega (arith, Q.blocks_few))) in
          let p = (step_target c a i x q).1 in
          absurd (omega (arith, R.blocks_few, chart_closed c R.blocks_few R.targets_right a i x hi q))

  -- Where both name blocks in order, the targets are one byte: equivalent blocks were named before, as one number, or are named now.
  one_target : (i a m : ℕ) → i < blocks_of c → i < blocks_of d → a < actions_of c → BlocksAlike c d i i → Abreast c d m
      → (target_of c i a ≡ 255) ⊎ (target_of c i a ≤ m) → (target_of d i a ≡ 255) ⊎ (target_of d i a ≤ m) → OneTarget c d (target_of c i a) (target_of d i a)
  one_target i a m hi hj l r A o o' = go (targets_alike i a hi hj l r) (dec_lt (target_of c i a) m) (dec_lt (target_of d i a) m)
    where
      x : ℕ
      x = target_of c i a

      y : ℕ
      y = target_of d i a

      led : x ≡ y → x < blocks_of c → y < blocks_of d → BlocksAlike c d x y → OneTarget c d x y
      led p h g k = record { same = p; leads = inr (h, omega arith, subst (BlocksAlike c d x) (sym p) k) }

      go : ((x ≡ 255) × (y ≡ 255)) ⊎ ((x < blocks_of c) × (y < blocks_of d) × BlocksAlike c d x y) → Dec (x < m) → Dec (y < m)
          → OneTarget c d x y
      go (inl (p, q)) u v = record { same = p ∙ sym q; leads = inl p }
      go (inr (h, g, k)) (yes u) v = led (only_block d Q x y (omega (arith, A.few')) g (λ w. sym (A.each x u w) ∙ k w)) h g k
      go (inr (h, g, k)) (no u) (yes v) = led (only_block c R x y h (omega (arith, A.few)) (λ w. k w ∙ sym (A.each y v w))) h g k
      go (inr (h, g, k)) (no u) (no v) =
          let p : x ≤ m = ⊎_elim (λ b. omega (arith, R.blocks_few)) (λ b. b) o in
          let q : y ≤ m = ⊎_elim (λ b. omega (arith, Q.blocks_few)) (λ b. b) o' in
          led (omega arith) h g k

  -- Both charts have named as much when action a of block i is looked at, and what they have named is equivalent,
  abreast_in : (i : ℕ) → i < blocks_of c → i < blocks_of d → i < next_unnamed c i → next_unnamed c i ≡ next_unnamed d i → Abreast c d (next_unnamed c i)
      → (a : ℕ) → a ≤ actions_of c
      → (next_in c i (next_unnamed c i) a ≡ next_in d i (next_unnamed d i) a) × Abreast c d (next_in c i (next_unnamed c i) a)
  unfolding next_in
  abreast_in i hi hj b q A zero l = (q, A)
  abreast_in i hi hj b q A (suc a) l =
      let (p, B) = abreast_in i hi hj b q A a (omega arith) in
      let m = next_in c i (next_unnamed c i) a in
      let o = subst (λ (n : ℕ). (target_of d i a ≡ 255) ⊎ (target_of d i a ≤ n)) (sym p) (Q.named_in_order i a hj (omega arith)) in
      let O = one_target i a m hi hj l (A.each i b) B (R.named_in_order i a hi l) o in
      (ap (next_after m) O.same ∙ ap (λ (n : ℕ). next_after n (target_of d i a)) p, abreast_next c d m (target_of c i a) (target_of d i a) B O)

  -- and after i records of both.
  abreast : BlocksAlike c d 0 0 → (i : ℕ) → i ≤ blocks_of c → i ≤ blocks_of d
      → (next_unnamed c i ≡ next_unnamed d i) × Abreast c d (next_unnamed c i)
  unfolding next_unnamed
  abreast r zero hi hj =
      (refl, record { few = R.blocks_some; few' = Q.blocks_some; each = λ k l. subst (λ (z : ℕ). BlocksAlike c d z z) (omega arith) r })
  abreast r (suc i) hi hj =
      let (q, A) = abreast r i (omega arith) (omega arith) in
      let (p, B) = abreast_in i hi hj (name_first c R i hi) q A (actions_of c) (omega arith) in
      (p ∙ ap (next_in d i (next_unnamed d i)) e, B)

  -- So both have as many blocks: the first number that one lacks would be named before its record in the other,
  blocks_same : BlocksAlike c d 0 0 → blocks_of c ≡ blocks_of d
  blocks_same r = go (dec_lt (blocks_of c) (blocks_of d)) (dec_lt (blocks_of d) (blocks_of c))
    where
      go : Dec (blocks_of c < blocks_of d) → Dec (blocks_of d < blocks_of c) → blocks_of c ≡ blocks_of d
      go (yes h) g =
          let (q, A) = abreast r (blocks_of c) (omega arith) (omega arith) in
          absurd (omega (arith, A.few, Q.named_before (blocks_of c) R.blocks_some h))
      go (no h) (yes g) =
          let (q, A) = abreast r (blocks_of d) (omega arith) (omega arith) in
          absurd (omega (arith, A.few', R.named_before (blocks_of d) Q.blocks_some g))
      go (no h) (no g) = omega arith

  -- each is equivalent to its namesake,
  blocks_alike : BlocksAlike c d 0 0 → (i : ℕ) → i < blocks_of c → BlocksAlike c d i i
  blocks_alike r i h = (abreast r i (omega arith) (omega (arith, blocks_same r))).1.each i (name_first c R i h)

  -- and the fields are the same.
  fields_alike : BlocksAlike c d 0 0 → SameFields c d
  unfolding chart_system
  fields_alike r =
      let n = blocks_same r in
      let A : Abreast c d (blocks_of c) = record { few = omega arith; few' = omega arith; each = blocks_alike r } in
      record {
        actions = e;
        blocks = n;
        labels = λ i h. alike_label (chart_system c) (chart_system d) i i (blocks_alike r i h);
        targets =
            λ i a h l.
            (one_target i a (blocks_of c) h (omega arith) l (blocks_alike r i h) A
            (⊎_elim (λ b. inr (omega arith)) (λ b. inl b) (R.targets_right i a h l))
            (⊎_elim (λ b. inr (omega arith)) (λ b. inl b) (Q.targets_right i a (omega arith) (omega arith)))
            ).same;
      }

-- Two charts that obey the chart rules, whoever made them, are equal in behaviour exactly when their bytes are equal.
pub same_bytes : (c d : List ℕ) → Bytes c → Bytes d → ChartRules c → ChartRules d → BytesTell c d
unfolding chart_reading chart_system
same_bytes c d b b' R Q = (
  λ p. (omega (arith, ap actions_of p), λ w h. ap (λ z. chart_reading z w) p),
  λ q.
      let e = q.0 in
      same_fields c d (record { mark = R.mark; length_right = R.length_right; bytes = λ i. omega (arith, b i) })
      (record { mark = Q.mark; length_right = Q.length_right; bytes = λ i. omega (arith, b' i) })
      (fields_alike c d R Q (omega arith)
      ((alike_below (chart_system c) (chart_system d) _ (λ a h x. chart_step_out c a x (omega arith)) (λ a h y. chart_step_out d a y (omega arith)) 0 0).0 q.1)),
)
