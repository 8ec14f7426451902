-- A chart that obeys the chart rules, whoever made it, numbers its blocks as first named: the next unnamed number counts what has been named. The laws of that
-- number first.
use Rattle.std.specs.Prelude.{◌≡◌, ◌⊎◌, List, Some}
use Rattle.std.proofs.Math.Path.{subst}
use Rattle.std.proofs.Common.{inl, inr, le_refl, eq-eqb, ne_eqb}
use Rattle.std.proofs.Math.Logic.{⊎_elim}
use Prim.Native.Nat.{ℕ, zero, suc, ◌≤◌, ◌<◌}
use Rattle.std.proofs.Math.Decide.{dec_lt, le_ind, ℕ_discrete}
use native.Mathlib.Omega.{arith}
use Rattle.exploration.specs.FirstWords.{Earlier, NumberedAsNamed}
use Rattle.model.specs.Chart.{actions_of, blocks_of, target_of, chart_step, chart_system, next_after, next_in, next_unnamed, ChartRules}
use Rattle.model.proofs.Rounds.{step_target, target_step, chart_closed}

-- the next unnamed number after a target: what it was, or one more where the target is that number
pub next_after_lem : (m t : ℕ) → (next_after m t ≡ m) ⊎ ((next_after m t ≡ suc m) × (t ≡ m) × (t ≡ 255 → ⊥))
unfolding next_after
next_after_lem m t = go (ℕ_discrete t 255) (ℕ_discrete t m)
  where
    go : Dec (t ≡ 255) → Dec (t ≡ m) → (next_after m t ≡ m) ⊎ ((next_after m t ≡ suc m) × (t ≡ m) × (t ≡ 255 → ⊥))
    go (yes e) o = inl (rw (eq-eqb t 255 e, next_after))
    go (no n) (yes e) = inr (rw (ne_eqb t 255 n, eq-eqb t m e, next_after), e, n)
    go (no n) (no o) = inl (rw (ne_eqb t 255 n, ne_eqb t m o, next_after))

-- it never falls,
after_le : (m t : ℕ) → m ≤ next_after m t
after_le m t = ⊎_elim (λ e. omega arith) (λ p. omega (arith, p.0)) (next_after_lem m t)

-- and is past a block that was named in order
after_named : (m t : ℕ) → t ≤ m → t < 255 → t < next_after m t
unfolding next_after
after_named m t h l = go (ℕ_discrete t m)
  where
    go : Dec (t ≡ m) → t < next_after m t
    go (yes e) = rw (ne_eqb t 255 (omega arith), eq-eqb t m e, next_after) (omega arith)
    go (no n) = omega (arith, after_le m t)

-- nor does it fall within a record, or from record to record
in_le : (c : List ℕ) (i m a b : ℕ) → a ≤ b → next_in c i m a ≤ next_in c i m b
unfolding next_in
in_le c i m a b h =
    le_ind (λ n. next_in c i m a ≤ next_in c i m n) (le_refl (next_in c i m a)) (λ n l p. omega (arith, after_le (next_in c i m n) (target_of c i n))) b h

unnamed_le : (c : List ℕ) (i j : ℕ) → i ≤ j → next_unnamed c i ≤ next_unnamed c j
unfolding next_unnamed next_in
unnamed_le c i j h =
    le_ind (λ n. next_unnamed c i ≤ next_unnamed c n) (le_refl (next_unnamed c i)) (λ n l p. omega (arith, in_le c n (next_unnamed c n) 0 (actions_of c) (omega arith))) j h

-- A number that was unnamed before record i, and is not after its first a targets, is one of them, and was the next unnamed one there;
named_in : (c : List ℕ) (i k a : ℕ) → next_unnamed c i ≤ k → k < next_in c i (next_unnamed c i) a
    → (b : ℕ) × (b < a) × (target_of c i b ≡ k) × (next_in c i (next_unnamed c i) b ≡ k)
unfolding next_in
named_in c i k zero l h = absurd (omega arith)
named_in c i k (suc a) l h =
    let m = next_in c i (next_unnamed c i) a in
    go (λ u. named_in c i k a l u) (dec_lt k m) (next_after_lem m (target_of c i a))
  where
    go : (k < next_in c i (next_unnamed c i) a → (b : ℕ) × (b < a) × (target_of c i b ≡ k) × (next_in c i (next_unnamed c i) b ≡ k))
        → Dec (k < next_in c i (next_unnamed c i) a)
        → (next_after (next_in c i (next_unnamed c i) a) (target_of c i a) ≡ next_in c i (next_unnamed c i) a)
        ⊎ ((next_after (next_in c i (next_unnamed c i) a) (target_of c i a) ≡ suc (next_in c i (next_unnamed c i) a))
        × (target_of c i a ≡ next_in c i (next_unnamed c i) a)
        × (target_of c i a ≡ 255 → ⊥))
        → (b : ℕ) × (b < suc a) × (target_of c i b ≡ k) × (next_in c i (next_unnamed c i) b ≡ k)
    go again (yes u) o = let (b, v, p, q) = again u in (b, omega arith, p, q)
    go again (no u) (inl e) = absurd (omega arith)
    go again (no u) (inr (e, p, n)) = (a, omega arith, omega arith, omega arith)

-- and one that is named after i records was so by one of them.
named_of : (c : List ℕ) (k i : ℕ) → 1 ≤ k → k < next_unnamed c i → (j : ℕ) × (j < i) × (next_unnamed c j ≤ k) × (k < next_unnamed c (suc j))
unfolding next_unnamed
named_of c k zero l h = absurd (omega arith)
named_of c k (suc i) l h = go (λ u. named_of c k i l u) (dec_lt k (next_unnamed c i))
  where
    go : (k < next_unnamed c i → (j : ℕ) × (j < i) × (next_unnamed c j ≤ k) × (k < next_unnamed c (suc j))) → Dec (k < next_unnamed c i)
        → (j : ℕ) × (j < suc i) × (next_unnamed c j ≤ k) × (k < next_unnamed c (suc j))
    go again (yes u) = let (j, v, p, q) = again u in (j, omega arith, p, q)
    go again (no u) = (i, omega arith, omega arith, h)

module _ (c : List ℕ) (R : ChartRules c) where
  -- a block's record comes after its name
  pub name_first : (i : ℕ) → i < blocks_of c → i < next_unnamed c i
  unfolding next_unnamed
  name_first zero h = omega arith
  name_first (suc i) h = R.named_before (suc i) (omega arith) h

  -- what a target names is counted from the next target on
  target_counted : (i a k : ℕ) → i < blocks_of c → chart_step c a i ≡ Some k → (a < actions_of c) × (k < next_in c i (next_unnamed c i) (suc a))
  unfolding next_in
  target_counted i a k h q =
      let (l, e) = step_target c a i k q in
      let m = next_in c i (next_unnamed c i) a in
      let b = R.blocks_few in
      let g = chart_closed c b R.targets_right a i k h q in
      let o : target_of c i a ≤ m = ⊎_elim (λ u. omega arith) (λ u. u) (R.named_in_order i a h l) in
      (l, omega (arith, after_named m (target_of c i a) o (omega arith)))

  -- The blocks of a chart that obeys the chart rules are numbered as first named.
  pub rules_numbered : NumberedAsNamed (chart_system c) (blocks_of c)
  unfolding chart_system next_in next_unnamed
  rules_numbered =
      record {
        named = λ i a. next_in c i (next_unnamed c i) a;
        counted = counted;
        origin = origin;
        closed = chart_closed c R.blocks_few R.targets_right;
      }
    where
      counted : (i a j b k : ℕ) → Earlier i a j b → j < blocks_of c → chart_step c a i ≡ Some k → k < next_in c j (next_unnamed c j) b
      counted i a j b k (inl o) h q =
          let (l, g) = target_counted i a k (omega arith) q in
          omega (
            arith,
            in_le c i (next_unnamed c i) (suc a) (actions_of c) l,
            unnamed_le c (suc i) j o,
            in_le c j (next_unnamed c j) 0 b (omega arith),
          )
      counted i a j b k (inr (e, o)) h q =
          let (l, g) = target_counted i a k (omega arith) q in
          subst (λ (z : ℕ). k < next_in c z (next_unnamed c z) b) e (omega (arith, in_le c i (next_unnamed c i) (suc a) b o))

      origin : (k : ℕ) → 0 < k → k < blocks_of c → (i : ℕ) × (a : ℕ) × (i < k) × (chart_step c a i ≡ Some k) × (next_in c i (next_unnamed c i) a ≡ k)
      origin k p h =
          let (i, b, u, v) = named_of c k k p (name_first k h) in
          let (a, l, e, q) = named_in c i k (actions_of c) u v in
          (i, a, b, target_step c a i k l e (omega (arith, R.blocks_few)), q)
