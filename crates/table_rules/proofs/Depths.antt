-- Depths of rows: what the functions that read and raise them give.
use Rattle.std.specs.Prelude.{◌≡◌, refl, ◌⊎◌, List, ℕ, ◌+◌, ◌≤◌, ◌<◌, length, set, max}
use Rattle.std.proofs.Common.{sym, ap, subst, ◌∙◌, inl, inr, ⊎_elim, arith, length-set, get_or-set_same, get_or-set_other}
use Rattle.std.proofs.Math.Decide.{ℕ_discrete, dec_le}
use Rattle.table_rules.specs.Arrays.{BoundsRoom, target_in, depth_in}
use Rattle.table_rules.specs.Depths.{Within, DeepBelow, Deepened, AtLeast, Levelled, SureDepth, sure_known, sure_each}

-- one action more
pub below_more : (t d : List ℕ) (i k a m : ℕ) → DeepBelow t d i k a → m ≤ k → Within d (target_in t i a) m → DeepBelow t d i m (a + 1)
below_more t d i k a m D l u b h = go (ℕ_discrete b a)
  where
    go : Dec (b ≡ a) → Within d (target_in t i b) m
    go (yes q) = subst (λ (c : ℕ). Within d (target_in t i c) m) (sym q) u
    go (no q) = ⊎_elim (λ e. inl e) (λ v. inr (omega arith)) (D b (omega arith))

pub deepened_left : {t d : List ℕ} {actions i : ℕ} (k : ℕ) → DeepBelow t d i k actions → Deepened t d d actions i
deepened_left k D = record { reach = k; reached = D; own = inl (omega arith); others = λ j n. refl }

pub deepened_to : {t d : List ℕ} {actions i : ℕ} (k : ℕ) → BoundsRoom d → i < 255 → DeepBelow t d i k actions → Deepened t d (set d i (k + 1)) actions i
deepened_to {t} {d} {actions} {i} k room h D =
    record {
      reach = k;
      reached = D;
      own = inr (let e = get_or-set_same d i (k + 1) 0 (omega arith) in omega arith);
      others = λ j n. get_or-set_other d i j (k + 1) 0 n;
    }

pub least_more : (d : List ℕ) (k n m : ℕ) → n < 255 → AtLeast d n k → m ≤ k → Within d n m → AtLeast d (n + 1) m
least_more d k n m c A l u j h = go (ℕ_discrete j n)
  where
    go : Dec (j ≡ n) → m ≤ depth_in d j
    go (yes q) = let e = ap (depth_in d) q in ⊎_elim (λ z. absurd (omega arith)) (λ v. omega arith) u
    go (no q) = let v = A j (omega arith) in omega arith

pub least_max : {d : List ℕ} {n depth own r : ℕ} → AtLeast d n own → r ≡ max own depth → SureDepth d n depth r
least_max {d} {n} {depth} {own} {r} A e = go (dec_le own depth)
  where
    go : Dec (own ≤ depth) → SureDepth d n depth r
    go (yes l) = let z : depth ≡ r = omega arith in subst (SureDepth d n depth) z sure_known
    go (no l) = sure_each (λ j h. let a = A j h in omega arith)

pub levelled_none : (d : List ℕ) (n depth : ℕ) → Levelled d d n depth
levelled_none d n depth = record { same_length = refl; each = λ j. inl refl }

pub levelled_more : {d d' : List ℕ} {n depth : ℕ} (k v : ℕ) → k < length d → k < n → Levelled d d' n depth → (v ≡ depth_in d' k) ⊎ (v ≡ depth) → Levelled d (set d' k v) n depth
levelled_more {d} {d'} {n} {depth} k v h l L e =
    record { same_length = length-set d' k v ∙ L.same_length; each = λ j. go j (ℕ_discrete j k) }
  where
    go : (j : ℕ) → Dec (j ≡ k) → (depth_in (set d' k v) j ≡ depth_in d j) ⊎ ((j < n) × (depth_in (set d' k v) j ≡ depth))
    go j (yes q) =
        let w = ap (depth_in (set d' k v)) q ∙ get_or-set_same d' k v 0 (omega (arith, L.same_length)) in
        ⊎_elim
        (λ u. ⊎_elim (λ z. inl (w ∙ u ∙ ap (depth_in d') (sym q) ∙ z)) (λ z. inr (z.0, w ∙ u ∙ ap (depth_in d') (sym q) ∙ z.1)) (L.each j))
        (λ u. inr (omega arith, w ∙ u)) e
    go j (no q) = ⊎_elim (λ z. inl (get_or-set_other d' k j v 0 q ∙ z)) (λ z. inr (z.0, get_or-set_other d' k j v 0 q ∙ z.1)) (L.each j)
