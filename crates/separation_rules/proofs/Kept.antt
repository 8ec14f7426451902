-- Actions that two systems lack part nothing: a sequence without them parts what the sequence parts, and is no later.
use Rattle.std.specs.Prelude.{◌≡◌, refl, ◌⊎◌, List, [], ◌∷◌, ℕ, ◌≤◌, ◌<◌, length, Option, None}
use Rattle.std.proofs.Common.{sym, ap, subst, ◌∙◌, inl, inr, arith}
use Rattle.std.proofs.Math.Decide.{dec_lt}
use Rattle.systems.specs.System.{System, after, entry, written, Below, below_nil, below_cons}
use Rattle.systems.specs.Words.{Sooner, shorter}
use Rattle.systems.proofs.Dictionary.{sooner_trans}
use Rattle.separation_rules.specs.Kept.{Kept, kept_nil, kept_action, left_out}

pub kept_some : (n : ℕ) (w : List ℕ) → (v : List ℕ) × Kept n v w
kept_some n [] = ([], kept_nil)
kept_some n (a ∷ w) = go (dec_lt a n) (kept_some n w)
  where
    go : Dec (a < n) → (v : List ℕ) × Kept n v w → (v : List ℕ) × Kept n v (a ∷ w)
    go (yes h) (v, K) = (a ∷ v, kept_action h K)
    go (no h) (v, K) = (v, left_out {a = a} (omega arith) K)

pub kept_below : {n : ℕ} {v w : List ℕ} → Kept n v w → Below n v
kept_below kept_nil = below_nil
kept_below (kept_action h K) = below_cons h (kept_below K)
kept_below (left_out h K) = kept_below K

-- it is the sequence itself, or shorter
kept_length : {n : ℕ} {v w : List ℕ} → Kept n v w → (v ≡ w) ⊎ (length v < length w)
kept_length kept_nil = inl refl
kept_length (kept_action {a = a} {v = v} {w = w} h K) = go (kept_length K)
  where
    go : (v ≡ w) ⊎ (length v < length w) → (◌≡◌ {A = List ℕ} (a ∷ v) (a ∷ w)) ⊎ (length (a ∷ v) < length (a ∷ w))
    go (inl e) = inl (ap (λ (l : List ℕ). a ∷ l) e)
    go (inr l) = inr (omega arith)
kept_length (left_out {a = a} {v = v} {w = w} h K) = go (kept_length K)
  where
    go : (v ≡ w) ⊎ (length v < length w) → (v ≡ a ∷ w) ⊎ (length v < length (a ∷ w))
    go (inl e) = inr (omega (arith, ap length e))
    go (inr l) = inr (omega arith)

pub kept_sooner : {n : ℕ} {v w u : List ℕ} → Kept n v w → Sooner w u → Sooner v u
kept_sooner {n} {v} {w} {u} K r = go (kept_length K)
  where
    go : (v ≡ w) ⊎ (length v < length w) → Sooner v u
    go (inl e) = subst (λ (l : List ℕ). Sooner l u) (sym e) r
    go (inr l) = sooner_trans (shorter {v = v} {w = w} l) r

-- a barred action writes the same on both systems, and stays
skipped : {X Y : Type 0} (s : System X) (t : System Y) (w : List ℕ) (x : X) (y : Y) → written s w x ≡ written t w y
    → ◌≡◌ {A = List ℕ} (entry s None ∷ written s w (after x None)) (entry t None ∷ written t w (after y None))
unfolding entry after
skipped s t w x y q = ap (λ (l : List ℕ). 65535 ∷ l) q

-- Where the sequence without them writes the same on both systems, so does the sequence.
pub kept_written : {X Y : Type 0} (s : System X) (t : System Y) (n : ℕ) → ((a : ℕ) → n ≤ a → (x : X) → s.step a x ≡ None) → ((a : ℕ) → n ≤ a → (y : Y) → t.step a y ≡ None)
    → {v w : List ℕ} → Kept n v w → (x : X) (y : Y) → written s v x ≡ written t v y → written s w x ≡ written t w y
unfolding written
kept_written s t n f g kept_nil x y e = refl
kept_written s t n f g (kept_action {a = a} {v = v} {w = w} h K) x y e =
    let p : entry s (s.step a x) ≡ entry t (t.step a y) = cc in
    let q = kept_written s t n f g K (after x (s.step a x)) (after y (t.step a y)) (cc) in
    (λ i. p i ∷ q i)
kept_written {X} {Y} s t n f g (left_out {a = a} {v = v} {w = w} h K) x y e =
    ap (λ (o : Option X). entry s o ∷ written s w (after x o)) (f a h x)
    ∙ skipped s t w x y (kept_written s t n f g K x y e)
    ∙ sym (ap (λ (o : Option Y). entry t o ∷ written t w (after y o)) (g a h y))
