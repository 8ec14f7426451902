-- The pigeonhole principle for numbers below a bound.
use Rattle.std.specs.Prelude.{ℕ, zero, suc, ◌+◌, ◌*◌, ◌/◌, ◌%◌, ◌≤◌, ◌<◌, ◌≡◌, refl, Bool, true, false, eqb}
use Rattle.std.proofs.Common.{not-suc-le-zero, arith, sym, ap, ◌∙◌, ⊎_elim}
use Rattle.std.proofs.Math.Decide.{ℕ_discrete, dec_lt}
use Rattle.std.proofs.Math.Arith.{digits_lt, digits_div, digits_mod}
use Rattle.systems.specs.Search.{any}
use Rattle.systems.proofs.Laws.{told, true_is, not_true, any_true, eqb_tells}
use Rattle.exploration.specs.Pigeonhole.{InjectiveBelow}

-- f, with v in place of m
unfoldable redirected : (ℕ → ℕ) → ℕ → ℕ → ℕ → ℕ
redirected f m v i = elim (ℕ_discrete (f i) m) [ yes e ↦ v | no e ↦ f i ]

redirected_yes : (f : ℕ → ℕ) (m v i : ℕ) → f i ≡ m → redirected f m v i ≡ v
unfolding redirected
redirected_yes f m v i e = go (ℕ_discrete (f i) m)
  where
    go : (d : Dec (f i ≡ m)) → elim d [ yes e ↦ v | no e ↦ f i ] ≡ v
    go (yes q) = refl
    go (no q) = absurd (q e)

redirected_no : (f : ℕ → ℕ) (m v i : ℕ) → (f i ≡ m → ⊥) → redirected f m v i ≡ f i
unfolding redirected
redirected_no f m v i e = go (ℕ_discrete (f i) m)
  where
    go : (d : Dec (f i ≡ m)) → elim d [ yes e ↦ v | no e ↦ f i ] ≡ f i
    go (yes q) = absurd (e q)
    go (no q) = refl

-- n numbers below m, no two the same: n is at most m
pub pigeonhole : (n m : ℕ) (f : ℕ → ℕ) → ((i : ℕ) → i < n → f i < m) → InjectiveBelow n f → n ≤ m
pigeonhole zero m f h g = omega arith
pigeonhole (suc n) zero f h g = absurd (not-suc-le-zero (h 0 (omega arith)))
pigeonhole (suc n) (suc m) f h g =
    let r = pigeonhole n m (redirected f m (f n)) small injective in
    omega arith
  where
    -- the last value is m only if no other is
    last : (i : ℕ) → i < n → f i ≡ m → f n < m
    last i b e = go (ℕ_discrete (f n) m)
      where
        go : Dec (f n ≡ m) → f n < m
        go (yes q) = let z = g i n (omega arith) (omega arith) (e ∙ sym q) in absurd (omega arith)
        go (no q) = let z = h n (omega arith) in omega arith

    small : (i : ℕ) → i < n → redirected f m (f n) i < m
    small i b = go (ℕ_discrete (f i) m)
      where
        go : Dec (f i ≡ m) → redirected f m (f n) i < m
        go (yes q) = let z = last i b q in omega (arith, redirected_yes f m (f n) i q)
        go (no q) = let z = h i (omega arith) in omega (arith, redirected_no f m (f n) i q)

    injective : InjectiveBelow n (redirected f m (f n))
    injective i j b c e = go (ℕ_discrete (f i) m) (ℕ_discrete (f j) m)
      where
        go : Dec (f i ≡ m) → Dec (f j ≡ m) → i ≡ j
        go (yes p) (yes q) = g i j (omega arith) (omega arith) (p ∙ sym q)
        go (yes p) (no q) =
            let z = g j n (omega arith) (omega arith) (sym (redirected_no f m (f n) j q) ∙ sym e ∙ redirected_yes f m (f n) i p) in
            absurd (omega arith)
        go (no p) (yes q) =
            let z = g i n (omega arith) (omega arith) (sym (redirected_no f m (f n) i p) ∙ e ∙ redirected_yes f m (f n) j q) in
            absurd (omega arith)
        go (no p) (no q) = g i j (omega arith) (omega arith) (sym (redirected_no f m (f n) i p) ∙ e ∙ redirected_no f m (f n) j q)

-- some number before j is sent to the same
unfoldable seen : (ℕ → ℕ) → ℕ → Bool
seen f j = any (λ i. eqb (f i) (f j)) j

-- more than m numbers below m: two of them are the same
pub repeated : (n m : ℕ) (f : ℕ → ℕ) → ((i : ℕ) → i < n → f i < m) → m < n → (i : ℕ) × (j : ℕ) × (i < j) × (j < n) × (f i ≡ f j)
unfolding seen
repeated n m f h l = ⊎_elim found missed (told (any (seen f) n))
  where
    found : any (seen f) n ≡ true → (i : ℕ) × (j : ℕ) × (i < j) × (j < n) × (f i ≡ f j)
    found e =
        let (j, b, t) = (any_true (seen f) n).0 (true_is (any (seen f) n) e) in
        let (i, c, u) = (any_true (λ i. eqb (f i) (f j)) j).0 t in
        (i, j, c, b, (eqb_tells (f i) (f j)).0 u)

    apart : any (seen f) n ≡ false → (i j : ℕ) → i < j → j < n → f i ≡ f j → ⊥
    apart e i j b c q =
        not_true (any (seen f) n) e ((any_true (seen f) n).1 (j, c, (any_true (λ i. eqb (f i) (f j)) j).1 (i, b, (eqb_tells (f i) (f j)).1 q)))

    injective : any (seen f) n ≡ false → InjectiveBelow n f
    injective e i j b c q = go (dec_lt i j) (dec_lt j i)
      where
        go : Dec (i < j) → Dec (j < i) → i ≡ j
        go (yes k) d = absurd (apart e i j k c q)
        go (no k) (yes d) = absurd (apart e j i d b (sym q))
        go (no k) (no d) = omega arith

    missed : any (seen f) n ≡ false → (i : ℕ) × (j : ℕ) × (i < j) × (j < n) × (f i ≡ f j)
    missed e = let z = pigeonhole n m f h (injective e) in absurd (omega arith)

pub paired_below : {n k a b : ℕ} → a < n → b < k → a * k + b < n * k
paired_below h g = digits_lt h g

pub paired_injective : {k : ℕ} (a b a' b' : ℕ) → b < k → b' < k → a * k + b ≡ a' * k + b' → (a ≡ a') × (b ≡ b')
paired_injective {k} a b a' b' h g e = (
  sym (digits_div a h) ∙ ap (λ (z : ℕ). z / k) e ∙ digits_div a' g,
  sym (digits_mod a h) ∙ ap (λ (z : ℕ). z % k) e ∙ digits_mod a' g,
)

-- a number for each i below n, as one function
pub choose : (P : ℕ → ℕ → Type 0) (n : ℕ) → ((i : ℕ) → i < n → (k : ℕ) × P i k) → (f : ℕ → ℕ) × ((i : ℕ) → i < n → P i (f i))
choose P n h = (λ i. pick i (dec_lt i n), λ i b. fits i (dec_lt i n) b)
  where
    pick : (i : ℕ) → Dec (i < n) → ℕ
    pick i (yes b) = (h i b).0
    pick i (no b) = 0

    fits : (i : ℕ) (d : Dec (i < n)) → i < n → P i (pick i d)
    fits i (yes c) b = (h i c).1
    fits i (no c) b = absurd (c b)
