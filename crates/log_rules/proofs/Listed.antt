-- The list of all numbers that pass a test begins with the least of them.
use Rattle.std.specs.Prelude.{◌≡◌, Bool, true, false, List, [], ◌∷◌, ◌++◌, ℕ, zero, suc, T, get_or}
use Rattle.std.proofs.Common.{sym, subst, ⊎_elim, not-suc-le-zero, arith}
use Rattle.systems.specs.Search.{least}
use Rattle.systems.specs.Lists.{collect}
use Rattle.systems.proofs.Laws.{told, true_is, not_true, below_suc, least_is}
use Rattle.log_rules.specs.Compare.{listed}
use Rattle.log_rules.specs.Listed.{Begun}

-- one more number goes behind what is listed if it passes, and changes nothing if not
begun_more : (p : ℕ → Bool) (n : ℕ) (l : List ℕ) → Begun p n l → p n ≡ true → Begun p (suc n) (l ++ n ∷ [])
unfolding Begun
begun_more p n [] h e = (omega arith, (true_is (p n) e, h))
begun_more p n (x ∷ l) h e = (let b = h.0 in omega arith, h.1)

begun_same : (p : ℕ → Bool) (n : ℕ) (l : List ℕ) → Begun p n l → p n ≡ false → Begun p (suc n) (l ++ [])
unfolding Begun
begun_same p n [] h e = λ i b t. ⊎_elim (λ q. not_true (p n) e (subst (λ (k : ℕ). T (p k)) q t)) (λ l. h i l t) (below_suc b)
begun_same p n (x ∷ l) h e = (let b = h.0 in omega arith, h.1)

pub listed_begun : (p : ℕ → Bool) (n : ℕ) → Begun p n (listed p n)
unfolding Begun listed collect
listed_begun p zero = λ i h t. not-suc-le-zero h
listed_begun p (suc n) =
    let h = listed_begun p n in
    ⊎_elim (λ e. rw e (begun_more p n (listed p n) h e)) (λ e. rw e (begun_same p n (listed p n) h e)) (told (p n))

-- listing all and taking the first gives what a search gives that stops there
pub listed_least : (p : ℕ → Bool) (n : ℕ) → get_or (listed p n) 0 n ≡ least p n
unfolding Begun
listed_least p n = go (listed p n) (listed_begun p n)
  where
    go : (l : List ℕ) → Begun p n l → get_or l 0 n ≡ least p n
    go [] h = sym (least_is p n n (omega arith) (λ b. absurd (omega arith)) h)
    go (x ∷ l) h = let b = h.0 in sym (least_is p n x (omega arith) (λ b. h.1.0) h.1.1)
