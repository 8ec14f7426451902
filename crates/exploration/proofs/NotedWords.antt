-- Words that are noted as a tree: for each entry but entry 0 its parent, which stands before it, and an action.
use Rattle.std.specs.Prelude.{◌≡◌, refl, List, [], ◌∷◌, ◌++◌, ℕ, zero, suc, ◌+◌, ◌≤◌, ◌<◌, length, get_or}
use Rattle.std.proofs.Common.{ap, arith, length-append}
use Rattle.exploration.specs.NotedWords.{Falling, climbed, noted_word}

-- more steps change nothing
climbed_enough : (ps bs : List ℕ) (k : ℕ) → Falling ps k → (m n j : ℕ) → j ≤ k → j ≤ m → j ≤ n → climbed m ps bs j ≡ climbed n ps bs j
unfolding climbed
climbed_enough ps bs k F zero zero j l h g = refl
climbed_enough ps bs k F zero (suc n) zero l h g = refl
climbed_enough ps bs k F zero (suc n) (suc j) l h g = absurd (omega arith)
climbed_enough ps bs k F (suc m) zero zero l h g = refl
climbed_enough ps bs k F (suc m) zero (suc j) l h g = absurd (omega arith)
climbed_enough ps bs k F (suc m) (suc n) zero l h g = refl
climbed_enough ps bs k F (suc m) (suc n) (suc j) l h g =
    let f = F (suc j) (omega arith) l in
    let e = climbed_enough ps bs k F m n (get_or ps (suc j) 0) (omega arith) (omega arith) (omega arith) in
    cc

pub word_none : (ps bs : List ℕ) → noted_word ps bs 0 ≡ []
unfolding noted_word climbed
word_none ps bs = refl

pub word_more : (ps bs : List ℕ) (k j : ℕ) → Falling ps k → 0 < j → j ≤ k → noted_word ps bs j ≡ noted_word ps bs (get_or ps j 0) ++ (get_or bs j 0 ∷ [])
unfolding noted_word climbed
word_more ps bs k zero F p l = absurd (omega arith)
word_more ps bs k (suc j) F p l =
    let f = F (suc j) p l in
    let e = climbed_enough ps bs k F j (get_or ps (suc j) 0) (get_or ps (suc j) 0) (omega arith) (omega arith) (omega arith) in
    cc

-- its length, by one step
pub word_length : (ps bs : List ℕ) (k j : ℕ) → Falling ps k → 0 < j → j ≤ k → length (noted_word ps bs j) ≡ length (noted_word ps bs (get_or ps j 0)) + 1
word_length ps bs k j F p l =
    omega (arith, ap length (word_more ps bs k j F p l), length-append (noted_word ps bs (get_or ps j 0)) (get_or bs j 0 ∷ []))

-- all steps are counted once entry 0 is there
pub word_counted : (ps bs : List ℕ) (k at count : ℕ) → at ≡ 0 → count + length (noted_word ps bs at) ≡ length (noted_word ps bs k)
    → count ≡ length (noted_word ps bs k)
word_counted ps bs k at count e q =
    omega (arith, ap (λ (j : ℕ). length (noted_word ps bs j)) e, ap length (word_none ps bs))

-- entries behind k have no part in its word
pub word_same : (ps bs qs ds : List ℕ) (k : ℕ) → Falling ps k → ((j : ℕ) → j ≤ k → get_or ps j 0 ≡ get_or qs j 0)
    → ((j : ℕ) → j ≤ k → get_or bs j 0 ≡ get_or ds j 0) → noted_word ps bs k ≡ noted_word qs ds k
unfolding noted_word climbed
word_same ps bs qs ds k F P B = go k k (omega arith)
  where
    go : (m j : ℕ) → j ≤ k → climbed m ps bs j ≡ climbed m qs ds j
    go zero j l = refl
    go (suc m) zero l = refl
    go (suc m) (suc j) l =
        let f = F (suc j) (omega arith) l in
        let p = P (suc j) l in
        let b = B (suc j) l in
        let e = go m (get_or ps (suc j) 0) (omega arith) in
        cc

-- a word has no more actions than entries before its own
pub word_short : (ps bs : List ℕ) (k : ℕ) → Falling ps k → length (noted_word ps bs k) ≤ k
word_short ps bs k F = go k k (omega arith) (omega arith)
  where
    go : (m j : ℕ) → j ≤ m → j ≤ k → length (noted_word ps bs j) ≤ j
    go zero zero h l = omega (arith, ap length (word_none ps bs))
    go zero (suc j) h l = absurd (omega arith)
    go (suc m) zero h l = omega (arith, ap length (word_none ps bs))
    go (suc m) (suc j) h l =
        let f = F (suc j) (omega arith) l in
        omega (arith, go m (get_or ps (suc j) 0) (omega arith) (omega arith), word_length ps bs k (suc j) F (omega arith) l)
