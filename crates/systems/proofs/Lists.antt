-- Lists put together from a front, and their laws. Knows nothing of transition systems.
use Rattle.std.specs.Prelude.{ℕ, zero, suc, ◌+◌, ◌*◌, ◌<◌, ◌≡◌, refl, List, [], ◌∷◌, ◌++◌, length, get_or, take, drop}
use Rattle.std.proofs.Common.{not-suc-le-zero, le_of_suc-le-suc, eq-or-lt_of_le, arith, sym, ap, ◌∙◌, ⊎_elim, append_assoc, append-nil, length-append, get_or-drop, take_at, drop_at}
use Rattle.std.proofs.Math.ListN.{get_or-append}
use Rattle.systems.specs.Lists.{collect, Wide}

-- equal pieces give equal lists
pub collect_ext : {A : Type 0} (f g : ℕ → List A) (n : ℕ) → ((i : ℕ) → i < n → f i ≡ g i) → collect f n ≡ collect g n
unfolding collect
collect_ext f g zero e = refl
collect_ext f g (suc n) e =
    let r = collect_ext f g n (λ i h. e i (omega arith)) in
    let l = e n (omega arith) in
    cc

pub length_collect : {A : Type 0} (w : ℕ) (f : ℕ → List A) (n : ℕ) → Wide w f n → length (collect f n) ≡ n * w
unfolding collect
length_collect w f zero e = omega arith
length_collect w f (suc n) e =
    let r = length_collect w f n (λ i h. e i (omega arith)) in
    let l = e n (omega arith) in
    omega (arith, length-append (collect f n) (f n))

-- From where piece i begins, the list is that piece and what follows it.
pub drop_collect : {A : Type 0} (w : ℕ) (f : ℕ → List A) (n : ℕ) (rest : List A) → Wide w f n → (i : ℕ) → i < n
    → drop (i * w) (collect f n ++ rest) ≡ f i ++ drop (suc i * w) (collect f n ++ rest)
unfolding collect
drop_collect w f zero rest e i h = absurd (not-suc-le-zero h)
drop_collect {A} w f (suc n) rest e i h =
    let g : (j : ℕ) → j < n → length (f j) ≡ w = λ j b. e j (omega arith) in
    ⊎_elim last (λ b. rw (append_assoc (collect f n) (f n) rest) (drop_collect w f n (f n ++ rest) g i b)) (eq-or-lt_of_le (le_of_suc-le-suc h))
  where
    last : i ≡ n → drop (i * w) ((collect f n ++ f n) ++ rest) ≡ f i ++ drop (suc i * w) ((collect f n ++ f n) ++ rest)
    last q =
        let c = length_collect w f n (λ j b. e j (omega arith)) in
        let m = ap (λ (z : ℕ). z * w) q in
        let l = e n (omega arith) in
        let a = drop_at (collect f n) (f n ++ rest) (i * w) (omega arith) in
        let b = drop_at (collect f n ++ f n) rest (suc i * w) (omega (arith, length-append (collect f n) (f n))) in
        let z = append_assoc (collect f n) (f n) rest in
        let y : f i ≡ f n = ap f q in
        cc

-- piece i of the list
pub take_collect : {A : Type 0} (w : ℕ) (f : ℕ → List A) (n : ℕ) (rest : List A) → Wide w f n → (i : ℕ) → i < n → take w (drop (i * w) (collect f n ++ rest)) ≡ f i
take_collect w f n rest e i h = ap (take w) (drop_collect w f n rest e i h) ∙ take_at (f i) (drop (suc i * w) (collect f n ++ rest)) w (e i h)

-- element k of piece i
pub get_d_collect : {A : Type 0} (w : ℕ) (f : ℕ → List A) (n : ℕ) (rest : List A) (d : A) → Wide w f n → (i k : ℕ) → i < n → k < w
    → get_or (collect f n ++ rest) (i * w + k) d ≡ get_or (f i) k d
get_d_collect w f n rest d e i k h b =
    let l = e i h in
    sym (get_or-drop (i * w) (collect f n ++ rest) k d)
    ∙ ap (λ z. get_or z k d) (drop_collect w f n rest e i h)
    ∙ get_or-append (f i) (drop (suc i * w) (collect f n ++ rest)) d k (omega arith)

-- equal lists of pieces of one length have equal pieces
pub collect_inj : {A : Type 0} (w : ℕ) (f g : ℕ → List A) (n : ℕ) → Wide w f n → Wide w g n → collect f n ≡ collect g n → (i : ℕ) → i < n → f i ≡ g i
collect_inj w f g n e q p i h =
    let a = take_collect w f n [] e i h in
    let b = take_collect w g n [] q i h in
    cc

-- a list of one-element pieces
pub length_each : {A : Type 0} (f : ℕ → A) (n : ℕ) → length (collect (λ i. f i ∷ []) n) ≡ n
length_each f n = omega (arith, length_collect 1 (λ i. f i ∷ []) n (λ i h. refl))

pub get_d_each : {A : Type 0} (f : ℕ → A) (n : ℕ) (d : A) (i : ℕ) → i < n → get_or (collect (λ i. f i ∷ []) n) i d ≡ f i
get_d_each f n d i h =
    let e : i * 1 + 0 ≡ i = omega arith in
    let q = append-nil (collect (λ i. f i ∷ []) n) in
    let z = get_d_collect 1 (λ i. f i ∷ []) n [] d (λ j b. refl) i 0 h (omega arith) in
    ap (λ l. get_or l i d) (sym q) ∙ ap (λ (k : ℕ). get_or (collect (λ i. f i ∷ []) n ++ []) k d) (sym e) ∙ z
