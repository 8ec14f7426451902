-- Laws of the searches over the numbers below a bound.
use Rattle.std.specs.Prelude.{ℕ, zero, suc, ◌+◌, ◌≤◌, ◌<◌, ◌≡◌, refl, ◌↔◌, ◌⊎◌, Bool, true, false, not, ◌||◌, ◌&&◌, T, eqb}
use Rattle.std.proofs.Common.{not-suc-le-zero, le_of_suc-le-suc, eq-or-lt_of_le, arith, add-one, sym, ap, subst, ◌∙◌, inl, inr, ⊎_elim, eqb→eq, eq-eqb}
use Rattle.std.proofs.Math.Decide.{dec_le}
use Rattle.std.proofs.Math.Logic.{Equivalence}
use Rattle.systems.specs.Search.{run, any, all, count, least}
use Rattle.systems.specs.Laws.{Least, EquivalenceBelow}

-- a test passes or fails
pub told : (b : Bool) → (b ≡ true) ⊎ (b ≡ false)
told true = inl refl
told false = inr refl

-- a test that passes is true, and back
pub is_true : (b : Bool) → T b → b ≡ true
is_true true t = refl
is_true false t = absurd t

pub true_is : (b : Bool) → b ≡ true → T b
true_is b e = subst T (sym e) tt

pub not_true : (b : Bool) → b ≡ false → T b → ⊥
not_true b e t = subst T e t

pub is_false : (b : Bool) → (T b → ⊥) → b ≡ false
is_false true h = absurd (h tt)
is_false false h = refl

-- two tests that imply one another are one
pub same_test : (a b : Bool) → T a ↔ T b → a ≡ b
same_test true true e = refl
same_test true false e = absurd (e.0 tt)
same_test false true e = absurd (e.1 tt)
same_test false false e = refl

pub or_cases : (a b : Bool) → T (a || b) → T a ⊎ T b
or_cases true b t = inl tt
or_cases false b t = inr t

pub or_left : (a b : Bool) → T a → T (a || b)
or_left true b t = tt
or_left false b t = absurd t

pub or_right : (a b : Bool) → T b → T (a || b)
or_right true b t = tt
or_right false b t = t

-- a conjunction is a pair
pub both : (a b : Bool) → T (a && b) ↔ (T a × T b)
both true b = (λ t. (tt, t), λ t. t.1)
both false b = (λ t. absurd t, λ t. t.0)

-- a negation is a refutation
pub not_tells : (b : Bool) → T (not b) ↔ (T b → ⊥)
not_tells true = (λ t u. t, λ f. f tt)
not_tells false = (λ t u. u, λ f. tt)

-- a number below n + 1 is n or below n
pub below_suc : {i n : ℕ} → i < suc n → (i ≡ n) ⊎ (i < n)
below_suc h = eq-or-lt_of_le (le_of_suc-le-suc h)

-- what holds of all numbers below i, and of i
pub below_next : {P : ℕ → Type 0} (i : ℕ) → ((k : ℕ) → k < i → P k) → P i → (k : ℕ) → k < i + 1 → P k
below_next {P} i f p k h = ⊎_elim (λ e. subst P (sym e) p) (λ l. f k l) (below_suc (rw add-one at h))

any_out : (p : ℕ → Bool) (n : ℕ) → T (any p n) → (i : ℕ) × (i < n) × T (p i)
unfolding run
any_out p zero t = absurd t
any_out p (suc n) t = ⊎_elim (λ l. let (i, h, q) = any_out p n l in (i, omega arith, q)) (λ r. (n, omega arith, r)) (or_cases (any p n) (p n) t)

any_in : (p : ℕ → Bool) (n i : ℕ) → i < n → T (p i) → T (any p n)
unfolding run
any_in p zero i h t = absurd (not-suc-le-zero h)
any_in p (suc n) i h t =
    ⊎_elim (λ e. or_right (any p n) (p n) (subst (λ (k : ℕ). T (p k)) e t)) (λ l. or_left (any p n) (p n) (any_in p n i l t)) (below_suc h)

-- a search among the numbers below n succeeds exactly where one of them passes
pub any_true : (p : ℕ → Bool) (n : ℕ) → T (any p n) ↔ ((i : ℕ) × (i < n) × T (p i))
any_true p n = (any_out p n, λ f. any_in p n f.0 f.1 f.2)

all_out : (p : ℕ → Bool) (n : ℕ) → T (all p n) → (i : ℕ) → i < n → T (p i)
unfolding run
all_out p zero t i h = absurd (not-suc-le-zero h)
all_out p (suc n) t i h =
    let (l, r) = (both (all p n) (p n)).0 t in
    ⊎_elim (λ e. subst (λ (k : ℕ). T (p k)) (sym e) r) (λ b. all_out p n l i b) (below_suc h)

all_in : (p : ℕ → Bool) (n : ℕ) → ((i : ℕ) → i < n → T (p i)) → T (all p n)
unfolding run
all_in p zero f = tt
all_in p (suc n) f = (both (all p n) (p n)).1 (all_in p n (λ i h. f i (omega arith)), f n (omega arith))

-- a condition on the numbers below n holds exactly where it holds of each
pub all_true : (p : ℕ → Bool) (n : ℕ) → T (all p n) ↔ ((i : ℕ) → i < n → T (p i))
all_true p n = (all_out p n, all_in p n)

-- tests that agree below n have the same search and the same condition
pub run_ext : {A : Type 0} (z : A) (op : A → A → A) (f g : ℕ → A) (n : ℕ) → ((i : ℕ) → i < n → f i ≡ g i) → run z op f n ≡ run z op g n
unfolding run
run_ext z op f g zero e = refl
run_ext z op f g (suc n) e =
    let r = run_ext z op f g n (λ i h. e i (omega arith)) in
    let l = e n (omega arith) in
    cc

-- tests that agree below n have the same count
pub count_ext : (p q : ℕ → Bool) (n : ℕ) → ((i : ℕ) → i < n → p i ≡ q i) → count p n ≡ count q n
unfolding count
count_ext p q n e =
    run_ext 0 ◌+◌ (λ i. elim (p i) [ true ↦ 1 | false ↦ 0 ]) (λ i. elim (q i) [ true ↦ 1 | false ↦ 0 ]) n
    (λ i h. ap (λ (b : Bool). elim b [ true ↦ 1 | false ↦ 0 ]) (e i h))

count_passed : (p : ℕ → Bool) (n : ℕ) → p n ≡ true → count p (suc n) ≡ suc (count p n)
unfolding count run
count_passed p n e = rw e (omega arith)

count_failed : (p : ℕ → Bool) (n : ℕ) → p n ≡ false → count p (suc n) ≡ count p n
unfolding count run
count_failed p n e = rw e (omega arith)

-- the count of a test that all numbers below k pass, and none from k on
pub count_is : (p : ℕ → Bool) (n k : ℕ) → k ≤ n → ((i : ℕ) → i < k → T (p i)) → ((i : ℕ) → k ≤ i → i < n → T (p i) → ⊥) → count p n ≡ k
unfolding count run
count_is p zero k h f g = omega arith
count_is p (suc n) k h f g =
    ⊎_elim
    (λ e.
    let q = count_is p n n (omega arith) (λ i l. f i (omega arith)) (λ i a b t. omega arith) in
    count_passed p n (is_true (p n) (f n (omega arith))) ∙ ap suc q ∙ sym e)
    (λ l.
    let b : k ≤ n = le_of_suc-le-suc l in
    count_failed p n (is_false (p n) (g n b (omega arith))) ∙ count_is p n k b f (λ i a m t. g i a (omega arith) t))
    (eq-or-lt_of_le h)

-- the count of a test that some number below n passes is not 0
pub count_some : (p : ℕ → Bool) (n i : ℕ) → i < n → T (p i) → 0 < count p n
count_some p zero i h t = absurd (not-suc-le-zero h)
count_some p (suc n) i h t =
    ⊎_elim
    (λ e. omega (arith, count_passed p n (is_true (p n) (subst (λ (k : ℕ). T (p k)) e t))))
    (λ l. let r = count_some p n i l t in ⊎_elim (λ d. omega (arith, count_passed p n d)) (λ d. omega (arith, count_failed p n d)) (told (p n)))
    (below_suc h)

-- a number that passes one of two tests and not the other, which agree elsewhere, makes one count greater by one
pub count_less : (p q : ℕ → Bool) (n i : ℕ) → i < n → p i ≡ true → q i ≡ false → ((k : ℕ) → k < n → (k ≡ i → ⊥) → p k ≡ q k) → count p n ≡ suc (count q n)
count_less p q zero i h a b e = absurd (not-suc-le-zero h)
count_less p q (suc n) i h a b e =
    ⊎_elim
    (λ z.
    let x = count_passed p n (ap p (sym z) ∙ a) in
    let y = count_failed q n (ap q (sym z) ∙ b) in
    omega (arith, count_ext p q n (λ k l. e k (omega arith) (λ d. omega arith))))
    (λ l.
    let r = count_less p q n i l a b (λ k m d. e k (omega arith) d) in
    let z = e n (omega arith) (λ d. omega arith) in
    ⊎_elim
    (λ d. omega (arith, count_passed q n d, count_passed p n (z ∙ d)))
    (λ d. omega (arith, count_failed q n d, count_failed p n (z ∙ d)))
    (told (q n)))
    (below_suc h)

pub least_here : (p : ℕ → Bool) (n : ℕ) → p zero ≡ true → least p (suc n) ≡ zero
unfolding least
least_here p n e = rw (e, least)

pub least_later : (p : ℕ → Bool) (n : ℕ) → p zero ≡ false → least p (suc n) ≡ suc (least (λ i. p (suc i)) n)
unfolding least
least_later p n e = rw (e, least)

-- the least is determined: what is at most n, passes where it is below n, and has nothing below it that passes
pub least_is : (p : ℕ → Bool) (n k : ℕ) → k ≤ n → (k < n → T (p k)) → ((i : ℕ) → i < k → T (p i) → ⊥) → least p n ≡ k
unfolding least
least_is p zero k h t b = omega arith
least_is p (suc n) zero h t b = least_here p n (is_true (p zero) (t (omega arith)))
least_is p (suc n) (suc k) h t b =
    least_later p n (is_false (p zero) (b zero (omega arith)))
    ∙ ap suc (least_is (λ i. p (suc i)) n k (le_of_suc-le-suc h) (λ l. t (omega arith)) (λ i l. b (suc i) (omega arith)))

pub least_least : (p : ℕ → Bool) (n : ℕ) → Least p n (least p n)
unfolding least
least_least p zero = record { le = omega arith; passes = λ h. absurd (not-suc-le-zero h); first = λ i h t. not-suc-le-zero h }
least_least p (suc n) = ⊎_elim here (later (least_least (λ i. p (suc i)) n)) (told (p zero))
  where
    here : p zero ≡ true → Least p (suc n) (least p (suc n))
    here e = subst (Least p (suc n)) (sym (least_here p n e)) (record { le = omega arith; passes = λ h. true_is (p zero) e; first = λ i h t. not-suc-le-zero h })

    first : (m : ℕ) → p zero ≡ false → Least (λ i. p (suc i)) n m → (i : ℕ) → i < suc m → T (p i) → ⊥
    first m e r zero h t = not_true (p zero) e t
    first m e r (suc i) h t = r.first i (le_of_suc-le-suc h) t

    later : Least (λ i. p (suc i)) n (least (λ i. p (suc i)) n) → p zero ≡ false → Least p (suc n) (least p (suc n))
    later r e =
        subst
        (Least p (suc n))
        (sym (least_later p n e))
        (record { le = omega arith; passes = λ h. r.passes (le_of_suc-le-suc h); first = first (least (λ i. p (suc i)) n) e r })

-- a search that something below n passes ends below n
pub least_lt : (p : ℕ → Bool) (n i : ℕ) → i < n → T (p i) → least p n < n
least_lt p n i h t = ⊎_elim (λ e. absurd ((least_least p n).first i (omega arith) t)) (λ l. l) (eq-or-lt_of_le (least_least p n).le)

-- and at what passes at the latest
pub least_le : (p : ℕ → Bool) (n i : ℕ) → T (p i) → least p n ≤ i
least_le p n i t = go (dec_le (least p n) i)
  where
    go : Dec (least p n ≤ i) → least p n ≤ i
    go (yes h) = h
    go (no h) = absurd ((least_least p n).first i (omega arith) t)

-- tests that agree below n have the same least
pub least_ext : (p q : ℕ → Bool) (n : ℕ) → ((i : ℕ) → i < n → T (p i) ↔ T (q i)) → least p n ≡ least q n
least_ext p q n e =
    let r = least_least q n in
    let b = r.le in
    least_is p n (least q n) b (λ h. (e (least q n) h).1 (r.passes h)) (λ i h t. r.first i h ((e i (omega arith)).0 t))

-- the least number equivalent to i is the same as that for j exactly where i and j are equivalent
pub least_equivalent : (q : ℕ → ℕ → Bool) (n : ℕ) → EquivalenceBelow n q → (i j : ℕ) → i < n → j < n → (least (q i) n ≡ least (q j) n) ↔ T (q i j)
least_equivalent q n E i j hi hj = (
  λ e.
      let k = least (q i) n in
      let h : least (q i) n < n = least_lt (q i) n i hi (E.reflexive i hi) in
      let a = (least_least (q i) n).passes h in
      let h' : least (q j) n < n = omega arith in
      let b : T (q j (least (q i) n)) = subst (λ (m : ℕ). T (q j m)) (sym e) ((least_least (q j) n).passes h') in
      E.transitive i (least (q i) n) j hi h hj a (E.symmetric j (least (q i) n) hj h b),
  λ t. least_ext (q i) (q j) n (λ k h. (λ u. E.transitive j i k hj hi h (E.symmetric i j hi hj t) u, λ u. E.transitive i j k hi hj h t u)),
)

-- Where a Bool test tells an equivalence of the numbers below n, so does the least number that passes with i.
pub least_tells : (q : ℕ → ℕ → Bool) (n : ℕ) (R : ℕ → ℕ → Type 0) → Equivalence R → ((i j : ℕ) → i < n → j < n → T (q i j) ↔ R i j)
    → (i j : ℕ) → i < n → j < n → (least (q i) n ≡ least (q j) n) ↔ R i j
least_tells q n R E t i j hi hj =
    let e =
    least_equivalent q n
    (record {
      reflexive = λ i h. (t i i h h).1 (E.refl i);
      symmetric = λ i j h g p. (t j i g h).1 (E.symm i j ((t i j h g).0 p));
      transitive = λ i j k h g l p r. (t i k h l).1 (E.trans i j k ((t i j h g).0 p) ((t j k g l).0 r));
    })
    i j hi hj in
    (λ p. (t i j hi hj).0 (e.0 p), λ r. e.1 ((t i j hi hj).1 r))

-- the least that passes with j is no later than j, and is its own least
pub least_own : (q : ℕ → ℕ → Bool) (n : ℕ) (R : ℕ → ℕ → Type 0) → Equivalence R → ((i j : ℕ) → i < n → j < n → T (q i j) ↔ R i j)
    → (j : ℕ) → j < n → (least (q j) n ≤ j) × (least (q (least (q j) n)) n ≡ least (q j) n)
least_own q n R E t j h =
    let r = (t j j h h).1 (E.refl j) in
    let b = least_lt (q j) n j h r in
    (least_le (q j) n j r, sym ((least_tells q n R E t j (least (q j) n) h b).1 ((t j (least (q j) n) h b).0 ((least_least (q j) n).passes b))))

-- a test for equal numbers
pub eqb_tells : (a b : ℕ) → T (eqb a b) ↔ (a ≡ b)
eqb_tells a b = (eqb→eq a b, λ e. true_is (eqb a b) (eq-eqb a b e))
