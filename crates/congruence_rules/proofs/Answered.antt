-- What is promised of every call: which numbers are refused, when "none" is said, and what the eight counts are.
use Rattle.std.specs.Prelude.{◌≡◌, refl, Bool, true, false, cond, ◌&&◌, ◌↔◌, List, [], ◌∷◌, ◌++◌, ℕ, zero, suc, ◌-◌, ◌%◌, ◌≤◌, ◌<◌, T, leb, ltb, length, get_or, take, replicate, Option, None, Some, option_map, Result, Ok, Err}
use Rattle.std.proofs.Common.{sym, ap, subst, ◌∙◌, arith, leb→le, le→leb, ltb→lt, lt→ltb, length-append, take_at}
use Rattle.std.proofs.Math.Decide.{dec_le}
use Rattle.std.proofs.lemmas.List.{length-replicate}
use Rattle.std.proofs.Math.ListN.{get_or-eq_default}
use Rattle.systems.proofs.Laws.{both, all_true, is_true, true_is}
use Rattle.systems.specs.Words.{Before}
use Rattle.congruence_rules.specs.Congruence.{between, all_below, allowed, eight, given, first_solution, go_round, counts_left, counts_after, divisor, Solution, Asked, Answers}
use Rattle.congruence_rules.specs.Greedy.{greedy}
use Rattle.congruence_rules.specs.Theorems.{IsFirst, difference}
use Rattle.congruence_rules.proofs.Theorems.{first_first, some_alike, alike_some, none_apart}
use Rattle.answer_rules.specs.declared.Reason.TheVariants.{GoRound}
use Rattle.answer_rules.specs.declared.Refusal.{Refusal}
use Rattle.answer_rules.specs.Refusal.{at}

between_limits : (low high x : ℕ) → T (between low high x) ↔ ((low ≤ x) × (x ≤ high))
between_limits low high x = (
  λ t. let (p, q) = (both (leb low x) (leb x high)).0 t in (leb→le low x p, leb→le x high q),
  λ p. (both (leb low x) (leb x high)).1 (le→leb low x p.0, le→leb x high p.1),
)

pub below_each : (m : ℕ) (xs : List ℕ) → T (all_below m xs) ↔ ((i : ℕ) → i < length xs → get_or xs i 0 < m)
unfolding all_below
below_each m xs = (
  λ t i h. ltb→lt (get_or xs i 0) m ((all_true (λ i. ltb (get_or xs i 0) m) (length xs)).0 t i h),
  λ f. (all_true (λ i. ltb (get_or xs i 0) m) (length xs)).1 (λ i h. lt→ltb (get_or xs i 0) m (f i h)),
)

-- the limits as a test and as propositions
pub allowed_asked : (m s w : ℕ) (xs : List ℕ) → T (allowed m s w xs) ↔ Asked m s w xs
unfolding allowed
allowed_asked m s w xs = (
  λ t.
      let (t₁, e) = (both (between 2 65536 m && ltb s m && ltb w m && between 1 8 (length xs)) (all_below m xs)).0 t in
      let (t₂, d) = (both (between 2 65536 m && ltb s m && ltb w m) (between 1 8 (length xs))).0 t₁ in
      let (t₃, c) = (both (between 2 65536 m && ltb s m) (ltb w m)).0 t₂ in
      let (a, b) = (both (between 2 65536 m) (ltb s m)).0 t₃ in
      record {
        modulus = (between_limits 2 65536 m).0 a;
        some_increments = (between_limits 1 8 (length xs)).0 d;
        start = ltb→lt s m b;
        wanted = ltb→lt w m c;
        increments = (below_each m xs).0 e;
      },
  λ A.
      let t₁ = (both (between 2 65536 m) (ltb s m)).1 ((between_limits 2 65536 m).1 A.modulus, lt→ltb s m A.start) in
      let t₂ = (both (between 2 65536 m && ltb s m) (ltb w m)).1 (t₁, lt→ltb w m A.wanted) in
      let t₃ = (both (between 2 65536 m && ltb s m && ltb w m) (between 1 8 (length xs))).1 (t₂, (between_limits 1 8 (length xs)).1 A.some_increments) in
      (both (between 2 65536 m && ltb s m && ltb w m && between 1 8 (length xs)) (all_below m xs)).1 (t₃, (below_each m xs).1 A.increments),
)

-- an answer by the first solution
abbrev answer : Option (List ℕ) → Result (Option (List ℕ)) Refusal
answer o = Ok (option_map eight o)

-- what is within its limits is answered, and by the first solution
pub asked_answered : {m s w : ℕ} {xs : List ℕ} → Asked m s w xs → go_round m s w xs ≡ Ok (option_map eight (first_solution m s w xs))
unfolding go_round
asked_answered {m} {s} {w} {xs} A =
    ap (λ (t : Bool). cond t (answer (first_solution m s w xs)) (Err (at GoRound 0))) (is_true (allowed m s w xs) ((allowed_asked m s w xs).1 A))

pub asked_counts : {m s w : ℕ} {xs : List ℕ} → Asked m s w xs → (before : List ℕ) → counts_left m s w xs before ≡ given (first_solution m s w xs) before
unfolding counts_left
asked_counts {m} {s} {w} {xs} A before =
    ap (λ (t : Bool). cond t (given (first_solution m s w xs) before) before) (is_true (allowed m s w xs) ((allowed_asked m s w xs).1 A))

-- everything else is refused, and the counts are left as they were
pub unasked_refused : (m s w : ℕ) (xs : List ℕ) → (Asked m s w xs → ⊥)
    → (go_round m s w xs ≡ Err (at GoRound 0)) × ((before : List ℕ) → counts_left m s w xs before ≡ before)
unfolding go_round counts_left
unasked_refused m s w xs h = go (allowed m s w xs) refl
  where
    go : (t : Bool) → allowed m s w xs ≡ t
        → (cond t (answer (first_solution m s w xs)) (Err (at GoRound 0)) ≡ Err (at GoRound 0)) × ((before : List ℕ) → cond t (given (first_solution m s w xs) before) before ≡ before)
    go true e = absurd (h ((allowed_asked m s w xs).0 (true_is (allowed m s w xs) e)))
    go false e = (refl, λ before. refl)

-- which of the three answers it is
abbrev kind : Result (Option (List ℕ)) Refusal → ℕ
kind (Ok (Some cs)) = 0
kind (Ok None) = 1
kind (Err why) = 2

-- what is not refused was within its limits
answered_asked : (m s w : ℕ) (xs : List ℕ) → kind (go_round m s w xs) < 2 → Asked m s w xs
unfolding go_round
answered_asked m s w xs h = go (allowed m s w xs) refl h
  where
    go : (t : Bool) → allowed m s w xs ≡ t → kind (cond t (answer (first_solution m s w xs)) (Err (at GoRound 0))) < 2 → Asked m s w xs
    go true e h = (allowed_asked m s w xs).0 (true_is (allowed m s w xs) e)
    go false e h = absurd (omega arith)

answer_none : (o : Option (List ℕ)) → kind (answer o) ≡ 1 → o ≡ None
answer_none None e = refl
answer_none (Some cs) e = absurd (omega arith)

-- the counts of an answer, or others
abbrev counts_of : Result (Option (List ℕ)) Refusal → List ℕ
counts_of (Ok (Some cs)) = cs
counts_of (Ok None) = []
counts_of (Err why) = []

answer_some : (o : Option (List ℕ)) (counts : List ℕ) → answer o ≡ Ok (Some counts) → (cs : List ℕ) × ((o ≡ Some cs) × (counts ≡ eight cs))
answer_some None counts e = absurd (let z : 1 ≡ 0 = ap kind e in omega arith)
answer_some (Some cs) counts e = (cs, (refl, sym (ap counts_of e)))

-- "None" is said just when the start and the wanted value differ modulo the greatest common divisor of m and all increments.
pub none_just : (m s w : ℕ) (xs : List ℕ) → (go_round m s w xs ≡ Ok None) ↔ (Asked m s w xs × (s % divisor m xs ≡ w % divisor m xs → ⊥))
none_just m s w xs = (
  λ e.
      let A = answered_asked m s w xs (omega (arith, ap kind e)) in
      let n = answer_none (first_solution m s w xs) (ap kind (sym (asked_answered A) ∙ e)) in
      (A, (none_apart m s w xs (omega (arith, A.modulus)) (omega (arith, A.start))).0 n),
  λ p.
      let A = p.0 in
      asked_answered A ∙ ap answer ((none_apart m s w xs (omega (arith, A.modulus)) (omega (arith, A.start))).1 p.1),
)

-- and the counts are then left as they were
pub none_leaves : (m s w : ℕ) (xs before : List ℕ) → go_round m s w xs ≡ Ok None → counts_left m s w xs before ≡ before
unfolding given
none_leaves m s w xs before e =
    let A = answered_asked m s w xs (omega (arith, ap kind e)) in
    let n = answer_none (first_solution m s w xs) (ap kind (sym (asked_answered A) ∙ e)) in
    asked_counts A before ∙ ap (λ o. given o before) n

-- the eight counts: as those of the increments, and 0 past the last
pub zeros_at : (n i : ℕ) → ◌≡◌ {A = ℕ} (get_or (replicate n 0) i 0) 0
zeros_at zero i = refl
zeros_at (suc n) zero = refl
zeros_at (suc n) (suc i) = zeros_at n i

behind_at : (cs : List ℕ) (n i : ℕ) → get_or (cs ++ replicate n 0) i 0 ≡ get_or cs i 0
behind_at [] n i = zeros_at n i
behind_at (c ∷ cs) n zero = refl
behind_at (c ∷ cs) n (suc i) = behind_at cs n i

pub eight_at : (cs : List ℕ) (i : ℕ) → get_or (eight cs) i 0 ≡ get_or cs i 0
unfolding eight
eight_at cs i = behind_at cs (8 - length cs) i

pub eight_long : (cs : List ℕ) → length cs ≤ 8 → length (eight cs) ≡ 8
unfolding eight
eight_long cs h = omega (arith, length-append cs (replicate (8 - length cs) 0), length-replicate {A = ℕ} (8 - length cs) 0)

eight_take : (cs : List ℕ) (n : ℕ) → length cs ≡ n → take n (eight cs) ≡ cs
unfolding eight
eight_take cs n e = take_at cs (replicate (8 - length cs) 0) n e

first_answers : {m s w : ℕ} {xs cs : List ℕ} → Asked m s w xs → IsFirst m s w xs cs → Answers m s w xs (eight cs)
first_answers {m} {s} {w} {xs} {cs} A F =
    let S = F.solution in
    let n = S.one_each in
    let t = sym (eight_take cs (length xs) n) in
    let past : (i : ℕ) → length xs ≤ i → get_or (eight cs) i 0 ≡ 0 = λ i h. eight_at cs i ∙ get_or-eq_default cs 0 (omega arith) in
    let b = A.modulus.0 in
    record {
      long = eight_long cs (omega (arith, A.some_increments.1));
      solution = subst (Solution m s w xs) t S;
      first = λ ds D. subst (λ (es : List ℕ). Before ds es → ⊥) t (F.first ds D);
      below = λ i. go i past (dec_le (length xs) i);
      past = past;
    }
  where
    go : (i : ℕ) → ((i : ℕ) → length xs ≤ i → get_or (eight cs) i 0 ≡ 0) → Dec (length xs ≤ i) → get_or (eight cs) i 0 < m
    go i past (yes h) = omega (arith, past i h, A.modulus.0)
    go i past (no h) = omega (arith, eight_at cs i, F.solution.below i (omega arith))

-- What is given are eight counts, of which those of the increments are the first solution in dictionary order; and these are what is stored.
pub done_answers : (m s w : ℕ) (xs before counts : List ℕ) → go_round m s w xs ≡ Ok (Some counts)
    → Answers m s w xs counts × (counts_left m s w xs before ≡ counts)
unfolding given
done_answers m s w xs before counts e =
    let A = answered_asked m s w xs (omega (arith, ap kind e)) in
    let (cs, (n, c)) = answer_some (first_solution m s w xs) counts (sym (asked_answered A) ∙ e) in (
      subst (Answers m s w xs) (sym c) (first_answers A (first_first m s w xs cs n)),
      asked_counts A before ∙ ap (λ o. given o before) n ∙ sym c,
    )

-- so counts are given just when there is a solution
pub done_just : (m s w : ℕ) (xs : List ℕ) → Asked m s w xs → ((counts : List ℕ) × (go_round m s w xs ≡ Ok (Some counts))) ↔ (s % divisor m xs ≡ w % divisor m xs)
done_just m s w xs A = (
  λ p.
      let (cs, (n, c)) = answer_some (first_solution m s w xs) p.0 (sym (asked_answered A) ∙ p.1) in
      some_alike m s w xs (omega (arith, A.modulus)) (omega (arith, A.start)) cs n,
  λ q. (eight (greedy m xs (difference m s w)), asked_answered A ∙ ap answer (alike_some m s w xs (omega (arith, A.modulus)) (omega (arith, A.start)) q)),
)

-- what is stored by the answer
pub counts_by_answer : (m s w : ℕ) (xs before : List ℕ) → counts_after (go_round m s w xs) before ≡ counts_left m s w xs before
unfolding go_round counts_left given
counts_by_answer m s w xs before = go (allowed m s w xs) (first_solution m s w xs)
  where
    go : (t : Bool) (o : Option (List ℕ)) → counts_after (cond t (answer o) (Err (at GoRound 0))) before ≡ cond t (given o before) before
    go true None = refl
    go true (Some cs) = refl
    go false o = refl
