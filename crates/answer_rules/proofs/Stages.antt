-- Checks in stages: the first error wins.
use Rattle.std.specs.Prelude.{◌≡◌, refl, Bool, true, false, ℕ, zero, suc, ◌+◌, ◌≤◌, ◌<◌, Result, Ok, Err, ⊤, IsErr, IsErrAnd}
use Rattle.std.proofs.Common.{sym, ap, ◌∙◌, eq-or-lt_of_le, add-one}
use Rattle.std.proofs.Math.Logic.{⊎_elim}
use native.Mathlib.Omega.{arith}
use Rattle.systems.specs.Search.{run}
use Rattle.answer_rules.specs.declared.Reason.{Reason}
use Rattle.answer_rules.specs.Refusal.{Checked, at}
use Rattle.answer_rules.specs.Stages.{and_then, demand, each}

-- laws for code that goes stage by stage
pub passed : {T E : Type 0} {a : Result ⊤ E} {b r : Result T E} → a ≡ Ok tt → r ≡ b → r ≡ and_then a b
unfolding and_then
passed {a = a} {b} {r} e h = h ∙ ap (λ (x : Result ⊤ _). and_then x b) (sym e)

pub refused : {T E : Type 0} {a : Result ⊤ E} {why : E} (b : Result T E) → a ≡ Err why → Err why ≡ and_then a b
unfolding and_then
refused {a = a} b e = ap (λ (x : Result ⊤ _). and_then x b) (sym e)

-- the same where the answer itself is handed up
pub handed : {E : Type 0} {a : Result ⊤ E} {why : E} (b : Result ⊤ E) → a ≡ Err why → a ≡ and_then a b
handed b e = e ∙ refused b e

-- a chain passes just when both stages do
pub then_fine : {E : Type 0} (a b : Result ⊤ E) → and_then a b ≡ Ok tt → (a ≡ Ok tt) × (b ≡ Ok tt)
unfolding and_then
then_fine (Ok _) b e = (refl, e)
then_fine (Err why) b e = absurd cc

pub demand_fine : {E : Type 0} (t : Bool) (e : E) → demand t e ≡ Ok tt → t ≡ true
unfolding demand
demand_fine true e q = refl
demand_fine false e q = absurd cc

-- a search by a loop: none yet, one more, the first error, and the end
pub each_none : {E : Type 0} (f : ℕ → Result ⊤ E) → each f 0 ≡ Ok tt
unfolding run
each_none f = refl

pub each_more : {E : Type 0} (f : ℕ → Result ⊤ E) (i : ℕ) → each f i ≡ Ok tt → f i ≡ Ok tt → each f (i + 1) ≡ Ok tt
unfolding run and_then
each_more f i e h = rw add-one (ap (λ (x : Result ⊤ _). and_then x (f i)) e ∙ h)

pub each_one : {E : Type 0} (f : ℕ → Result ⊤ E) (i : ℕ) → each f i ≡ Ok tt → each f (suc i) ≡ f i
unfolding run and_then
each_one f i e = ap (λ (x : Result ⊤ _). and_then x (f i)) e

-- a error stays as more stages follow
each_later : {E : Type 0} (f : ℕ → Result ⊤ E) (j : ℕ) {why : E} → each f j ≡ Err why → each f (suc j) ≡ Err why
unfolding run and_then
each_later f j d = ap (λ (x : Result ⊤ _). and_then x (f j)) d

-- an error below n is the error at n
pub each_stop : {E : Type 0} (f : ℕ → Result ⊤ E) (i n : ℕ) {why : E} → each f i ≡ Err why → i ≤ n → each f n ≡ Err why
each_stop f i zero e h = let z : i ≡ 0 = omega arith in rw z at e
each_stop f i (suc n) e h =
    ⊎_elim (λ d. rw d at e) (λ l. each_later f n (each_stop f i n e (omega arith))) (eq-or-lt_of_le h)

-- the first error is the whole search's answer
pub each_first : {E : Type 0} (f : ℕ → Result ⊤ E) (i n : ℕ) {why : E} → each f i ≡ Ok tt → f i ≡ Err why → i < n → each f n ≡ Err why
each_first f i n e d h = each_stop f (suc i) n (each_one f i e ∙ d) h

-- each stage passes where the whole search does
pub each_fine : {E : Type 0} (f : ℕ → Result ⊤ E) (n : ℕ) → each f n ≡ Ok tt → (i : ℕ) → i < n → f i ≡ Ok tt
each_fine f zero e i h = absurd (omega arith)
each_fine f (suc n) e i h =
    let (p, q) = then_fine (each f n) (f n) (unfold run in e) in
    ⊎_elim (λ d. let z : i ≡ n = omega arith in rw z q) (λ l. each_fine f n p i (omega arith)) (eq-or-lt_of_le h)

-- and the whole search passes where each stage does
pub each_all : {E : Type 0} (f : ℕ → Result ⊤ E) (n : ℕ) → ((i : ℕ) → i < n → f i ≡ Ok tt) → each f n ≡ Ok tt
each_all f zero h = each_none f
each_all f (suc n) h = each_one f n (each_all f n (λ i k. h i (omega arith))) ∙ h n (omega arith)

-- Two searches whose stages agree for as long as all before have passed give the same.
pub each_agree : {E : Type 0} (f g : ℕ → Result ⊤ E) (n : ℕ) → ((i : ℕ) → i < n → each f i ≡ Ok tt → f i ≡ g i) → each f n ≡ each g n
each_agree f g zero e = each_none f ∙ sym (each_none g)
each_agree {E} f g (suc n) e = go (each f n) refl (each_agree f g n (λ i h k. e i (omega arith) k))
  where
    go : (r : Result ⊤ E) → each f n ≡ r → each f n ≡ each g n → each f (suc n) ≡ each g (suc n)
    go (Ok _) k q = each_one f n k ∙ e n (omega arith) k ∙ sym (each_one g n (sym q ∙ k))
    go (Err why) k q = each_later f n k ∙ sym (each_later g n (sym q ∙ k))

-- a test that passed, and one that failed
pub demand_passed : {E : Type 0} (t : Bool) (e : E) → t ≡ true → Ok tt ≡ demand t e
unfolding demand
demand_passed t e q = rw q refl

pub demand_failed : {E : Type 0} (t : Bool) (e : E) → t ≡ false → Err e ≡ demand t e
unfolding demand
demand_failed t e q = rw q refl

-- the same for a stage's answer that code holds: it was refused, so it is the chain's answer; it passed, so the rest is
pub stop : {T E : Type 0} {r a : Result ⊤ E} {why : E} (b : Result T E) → r ≡ a → r ≡ Err why → Err why ≡ and_then a b
stop b e h = refused b (sym e ∙ h)

pub go_on : {T E : Type 0} {r a : Result ⊤ E} {b q : Result T E} → r ≡ a → r ≡ Ok tt → q ≡ b → q ≡ and_then a b
go_on e h k = passed (sym e ∙ h) k

pub demand_by : {E : Type 0} {r : Result ⊤ E} {t u : Bool} (e : E) → r ≡ demand t e → t ≡ u → r ≡ demand u e
demand_by e q h = q ∙ ap (λ (t : Bool). demand t e) h

-- a test of a number that was read, at a place that was computed
pub demand_at : (t : ℕ → Bool) (n : Reason) {l m p q : ℕ} {r : Checked} → l ≡ m → p ≡ q → r ≡ demand (t l) (at n p) → r ≡ demand (t m) (at n q)
demand_at t n {m = m} {p = p} e h k = k ∙ ap (λ (x : ℕ). demand (t x) (at n p)) e ∙ ap (λ (x : ℕ). demand (t m) (at n x)) h

-- a loop over stages: one refused, one more passed, all passed
pub loop_stop : {E : Type 0} (f : ℕ → Result ⊤ E) (i n : ℕ) {r : Result ⊤ E} {why : E} → each f i ≡ Ok tt → r ≡ f i → r ≡ Err why → i < n → Err why ≡ each f n
loop_stop f i n e h k l = sym (each_first f i n e (sym h ∙ k) l)

pub loop_more : {E : Type 0} (f : ℕ → Result ⊤ E) (i : ℕ) {r : Result ⊤ E} → each f i ≡ Ok tt → r ≡ f i → r ≡ Ok tt → each f (i + 1) ≡ Ok tt
loop_more f i e h k = each_more f i e (sym h ∙ k)

pub loop_end : {E : Type 0} (f : ℕ → Result ⊤ E) (i n : ℕ) → each f i ≡ Ok tt → n ≤ i → i ≤ n → Ok tt ≡ each f n
loop_end f i n e h k = let q : i ≡ n = omega arith in sym e ∙ ap (each f) q

-- what `?` hands up
pub handed_up : {T E : Type 0} {r : Result T E} {e : E} → IsErr r × IsErrAnd r (λ f. f ≡ e) → r ≡ Err e
handed_up {r = Ok x} q = absurd (let z : ◌≡◌ {A = Bool} false true = q.0 in cc)
handed_up {r = Err f} q = ap Err q.1

-- a test by its error
pub demand_for : {E : Type 0} {r : Result ⊤ E} (t : Bool) {e f : E} → r ≡ demand t e → e ≡ f → r ≡ demand t f
demand_for t q h = q ∙ ap (demand t) h

-- a test that gave an error failed, and gave its own
pub demand_where : {E : Type 0} (t : Bool) (e : E) {why : E} → demand t e ≡ Err why → (t ≡ false) × (why ≡ e)
unfolding demand
demand_where true e q = absurd cc
demand_where false e q = (refl, cc)

-- stages before a value: they passed, and it is that; or one gave an error
pub then_ok : {T E : Type 0} (a : Result ⊤ E) {x y : T} → and_then a (Ok x) ≡ Ok y → (a ≡ Ok tt) × (y ≡ x)
unfolding and_then
then_ok (Ok _) q = (refl, cc)
then_ok (Err e) q = absurd cc

pub then_err : {T E : Type 0} (a : Result ⊤ E) (x : T) {e : E} → and_then a (Ok x) ≡ Err e → a ≡ Err e
unfolding and_then
then_err (Ok _) x q = absurd cc
then_err (Err f) x q = cc
