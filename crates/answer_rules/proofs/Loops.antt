-- Laws for code that goes stage by stage, as facts about plain values: one test, and a search by a loop.
use Rattle.std.specs.Prelude.{◌≡◌, refl, Bool, true, false, ◌||◌, ◌&&◌, ℕ, zero, suc, ◌+◌, ◌≤◌, ◌<◌, Result, Ok, Err, ⊤}
use Rattle.std.proofs.Common.{sym, ap, ◌∙◌, arith, add-one, ⊎_elim}
use Rattle.systems.specs.Search.{run, all}
use Rattle.systems.proofs.Laws.{below_suc}
use Rattle.answer_rules.specs.Stages.{demand, each}
use Rattle.answer_rules.proofs.Stages.{each_more, each_first}

-- one test
pub demand_yes : {E : Type 0} {t : Bool} (e : E) → t ≡ true → Ok tt ≡ demand t e
unfolding demand
demand_yes e q = rw q refl

pub demand_no : {E : Type 0} {t : Bool} {e : E} → t ≡ false → Err e ≡ demand t e
unfolding demand
demand_no q = rw q refl

pub or_first : {a : Bool} (b : Bool) → a ≡ true → (a || b) ≡ true
or_first b e = rw e refl

pub or_second : (a : Bool) {b : Bool} → b ≡ true → (a || b) ≡ true
or_second true e = refl
or_second false e = e

pub or_neither : {a b : Bool} → a ≡ false → b ≡ false → (a || b) ≡ false
or_neither e h = rw e h

pub and_both : {a b : Bool} → a ≡ true → b ≡ true → (a && b) ≡ true
and_both e h = rw e h

pub and_first : {a : Bool} (b : Bool) → a ≡ false → (a && b) ≡ false
and_first b e = rw e refl

pub and_second : (a : Bool) {b : Bool} → b ≡ false → (a && b) ≡ false
and_second true e = e
and_second false e = refl

-- a search whose loop has come to i: one more stage passes, one is refused, or none is left
pub each_passed : {E : Type 0} (f : ℕ → Result ⊤ E) (i : ℕ) {one : Result ⊤ E} → each f i ≡ Ok tt → one ≡ f i → one ≡ Ok tt → each f (i + 1) ≡ Ok tt
each_passed f i e h q = each_more f i e (sym h ∙ q)

pub each_refused : {E : Type 0} (f : ℕ → Result ⊤ E) (i n : ℕ) {one : Result ⊤ E} {why : E} → each f i ≡ Ok tt → i < n → one ≡ f i → one ≡ Err why → Err why ≡ each f n
each_refused f i n e l h q = sym (each_first f i n e (sym h ∙ q) l)

pub each_ended : {E : Type 0} (f : ℕ → Result ⊤ E) (i n : ℕ) → each f i ≡ Ok tt → i ≤ n → n ≤ i → Ok tt ≡ each f n
each_ended f i n e h l = let z : i ≡ n = omega arith in rw z at (sym e)

-- the same for a condition on all numbers below n
pub all_none : (p : ℕ → Bool) → all p 0 ≡ true
unfolding run
all_none p = refl

pub all_more : (p : ℕ → Bool) (i : ℕ) → all p i ≡ true → p i ≡ true → all p (i + 1) ≡ true
unfolding run
all_more p i e h = rw add-one (and_both e h)

pub all_stop : (p : ℕ → Bool) (i n : ℕ) → p i ≡ false → i < n → all p n ≡ false
unfolding run
all_stop p i zero h l = absurd (omega arith)
all_stop p i (suc n) h l =
    ⊎_elim
    (λ d. and_second (all p n) (ap p (sym d) ∙ h))
    (λ k. and_first (p n) (all_stop p i n h k))
    (below_suc l)

pub all_ended : (p : ℕ → Bool) (i n : ℕ) → all p i ≡ true → i ≤ n → n ≤ i → true ≡ all p n
all_ended p i n e h l = let z : i ≡ n = omega arith in rw z at (sym e)
