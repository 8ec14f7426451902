-- The refusals 4, 12 and 13 as the code finds them: one item at a time, and what a chart that passes says.
use Rattle.std.specs.Prelude.{◌≡◌, refl, Bool, true, false, not, ◌||◌, List, ℕ, ◌+◌, eqb, ltb, leb, Ok, Err}
use Rattle.std.proofs.Common.{sym, ap, ◌∙◌, arith, add-one, eq-eqb, ne_eqb}
use mathlib.Core.Bool.{beq}
use Rattle.answer_rules.specs.declared.Reason.TheVariants.{Field, Numbering, Bars}
use Rattle.answer_rules.specs.Refusal.{Checked, at}
use Rattle.answer_rules.specs.Stages.{demand}
use Rattle.answer_rules.proofs.Stages.{demand_by, demand_at}
use Rattle.answer_rules.proofs.Loops.{demand_yes, demand_no, or_first, or_second, or_neither}
use Rattle.model.specs.Chart.{actions_of, blocks_of, record_at, label_of, target_of, next_after, next_in, next_unnamed}
use Rattle.chart_bytes.specs.Header.{target_at}
use Rattle.chart_form.specs.Form.{target_check, record_check, order_check, same_bar, same_bars, bar_check}

-- a test of two parts, the second made only where the first fails
pub first_holds : {a t : Bool} (b : Bool) → a ≡ true → t ≡ a → t ≡ (a || b)
first_holds b h e = e ∙ h ∙ sym (or_first b h)

pub second_made : {a b t : Bool} → a ≡ false → t ≡ b → t ≡ (a || b)
second_made {b = b} h e = e ∙ sym (ap (λ (x : Bool). x || b) h)

-- 4: one target
pub target_tested : (c : List ℕ) (i a : ℕ) {t p : ℕ} {b : Bool} {r : Checked} → t ≡ target_of c i a → p ≡ target_at c i a
    → b ≡ (eqb t 255 || ltb t (blocks_of c)) → r ≡ demand b (at Field p) → r ≡ target_check c i a
unfolding target_check
target_tested c i a e q h k = demand_at (λ t. eqb t 255 || ltb t (blocks_of c)) Field e q (demand_by (at Field _) k h)

-- 12: a record's first byte, one target, and the next unnamed number
pub record_tested : (c : List ℕ) (i m : ℕ) {p : ℕ} {b : Bool} {r : Checked} → p ≡ record_at c i → b ≡ (eqb i 0 || ltb i m)
    → r ≡ demand b (at Numbering p) → r ≡ record_check c i m
unfolding record_check
record_tested c i m q h k = demand_at (λ i. eqb i 0 || ltb i m) Numbering refl q (demand_by (at Numbering _) k h)

pub order_tested : (c : List ℕ) (i a m : ℕ) {t p : ℕ} {b : Bool} {r : Checked} → t ≡ target_of c i a → p ≡ target_at c i a
    → b ≡ (eqb t 255 || leb t m) → r ≡ demand b (at Numbering p) → r ≡ order_check c i a m
unfolding order_check
order_tested c i a m e q h k = demand_at (λ t. eqb t 255 || leb t m) Numbering e q (demand_by (at Numbering _) k h)

pub next_barred : (m t : ℕ) → t ≡ 255 → m ≡ next_after m t
unfolding next_after
next_barred m t e = rw (eq-eqb t 255 e, next_after)

pub next_new : (m t : ℕ) → (t ≡ 255 → ⊥) → t ≡ m → m + 1 ≡ next_after m t
unfolding next_after
next_new m t n e = rw (ne_eqb t 255 n, eq-eqb t m e, next_after) (omega arith)

pub next_old : (m t : ℕ) → (t ≡ 255 → ⊥) → (t ≡ m → ⊥) → m ≡ next_after m t
unfolding next_after
next_old m t n e = rw (ne_eqb t 255 n, ne_eqb t m e, next_after)

pub next_none : (c : List ℕ) (i m : ℕ) → m ≡ next_in c i m 0
unfolding next_in
next_none c i m = refl

pub next_more : (c : List ℕ) (i m a : ℕ) {x t r : ℕ} → x ≡ next_in c i m a → t ≡ target_of c i a → r ≡ next_after x t → r ≡ next_in c i m (a + 1)
unfolding next_in
next_more c i m a {x} {t} e h q = rw add-one (q ∙ ap (λ (y : ℕ). next_after y t) e ∙ ap (next_after (next_in c i m a)) h)

pub unnamed_none : (c : List ℕ) → 1 ≡ next_unnamed c 0
unfolding next_unnamed
unnamed_none c = refl

pub unnamed_more : (c : List ℕ) (i : ℕ) {x r : ℕ} → x ≡ next_unnamed c i → r ≡ next_in c i x (actions_of c) → r ≡ next_unnamed c (i + 1)
unfolding next_unnamed
unnamed_more c i e q = rw add-one (q ∙ ap (λ (y : ℕ). next_in c i y (actions_of c)) e)

-- 13: two targets, and two records
pub bars_same : (t u : ℕ) → beq (eqb t 255) (eqb u 255) ≡ same_bar t u
unfolding same_bar
bars_same t u = go (eqb t 255) (eqb u 255)
  where
    go : (b d : Bool) → beq b d ≡ elim b [ true ↦ d | false ↦ not d ]
    go true true = refl
    go true false = refl
    go false true = refl
    go false false = refl

pub bar_at : (c : List ℕ) (i j a t u : ℕ) {b : Bool} → t ≡ target_of c i a → u ≡ target_of c j a → b ≡ same_bar t u → same_bar (target_of c i a) (target_of c j a) ≡ b
bar_at c i j a t u e h q = sym (q ∙ ap (λ (x : ℕ). same_bar x u) e ∙ ap (same_bar (target_of c i a)) h)

pub pair_apart : (c : List ℕ) (j i : ℕ) {l m : ℕ} → l ≡ label_of c i → m ≡ label_of c j → (l ≡ m → ⊥) → Ok tt ≡ bar_check c j i
unfolding bar_check
pair_apart c j i e h n =
    demand_yes (at Bars (record_at c j)) (or_first (same_bars c i j) (ap not (ne_eqb (label_of c i) (label_of c j) (λ d. n (e ∙ d ∙ sym h)))))

pub pair_alike : (c : List ℕ) (j i : ℕ) {b : Bool} → b ≡ same_bars c i j → b ≡ true → Ok tt ≡ bar_check c j i
unfolding bar_check
pair_alike c j i e h = demand_yes (at Bars (record_at c j)) (or_second (not (eqb (label_of c i) (label_of c j))) (sym e ∙ h))

pub pair_wrong : (c : List ℕ) (j i : ℕ) {l m p : ℕ} {b : Bool} → l ≡ label_of c i → m ≡ label_of c j → l ≡ m → b ≡ same_bars c i j → b ≡ false
    → p ≡ record_at c j → Err (at Bars p) ≡ bar_check c j i
unfolding bar_check
pair_wrong c j i e h d s k q =
    ap (λ (x : ℕ). Err (at Bars x)) q ∙ demand_no (or_neither (ap not (eq-eqb (label_of c i) (label_of c j) (sym e ∙ d ∙ h))) (sym s ∙ k))
