-- What one action of a pair of blocks does on the two charts.
use Rattle.std.specs.Prelude.{ℕ, ◌+◌, ◌<◌, ◌≡◌, refl, true, List, get_or, Option, Some, None}
use Rattle.std.proofs.Common.{arith, ◌∙◌}
use Rattle.std.proofs.Math.Path.{sym, ap}
use Rattle.systems.specs.System.{System, entry}
use Rattle.systems.specs.Entries.{Plain}
use Rattle.answer_rules.specs.Walk.{is_barred}
use Rattle.model.specs.Chart.{blocks_of, chart_step, chart_system}
use Rattle.pair_search.specs.declared.visiting.Compared.{Compared}
use Rattle.pair_search.specs.declared.visiting.Compared.TheVariants.{Apart, Together, Fresh}
use Rattle.pair_search.specs.Queue.{Comparable, Stepped}

-- What comparing action a of blocks i and j tells: different entries are written; or the action is barred on both sides, or leads to blocks of one class; or it
-- leads to blocks of different classes.
pub data Comparing (c d cl : List ℕ) (i j a : ℕ) : Compared → Type 0 where
  apart : (entry (chart_system c) (chart_step c a i) ≡ entry (chart_system d) (chart_step d a j) → ⊥) → Comparing c d cl i j a Apart
  both_barred : chart_step c a i ≡ None → chart_step d a j ≡ None → Comparing c d cl i j a Together
  one_class : {x y : ℕ} → Stepped c d i j a x y → get_or cl x 0 ≡ get_or cl (blocks_of c + y) 0 → Comparing c d cl i j a Together
  fresh : {x y : ℕ} → Stepped c d i j a x y → (get_or cl x 0 ≡ get_or cl (blocks_of c + y) 0 → ⊥) → Comparing c d cl i j a (Fresh x y)

-- where entries are the same and no label is 65,535, an action is barred on both sides or on neither
same_bars : {X Y : Type 0} (s : System X) (t : System Y) → Plain s → Plain t → (o : Option X) (u : Option Y) → entry s o ≡ entry t u → is_barred o ≡ is_barred u
unfolding entry is_barred
same_bars s t p q None None e = refl
same_bars s t p q None (Some y) e = absurd (omega (arith, q y))
same_bars s t p q (Some x) None e = absurd (omega (arith, p x))
same_bars s t p q (Some x) (Some y) e = refl

barred_none : {X : Type 0} (o : Option X) → is_barred o ≡ true → o ≡ None
unfolding is_barred
barred_none None e = refl
barred_none (Some x) e = absurd cc

none_barred : {X : Type 0} (o : Option X) → o ≡ None → is_barred o ≡ true
unfolding is_barred
none_barred None e = refl
none_barred (Some x) e = absurd cc

-- where an action leads on either side, and the entries that are written there
module _ {c d : List ℕ} {i j a : ℕ} {l r : Option ℕ} {v w : ℕ} (C : Comparable c d) (L : l ≡ chart_step c a i) (R : r ≡ chart_step d a j)
    (V : v ≡ entry (chart_system c) l) (W : w ≡ entry (chart_system d) r) where
  pub entries_apart : {cl : List ℕ} → (v ≡ w → ⊥) → Comparing c d cl i j a Apart
  entries_apart n = apart (λ e. n (V ∙ ap (entry (chart_system c)) L ∙ e ∙ sym (W ∙ ap (entry (chart_system d)) R)))

  -- barred on one side, and so on both
  pub left_barred : {cl : List ℕ} → v ≡ w → l ≡ None → Comparing c d cl i j a Together
  left_barred e b =
      both_barred (sym L ∙ b)
      (sym R ∙ barred_none r (sym (same_bars (chart_system c) (chart_system d) C.first_plain C.second_plain l r (sym V ∙ e ∙ W)) ∙ none_barred l b))

  pub right_barred : {cl : List ℕ} → v ≡ w → r ≡ None → Comparing c d cl i j a Together
  right_barred e b =
      both_barred
      (sym L ∙ barred_none l (same_bars (chart_system c) (chart_system d) C.first_plain C.second_plain l r (sym V ∙ e ∙ W) ∙ none_barred r b))
      (sym R ∙ b)

  pub acts_stepped : {x y : ℕ} → v ≡ w → l ≡ Some x → r ≡ Some y → x < blocks_of c → y < blocks_of d → Stepped c d i j a x y
  unfolding entry chart_system
  acts_stepped e p q hx hy =
      record {
        left_step = sym L ∙ p;
        right_step = sym R ∙ q;
        left_block = hx;
        right_block = hy;
        labels = sym (ap (entry (chart_system c)) p) ∙ sym V ∙ e ∙ W ∙ ap (entry (chart_system d)) q;
      }

-- the test of the classes, where n is the number of the first chart's blocks
module _ {c d cl : List ℕ} {i j a x y n : ℕ} (e : n ≡ blocks_of c) (S : Stepped c d i j a x y) where
  pub classes_same : get_or cl x 0 ≡ get_or cl (n + y) 0 → Comparing c d cl i j a Together
  classes_same h = one_class S (h ∙ ap (λ (k : ℕ). get_or cl (k + y) 0) e)

  pub classes_apart : (get_or cl x 0 ≡ get_or cl (n + y) 0 → ⊥) → Comparing c d cl i j a (Fresh x y)
  classes_apart h = fresh S (λ q. h (q ∙ sym (ap (λ (k : ℕ). get_or cl (k + y) 0) e)))
