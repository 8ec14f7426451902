-- Check 4 by the pieces that the code has functions for.
use Rattle.std.specs.Prelude.{◌≡◌, refl, Bool, true, false, ◌&&◌, not, List, ℕ, ◌+◌, eqb, ltb, leb, get_or, drop, ℤ, Ok}
use Rattle.std.proofs.Common.{sym, ap, ◌∙◌, arith, eq-eqb, ne_eqb}
use Rattle.std.specs.Int.Signed.{le_z}
use Rattle.integers.specs.declared.Range.{Range}
use Rattle.integers.specs.Range.{near}
use Rattle.integers.specs.LittleEndian.{signed_at}
use Rattle.systems.proofs.Laws.{run_ext}
use Rattle.answer_rules.specs.declared.Reason.TheVariants.{Field}
use Rattle.answer_rules.specs.Refusal.{Checked, at}
use Rattle.answer_rules.specs.Stages.{and_then, demand, each}
use Rattle.sheet_bytes.specs.declared.Shape.{Shape}
use Rattle.sheet_rules.specs.Layout.{offset_limit, counters_of, actions_of, kind_of, source_of, factor_of, offset_of, rule_place, start_place, start_value, low_place, high_place, move_place, move_part}
use Rattle.sheet_rules.specs.Decode.{range_at}
use Rattle.sheet_bytes.specs.Three.{Read}
use Rattle.sheet_rules.specs.Form.{value_limit, check_value, check_rule, check_zero_rule, check_move}

-- the tests of a rule's source and factor
unfoldable pub source_right : ℕ → List ℕ → Bool
source_right V# p = elim (eqb (kind_of p) 0) [ true ↦ eqb (source_of p) 0 | false ↦ ltb (source_of p) V# ]

unfoldable pub factor_right : List ℕ → Bool
factor_right p = elim (eqb (kind_of p) 0) [ true ↦ near 0 (factor_of p) | false ↦ near 100 (factor_of p) && not (near 0 (factor_of p)) ]

-- the rule of counter v, by the kind of its move
unfoldable pub check_one : ℕ → ℕ → List ℕ → ℕ → ℕ → Checked
check_one V# most p place v =
    elim (eqb (kind_of p) 0) [
      | true ↦ check_zero_rule (drop (rule_place v) p) (place + rule_place v)
      | false ↦ check_rule V# most (drop (rule_place v) p) (place + rule_place v)
    ]

-- the moves of a region
unfoldable pub check_moves : List ℕ → ℕ → Checked
check_moves s i = each (λ a. check_move (counters_of s) (offset_limit s) (move_part s i a) (move_place s i a)) (actions_of s)

-- tests by kind
pub source_set : (V# : ℕ) (p : List ℕ) → kind_of p ≡ 0 → eqb (source_of p) 0 ≡ source_right V# p
unfolding source_right
source_set V# p e = rw (eq-eqb (kind_of p) 0 e, source_right) refl

pub source_carry : (V# : ℕ) (p : List ℕ) → (kind_of p ≡ 0 → ⊥) → ltb (source_of p) V# ≡ source_right V# p
unfolding source_right
source_carry V# p e = rw (ne_eqb (kind_of p) 0 e, source_right) refl

pub factor_set : (p : List ℕ) {t : Bool} → t ≡ near 0 (factor_of p) → kind_of p ≡ 0 → t ≡ factor_right p
unfolding factor_right
factor_set p h e = rw (eq-eqb (kind_of p) 0 e, factor_right) h

pub factor_far : (p : List ℕ) {t : Bool} → t ≡ near 100 (factor_of p) → (kind_of p ≡ 0 → ⊥) → t ≡ false → t ≡ factor_right p
unfolding factor_right
factor_far p h e k = rw (ne_eqb (kind_of p) 0 e, factor_right, sym h ∙ k) k

pub factor_zero : (p : List ℕ) {t : Bool} → t ≡ near 0 (factor_of p) → (kind_of p ≡ 0 → ⊥) → t ≡ true → false ≡ factor_right p
unfolding factor_right
factor_zero p h e k = rw (ne_eqb (kind_of p) 0 e, factor_right, sym h ∙ k) (and_false (near 100 (factor_of p)))
  where
    and_false : (b : Bool) → false ≡ (b && false)
    and_false true = refl
    and_false false = refl

pub factor_carry : (p : List ℕ) {t u : Bool} → t ≡ near 100 (factor_of p) → (kind_of p ≡ 0 → ⊥) → t ≡ true → u ≡ near 0 (factor_of p) → not u ≡ factor_right p
unfolding factor_right
factor_carry p h e k l = rw (ne_eqb (kind_of p) 0 e, factor_right, sym h ∙ k) (ap not l)

pub one_zero : (V# most : ℕ) (p : List ℕ) (place v : ℕ) → kind_of p ≡ 0 → check_zero_rule (drop (rule_place v) p) (place + rule_place v) ≡ check_one V# most p place v
unfolding check_one
one_zero V# most p place v e = rw (eq-eqb (kind_of p) 0 e, check_one) refl

pub one_open : (V# most : ℕ) (p : List ℕ) (place v : ℕ) → (kind_of p ≡ 0 → ⊥) → check_rule V# most (drop (rule_place v) p) (place + rule_place v) ≡ check_one V# most p place v
unfolding check_one
one_open V# most p place v e = rw (ne_eqb (kind_of p) 0 e, check_one) refl

-- a move by its kind
pub move_zero : (V# most : ℕ) (p : List ℕ) (place : ℕ) → kind_of p ≡ 0
    → and_then (demand (leb (kind_of p) 1) (at Field place)) (and_then (demand (eqb (get_or p 1 0) 0) (at Field (place + 1))) (each (check_one V# most p place) V#)) ≡ check_move V# most p place
unfolding check_move
move_zero V# most p place e =
    rw (eq-eqb (kind_of p) 0 e, check_move)
    (ap (λ (c : Checked). and_then (demand (leb (kind_of p) 1) (at Field place)) (and_then (demand (eqb (get_or p 1 0) 0) (at Field (place + 1))) c))
    (run_ext (Ok tt) and_then (check_one V# most p place) (λ v. check_zero_rule (drop (rule_place v) p) (place + rule_place v)) V# (λ v h. sym (one_zero V# most p place v e))))

pub move_open : (V# most : ℕ) (p : List ℕ) (place : ℕ) → (kind_of p ≡ 0 → ⊥)
    → and_then (demand (leb (kind_of p) 1) (at Field place)) (each (check_one V# most p place) V#) ≡ check_move V# most p place
unfolding check_move
move_open V# most p place e =
    rw (ne_eqb (kind_of p) 0 e, check_move)
    (ap (λ (c : Checked). and_then (demand (leb (kind_of p) 1) (at Field place)) c)
    (run_ext (Ok tt) and_then (check_one V# most p place) (λ v. check_rule V# most (drop (rule_place v) p) (place + rule_place v)) V# (λ v h. sym (one_open V# most p place v e))))

-- nearness of a factor and of an offset that were read
pub factor_read : (p : List ℕ) (n : ℕ) {t : Bool} {z : ℤ} → t ≡ near n z → z ≡ signed_at 1 p 2 → t ≡ near n (factor_of p)
unfolding factor_of
factor_read p n h e = h ∙ ap (near n) e

pub offset_read : (p : List ℕ) (n : ℕ) {t : Bool} {z : ℤ} → t ≡ near n z → z ≡ signed_at 4 p 3 → t ≡ near n (offset_of p)
unfolding offset_of
offset_read p n h e = h ∙ ap (near n) e

-- a start value, and the bounds of a counter, stage by stage as the code tests them
pub value_stage : (s : List ℕ) (v p : ℕ) {z : ℤ} {t : Bool} {r : Checked} → z ≡ start_value s v → t ≡ near value_limit z → p ≡ start_place s v → r ≡ demand t (at Field p) → r ≡ check_value s v
unfolding check_value
value_stage s v p {z} {t} e h d k =
    k ∙ ap (λ (p : ℕ). demand t (at Field p)) d ∙ ap (λ (t : Bool). demand t (at Field (start_place s v))) (h ∙ ap (near value_limit) e)

module _ {s : List ℕ} {shape : Shape} (R : Read s shape) where
  module _ (i v p : ℕ) {q : Range} (e : p ≡ low_place s i v) (f : q ≡ range_at s i v) where
    high_there : p + shape.width ≡ high_place s i v
    unfolding high_place
    high_there = omega (arith, R.width_is)

    pub low_stage : {t : Bool} {r : Checked} → t ≡ near value_limit q.low → r ≡ demand t (at Field p) → r ≡ demand (near value_limit (range_at s i v).low) (at Field (low_place s i v))
    low_stage {t} h k = k ∙ ap (λ (x : ℕ). demand t (at Field x)) e ∙ ap (λ (t : Bool). demand t (at Field (low_place s i v))) (h ∙ ap (λ (x : Range). near value_limit x.low) f)

    pub high_stage : {t : Bool} {r : Checked} → t ≡ near value_limit q.high → r ≡ demand t (at Field (p + shape.width))
        → r ≡ demand (near value_limit (range_at s i v).high) (at Field (high_place s i v))
    high_stage {t} h k = k ∙ ap (λ (x : ℕ). demand t (at Field x)) high_there ∙ ap (λ (t : Bool). demand t (at Field (high_place s i v))) (h ∙ ap (λ (x : Range). near value_limit x.high) f)

    pub order_stage : {r : Checked} → r ≡ demand (le_z q.low q.high) (at Field (p + shape.width))
        → r ≡ demand (le_z (range_at s i v).low (range_at s i v).high) (at Field (high_place s i v))
    order_stage k = k ∙ ap (λ (x : ℕ). demand (le_z q.low q.high) (at Field x)) high_there ∙ ap (λ (x : Range). demand (le_z x.low x.high) (at Field (high_place s i v))) f

-- the check of a move record, as the code reads it from a part of the sheet
abbrev pub move_checked : List ℕ → ℕ → ℕ → Checked
move_checked s i a = check_move (counters_of s) (offset_limit s) (move_part s i a) (move_place s i a)

pub move_checked_lem : {s : List ℕ} {shape : Shape} (R : Read s shape) (i a : ℕ) {p most : ℕ} {part : List ℕ} {r : Checked} → p ≡ move_place s i a → most ≡ offset_limit s
    → part ≡ move_part s i a → r ≡ check_move shape.counters most part p → r ≡ move_checked s i a
move_checked_lem {s} {shape} R i a {p} {most} {part} e o d h =
    h
    ∙ ap (λ (n : ℕ). check_move n most part p) R.counters_are
    ∙ ap (λ (n : ℕ). check_move (counters_of s) n part p) o
    ∙ ap (λ (l : List ℕ). check_move (counters_of s) (offset_limit s) l p) d
    ∙ ap (λ (k : ℕ). check_move (counters_of s) (offset_limit s) (move_part s i a) k) e
