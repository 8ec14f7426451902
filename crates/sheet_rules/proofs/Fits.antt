-- What check 4 leaves: no label is 65,535, the rules of every open move are within their limits, and so are the ranges, which are in order.
use Rattle.std.specs.Prelude.{◌≡◌, Bool, true, false, ◌&&◌, not, List, ℕ, ◌+◌, ◌≤◌, ◌<◌, eqb, ltb, leb, get_or, drop, Ok}
use Rattle.std.proofs.Common.{arith}
use borrow.Author.Tests.{ltb-true}
use Rattle.integers.specs.Range.{near, Within}
use Rattle.integers.proofs.RangeLaws.{within_wider, le_z_le, near_within, near_zero}
use Rattle.integers.specs.LittleEndian.{Bytes}
use Rattle.integers.proofs.LittleEndian.{bytes_drop}
use Rattle.systems.proofs.Laws.{both, true_is, is_true}
use Rattle.systems.proofs.Lists.{length_each}
use Rattle.answer_rules.specs.declared.Reason.TheVariants.{Field}
use Rattle.answer_rules.specs.Refusal.{Checked, at}
use Rattle.answer_rules.specs.Stages.{and_then, each, demand}
use Rattle.answer_rules.proofs.Stages.{then_fine, demand_fine, each_fine}
use Rattle.model.specs.declared.Rule.TheVariants.{Set, Carry}
use Rattle.model.specs.Sheet.{Barred, Open, RuleFits, set_fits, carry_fits, RangeFits, MoveFits, barred_fits, open_fits}
use Rattle.sheet_rules.specs.Layout.{wide, offset_limit, counters_of, actions_of, regions_of, region_place, label_at, low_place, high_place, move_place, move_part, rule_place, kind_of, source_of, factor_of, offset_of}
use Rattle.sheet_rules.specs.Decode.{listed, range_at, rule_of, rule_at, move_of, move_at}
use Rattle.sheet_rules.proofs.Listed.{each_listed}
use Rattle.sheet_rules.specs.Form.{value_limit, check_value, check_bound, check_rule, check_zero_rule, check_move, check_fields, check_limits}

-- a rule that passed is within its limits
pub rule_fits : (V# most : ℕ) (p : List ℕ) (place : ℕ) → most ≤ 200000000 → check_rule V# most p place ≡ Ok tt → RuleFits V# (rule_of p)
unfolding check_rule rule_of
rule_fits V# most p place l e = go (eqb (kind_of p) 0) (then_fine (demand (leb (kind_of p) 1) (at Field place)) _ e).1
  where
    offset : near most (offset_of p) ≡ true → Within 200000000 (offset_of p)
    offset d = within_wider 200000000 l (near_within most (offset_of p) d)

    go : (b : Bool)
        → and_then (demand (elim b [ true ↦ eqb (source_of p) 0 | false ↦ ltb (source_of p) V# ]) (at Field (place + 1)))
        (and_then (demand (elim b [ true ↦ near 0 (factor_of p) | false ↦ near 100 (factor_of p) && not (near 0 (factor_of p)) ]) (at Field (place + 2)))
        (demand (near most (offset_of p)) (at Field (place + 3))))
        ≡ Ok tt
        → RuleFits V# (elim b [ true ↦ Set (offset_of p) | false ↦ Carry (source_of p) (factor_of p) (offset_of p) ])
    go true f =
        let (x, g) = then_fine (demand (eqb (source_of p) 0) (at Field (place + 1))) _ f in
        let (y, z) = then_fine (demand (near 0 (factor_of p)) (at Field (place + 2))) _ g in
        set_fits (offset (demand_fine (near most (offset_of p)) (at Field (place + 3)) z))
    go false f =
        let (x, g) = then_fine (demand (ltb (source_of p) V#) (at Field (place + 1))) _ f in
        let (y, z) = then_fine (demand (near 100 (factor_of p) && not (near 0 (factor_of p))) (at Field (place + 2))) _ g in
        let w = demand_fine (near 100 (factor_of p) && not (near 0 (factor_of p))) (at Field (place + 2)) y in
        let (k, n) = (both (near 100 (factor_of p)) (not (near 0 (factor_of p)))).0 (true_is _ w) in
        carry_fits
        (ltb-true (source_of p) V# (demand_fine (ltb (source_of p) V#) (at Field (place + 1)) x))
        (near_zero (factor_of p) (is_true (not (near 0 (factor_of p))) n))
        (near_within 100 (factor_of p) (is_true (near 100 (factor_of p)) k))
        (offset (demand_fine (near most (offset_of p)) (at Field (place + 3)) z))

-- a move that passed
pub move_fits : (V# most : ℕ) (p : List ℕ) (place : ℕ) → most ≤ 200000000 → Bytes p → check_move V# most p place ≡ Ok tt → MoveFits V# (move_of V# p)
unfolding check_move move_of
move_fits V# most p place l b e = go (eqb (kind_of p) 0) (then_fine (demand (leb (kind_of p) 1) (at Field place)) _ e).1
  where
    go : (t : Bool)
        → ◌≡◌ {A = Checked} (elim t [
          | true ↦ and_then (demand (eqb (get_or p 1 0) 0) (at Field (place + 1))) (each (λ v. check_zero_rule (drop (rule_place v) p) (place + rule_place v)) V#)
          | false ↦ each (λ v. check_rule V# most (drop (rule_place v) p) (place + rule_place v)) V#
        ]) (Ok tt)
        → MoveFits V# (elim t [ true ↦ Barred | false ↦ Open (get_or p 1 0) (listed (rule_at p) V#) ])
    go true f = barred_fits
    go false f =
        open_fits
        (b 1)
        (length_each (rule_at p) V#)
        (each_listed {P = RuleFits V#} (rule_at p) V#
        (λ v h. rule_fits V# most (drop (rule_place v) p) (place + rule_place v) l (each_fine (λ v. check_rule V# most (drop (rule_place v) p) (place + rule_place v)) V# f v h)))

pub limit_le : (s : List ℕ) → offset_limit s ≤ 200000000
unfolding offset_limit
limit_le s = go (wide s)
  where
    go : (t : Bool) → elim t [ true ↦ 200000000 | false ↦ 4000000 ] ≤ 200000000
    go true = omega arith
    go false = omega arith

-- the regions pass where the whole check does
pub limits_fields : (s : List ℕ) → check_limits s ≡ Ok tt → each (check_fields s) (regions_of s) ≡ Ok tt
unfolding check_limits
limits_fields s e = (then_fine (each (check_value s) (counters_of s)) _ e).1

module _ (s : List ℕ) (b : Bytes s) (e : each (check_fields s) (regions_of s) ≡ Ok tt) where
  -- no label of a sheet that passed check 4 is 65,535,
  pub label_fits : (i : ℕ) → i < regions_of s → label_at s i < 65535
  unfolding check_fields
  label_fits i h =
      let f = (then_fine (demand (ltb (label_at s i) 65535) (at Field (region_place s i))) _ (each_fine (check_fields s) (regions_of s) e i h)).0 in
      ltb-true (label_at s i) 65535 (demand_fine (ltb (label_at s i) 65535) (at Field (region_place s i)) f)

  -- every move of it is within its limits,
  pub moves_fit : (i a : ℕ) → i < regions_of s → a < actions_of s → MoveFits (counters_of s) (move_at s i a)
  unfolding move_at check_fields
  moves_fit i a h k =
      let f = (then_fine (demand (ltb (label_at s i) 65535) (at Field (region_place s i))) _ (each_fine (check_fields s) (regions_of s) e i h)).1 in
      let g = (then_fine (each (check_bound s i) (counters_of s)) _ f).1 in
      move_fits (counters_of s) (offset_limit s) (move_part s i a) (move_place s i a) (limit_le s) (bytes_drop s (move_place s i a) b)
      (each_fine (λ a. check_move (counters_of s) (offset_limit s) (move_part s i a) (move_place s i a)) (actions_of s) g a k)

  -- and so is every range.
  pub range_fits : (i v : ℕ) → i < regions_of s → v < counters_of s → RangeFits (range_at s i v)
  unfolding check_fields check_bound
  range_fits i v h k =
      let f = (then_fine (demand (ltb (label_at s i) 65535) (at Field (region_place s i))) _ (each_fine (check_fields s) (regions_of s) e i h)).1 in
      let g = (then_fine (each (check_bound s i) (counters_of s)) _ f).0 in
      let (l, r) = then_fine (demand (near value_limit (range_at s i v).low) (at Field (low_place s i v))) _ (each_fine (check_bound s i) (counters_of s) g v k) in
      let (u, o) = then_fine (demand (near value_limit (range_at s i v).high) (at Field (high_place s i v))) _ r in
      record {
        ordered = (le_z_le (range_at s i v).low (range_at s i v).high).0 (true_is _ (demand_fine _ (at Field _) o));
        low_fits = near_within value_limit (range_at s i v).low (demand_fine _ (at Field (low_place s i v)) l);
        high_fits = near_within value_limit (range_at s i v).high (demand_fine _ (at Field (high_place s i v)) u);
      }
