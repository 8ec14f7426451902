-- What version 1 keeps: its layout and its limits are those that it had before there was a version 2, and so is every answer of check 4.
use Rattle.std.specs.Prelude.{◌≡◌, refl, true, false, List, ℕ, ◌+◌, ◌*◌, ltb, Ok}
use Rattle.std.proofs.Math.Path.{sym, ap}
use Rattle.std.proofs.Common.{subst, ◌∙◌, arith}
use Rattle.std.proofs.Math.Dec.{eqb}
use Rattle.std.specs.Int.Signed.{le_z}
use Rattle.integers.proofs.Order.{ints}
use Rattle.integers.specs.LittleEndian.{Bytes, Holds, signed_at}
use Rattle.integers.proofs.LittleEndian.{signed_held}
use Rattle.integers.specs.Range.{near}
use Rattle.integers.proofs.RangeLaws.{contains_le}
use Rattle.systems.proofs.Laws.{is_true, run_ext}
use Rattle.answer_rules.specs.declared.Reason.TheVariants.{Field}
use Rattle.answer_rules.specs.Refusal.{Checked, at}
use Rattle.answer_rules.specs.Stages.{and_then, demand, each}
use Rattle.answer_rules.proofs.Stages.{each_all, passed, demand_passed}
use Rattle.sheet_rules.specs.Layout.{version_of, wide, bound_size, offset_limit, move_size, region_size, place_by, counters_of, actions_of, regions_of, start_place, start_value, region_place, label_at, low_place, high_place, move_place, move_part}
use Rattle.sheet_rules.specs.Decode.{range_at}
use Rattle.sheet_rules.proofs.Shape.{size_narrow, limit_narrow}
use Rattle.sheet_rules.specs.Form.{value_limit, check_value, check_bound, check_move, check_fields, check_limits}
use Rattle.sheet_rules.specs.Version1.{former_fields}

module _ (s : List ℕ) (B : Bytes s) (e : version_of s ≡ 1) where
  narrow : wide s ≡ false
  unfolding wide
  narrow = ap (λ (v : ℕ). eqb v 2) e

  -- a bound or a start value takes 2 bytes,
  pub width_kept : bound_size s ≡ 2
  width_kept = sym (size_narrow s narrow)

  -- so that regions begin where they began,
  pub place_kept : (i : ℕ) → region_place s i ≡ 9 + 2 * counters_of s + i * (3 + 4 * counters_of s + actions_of s * (2 + 7 * counters_of s))
  unfolding region_place region_size move_size
  place_kept i = ap (λ (n : ℕ). place_by n (counters_of s) (actions_of s) i) width_kept

  -- no check of it refuses,
  number_near : (at : ℕ) → near value_limit (signed_at (bound_size s) s at) ≡ true
  number_near at = subst (λ (n : ℕ). near value_limit (signed_at n s at) ≡ true) (sym width_kept) (held (signed_held 2 s at (omega arith) B))
    where
      held : Holds 2 (signed_at 2 s at) → near value_limit (signed_at 2 s at) ≡ true
      held h = is_true _ ((contains_le _ (signed_at 2 s at)).1 (omega (ints, h.above), omega (ints, h.below)))

  value_passes : (v : ℕ) → check_value s v ≡ Ok tt
  unfolding check_value start_value
  value_passes v = sym (demand_passed _ (at Field (start_place s v)) (number_near (start_place s v)))

  bound_kept : (i v : ℕ) → check_bound s i v ≡ demand (le_z (range_at s i v).low (range_at s i v).high) (at Field (high_place s i v))
  unfolding check_bound range_at
  bound_kept i v =
      sym
      (passed (sym (demand_passed _ (at Field (low_place s i v)) (number_near (low_place s i v))))
      (passed (sym (demand_passed _ (at Field (high_place s i v)) (number_near (high_place s i v)))) refl))

  fields_kept : (i : ℕ) → check_fields s i ≡ former_fields s i
  unfolding check_fields former_fields
  fields_kept i =
      ap (λ (c : Checked). and_then (demand (ltb (label_at s i) 65535) (at Field (region_place s i))) (and_then c (each (λ a. check_move (counters_of s) (offset_limit s) (move_part s i a) (move_place s i a)) (actions_of s))))
      (run_ext (Ok tt) and_then (check_bound s i) (λ v. demand (le_z (range_at s i v).low (range_at s i v).high) (at Field (high_place s i v))) (counters_of s) (λ v h. bound_kept i v))
      ∙ ap (λ (n : ℕ). and_then (demand (ltb (label_at s i) 65535) (at Field (region_place s i)))
      (and_then (each (λ v. demand (le_z (range_at s i v).low (range_at s i v).high) (at Field (high_place s i v))) (counters_of s))
      (each (λ a. check_move (counters_of s) n (move_part s i a) (move_place s i a)) (actions_of s)))) (sym (limit_narrow s narrow))

  -- and check 4 answers what it answered.
  pub limits_kept : check_limits s ≡ each (former_fields s) (regions_of s)
  unfolding check_limits
  limits_kept =
      sym
      (passed (each_all (check_value s) (counters_of s) (λ v h. value_passes v))
      (sym (run_ext (Ok tt) and_then (check_fields s) (former_fields s) (regions_of s) (λ i h. fields_kept i))))
