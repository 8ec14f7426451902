-- Laws by which the readers of a sheet's fields meet their definitions.
use Rattle.std.specs.Prelude.{◌≡◌, List, ℕ, ◌+◌, ◌*◌, ◌-◌, ◌≤◌, ◌<◌, length, take, drop, ℤ, pos, Option, None, Some}
use Rattle.std.proofs.Common.{sym, subst, ◌∙◌, inl, inr, mul-le-mul_left, length-drop, take_all, eq-eqb, ne_eqb}
use Rattle.std.proofs.Math.Path.{ap}
use native.Mathlib.Omega.{arith}
use Rattle.std.proofs.Math.ListN.{get_or}
use Rattle.integers.specs.declared.Range.{Range}
use Rattle.integers.specs.LittleEndian.{signed_at}
use Rattle.model.specs.declared.Rule.{Rule}
use Rattle.model.specs.declared.Rule.TheVariants.{Set, Carry}
use Rattle.sheet_bytes.specs.declared.Shape.{Shape}
use Rattle.sheet_bytes.specs.declared.RegionBox.{RegionBox}
use Rattle.sheet_bytes.specs.declared.Config.{Config}
use Rattle.sheet_bytes.specs.declared.RegionMove.{RegionMove}
use Rattle.sheet_rules.specs.Layout.{counters_of, actions_of, regions_of, bound_size, move_size, region_size, place_by, region_place, move_place, move_part, low_place, high_place, rule_place, start_state, start_place, start_value, state_at, kind_of, source_of, factor_of, offset_of}
use Rattle.sheet_rules.specs.Decode.{range_at, rule_of, rule_at}
use Rattle.sheet_rules.specs.Shape.{TwoOrFour}
use Rattle.sheet_rules.proofs.Shape.{two_or_four, width_few, bounds_le, move_size_le, moves_le, regions_le, region_end, start_end, bound_end, move_end, header_end, length_le, rule_end}
use Rattle.sheet_bytes.specs.Three.{Read, padded, padded_in, padded_out, zero_range, zero_rule, box_three, start_padded, start_three, open_three, move_three}

-- a shape within the limits of the counts: places made of it are small
pub record Small (shape : Shape) : Type 0 where
  pub counters_small : shape.counters ≤ 3
  pub actions_small : shape.actions ≤ 8
  pub regions_small : shape.regions ≤ 32
  pub width_small : shape.width ≤ 4

module _ {shape : Shape} (F : Small shape) where
  pub pairs_small : shape.width * shape.counters ≤ 12
  pairs_small = omega (arith, bounds_le shape.width shape.counters F.counters_small, F.width_small)

  pub moves_small : shape.actions * move_size shape.counters ≤ 184
  moves_small = moves_le shape.counters shape.actions F.counters_small F.actions_small

  pub rows_small : (i z : ℕ) → i ≤ shape.regions → z ≡ region_size shape.width shape.counters shape.actions → i * z ≤ 6752
  rows_small i z h e =
      let m = ap (λ (k : ℕ). i * k) e in
      omega (arith, regions_le shape.width shape.counters shape.actions i F.counters_small F.actions_small (omega (arith, F.regions_small)), F.width_small)

module _ {s : List ℕ} {shape : Shape} (R : Read s shape) where
  pub counters_limit : shape.counters ≤ 3
  counters_limit = omega (arith, R.shaped.counters_few, R.counters_are)

  pub actions_limit : shape.actions ≤ 8
  actions_limit = omega (arith, R.shaped.actions_few, R.actions_are)

  pub regions_limit : shape.regions ≤ 32
  regions_limit = omega (arith, R.shaped.regions_few, R.regions_are)

  pub width_right : TwoOrFour shape.width
  width_right = subst TwoOrFour (sym R.width_is) (two_or_four s)

  pub width_limit : (2 ≤ shape.width) × (shape.width ≤ 4)
  width_limit = width_few shape.width width_right

  pub small : Small shape
  small = record { counters_small = counters_limit; actions_small = actions_limit; regions_small = regions_limit; width_small = width_limit.1 }

  -- region i starts where the code says
  pub region_read : (i p : ℕ) → p ≡ place_by shape.width shape.counters shape.actions i → p ≡ region_place s i
  unfolding region_place
  region_read i p e =
      e
      ∙ ap (λ (n : ℕ). place_by n shape.counters shape.actions i) R.width_is
      ∙ ap (λ (n : ℕ). place_by (bound_size s) n shape.actions i) R.counters_are
      ∙ ap (λ (n : ℕ). place_by (bound_size s) (counters_of s) n i) R.actions_are

  -- the bounds of counter v stand where the code says, and lie within the sheet
  pub pairs_limit : (v : ℕ) → v < counters_of s → shape.width * v ≤ 12
  pairs_limit v h = omega (arith, bounds_le shape.width v (omega (arith, R.shaped.counters_few)), width_limit.1)

  pub low_read : (i v p : ℕ) → p ≡ region_place s i → p + 3 + 2 * shape.width * v ≡ low_place s i v
  unfolding low_place
  low_read i v p e =
      let m = ap (λ (k : ℕ). k * v) R.width_is in
      omega arith

  pub low_within : (i v : ℕ) → i < regions_of s → v < counters_of s → low_place s i v + 2 * shape.width ≤ length s
  unfolding high_place
  low_within i v h k =
      omega (arith, R.width_is, bound_end s R.shaped i v h k)

  pub sheet_short : length s ≤ 6773
  sheet_short = length_le s R.shaped

  pub region_within : (i p : ℕ) → i < regions_of s → p ≡ region_place s i → p + 3 + 2 * shape.width * shape.counters ≤ length s
  unfolding region_size
  region_within i p h e =
      let a = ap (λ (k : ℕ). k * shape.counters) R.width_is in
      let b = ap (λ (k : ℕ). bound_size s * k) R.counters_are in
      omega (arith, region_end s R.shaped i h)

  -- the move record of action a stands where the code says, and lies within the sheet
  pub move_rows : (a m : ℕ) → a < actions_of s → m ≡ move_size shape.counters → a * m ≤ 184
  move_rows a m h e =
      let k : m ≤ 23 = omega (arith, move_size_le shape.counters counters_limit) in
      let l = mul-le-mul_left a k in
      omega (arith, R.shaped.actions_few)

  pub move_read : (i a p m : ℕ) → p ≡ region_place s i → m ≡ move_size shape.counters → p + 3 + 2 * shape.width * shape.counters + a * m ≡ move_place s i a
  unfolding move_place
  move_read i a p m e d =
      let b = R.counters_are in
      let f : m ≡ move_size (counters_of s) = cc in
      let l = ap (λ (k : ℕ). a * k) f in
      let g = ap (λ (k : ℕ). k * shape.counters) R.width_is in
      let h = ap (λ (k : ℕ). bound_size s * k) b in
      omega arith

  pub move_within : (i a p : ℕ) → i < regions_of s → a < actions_of s → p ≡ move_place s i a → p + move_size shape.counters ≤ length s
  move_within i a p h k e =
      let b = R.counters_are in
      let f : move_size shape.counters ≡ move_size (counters_of s) = cc in
      omega (arith, move_end s R.shaped i a h k)

  -- the start's values stand where the code says, and lie within the sheet
  pub start_place_lem : (v : ℕ) → 9 + shape.width * v ≡ start_place s v
  unfolding start_place
  start_place_lem v = ap (λ (k : ℕ). 9 + k * v) R.width_is

  pub start_within : (v : ℕ) → v < counters_of s → start_place s v + shape.width ≤ length s
  start_within v h = omega (arith, R.width_is, start_end s R.shaped v h)

  pub header_within : 9 ≤ length s
  header_within = omega (arith, header_end s R.shaped)

  -- what was read is what the definitions name
  pub range_read : (i v p : ℕ) (l h : ℤ) → p ≡ low_place s i v → l ≡ signed_at shape.width s p → h ≡ signed_at shape.width s (p + shape.width)
      → ◌≡◌ {A = Range} (record { low = l; high = h }) (range_at s i v)
  unfolding range_at high_place
  range_read i v p l h e a b =
      let w = R.width_is in
      let c : l ≡ signed_at (bound_size s) s (low_place s i v) = cc in
      let d : h ≡ signed_at (bound_size s) s (low_place s i v + bound_size s) = cc in
      λ j. record { low = c j; high = d j }

  pub start_value_lem : (v p : ℕ) (z : ℤ) → p ≡ start_place s v → z ≡ signed_at shape.width s p → z ≡ start_value s v
  unfolding start_value
  start_value_lem v p z d e = e ∙ ap (signed_at shape.width s) d ∙ ap (λ (n : ℕ). signed_at n s (start_place s v)) R.width_is

  pub start_in : (v : ℕ) (z : ℤ) → v < shape.counters → z ≡ start_value s v → z ≡ start_padded s v
  start_in v z h e = e ∙ sym (padded_in (pos 0) (start_value s) (counters_of s) v (omega (arith, R.counters_are)))

  pub start_out : (v : ℕ) → shape.counters ≤ v → pos 0 ≡ start_padded s v
  start_out v h = sym (padded_out (pos 0) (start_value s) (counters_of s) v (omega (arith, R.counters_are)))

pub box_made : (s : List ℕ) (i : ℕ) {n : ℕ} {a b c : Range} → n ≡ state_at s i
    → a ≡ padded zero_range (range_at s i) (counters_of s) 0
    → b ≡ padded zero_range (range_at s i) (counters_of s) 1
    → c ≡ padded zero_range (range_at s i) (counters_of s) 2
    → ◌≡◌ {A = RegionBox} (record { state = n; ranges = record { first = a; second = b; third = c } }) (box_three s i)
unfolding box_three
box_made s i d e f g = λ j. record { state = d j; ranges = record { first = e j; second = f j; third = g j } }

pub start_read : (s : List ℕ) (a b c : ℤ) → a ≡ start_padded s 0 → b ≡ start_padded s 1 → c ≡ start_padded s 2
    → ◌≡◌ {A = Config} (record { state = start_state s; values = record { first = a; second = b; third = c } }) (start_three s)
unfolding start_three
start_read s a b c e f g = λ j. record { state = start_state s; values = record { first = e j; second = f j; third = g j } }

-- the part of a list from a place to its end
pub rest : (k : ℕ) (p : List ℕ) → take (length p - k) (drop k p) ≡ drop k p
rest k p = take_all (length p - k) (drop k p) (omega (arith, length-drop k p))

pub length_rest : (k n : ℕ) (p : List ℕ) → k + n ≤ length p → n ≤ length (take (length p - k) (drop k p))
length_rest k n p h = rw (rest k p) (omega (arith, length-drop k p))

-- a bound by its width
pub bound_of : (m n : ℕ) (s : List ℕ) (at : ℕ) {z : ℤ} → n ≡ m → z ≡ signed_at m s at → z ≡ signed_at n s at
bound_of m n s at e h = h ∙ ap (λ (k : ℕ). signed_at k s at) (sym e)

pub not_two : (n : ℕ) → TwoOrFour n → (n ≡ 2 → ⊥) → n ≡ 4
not_two n (inl e) h = absurd (h e)
not_two n (inr e) h = e

pub not_four : (n : ℕ) → TwoOrFour n → (n ≡ 4 → ⊥) → n ≡ 2
not_four n (inl e) h = e
not_four n (inr e) h = absurd (h e)

-- a rule by its kind
pub rule_set : (p : List ℕ) (o : ℤ) → kind_of p ≡ 0 → o ≡ signed_at 4 p 3 → Set o ≡ rule_of p
unfolding rule_of offset_of
rule_set p o e f = rw (eq-eqb (kind_of p) 0 e, rule_of) (ap {B = Rule} Set f)

pub rule_carry : (p : List ℕ) (f o : ℤ) → (kind_of p ≡ 0 → ⊥) → f ≡ signed_at 1 p 2 → o ≡ signed_at 4 p 3 → Carry (source_of p) f o ≡ rule_of p
unfolding rule_of offset_of factor_of
rule_carry p f o e g h = rw (ne_eqb (kind_of p) 0 e, rule_of) cc

pub rule_within : (V# v n : ℕ) → v < V# → move_size V# ≤ n → 2 + 7 * v + 7 ≤ n
unfolding rule_place
rule_within V# v n h k = omega (arith, rule_end V# v h)

pub rule_in : (V# v : ℕ) (p : List ℕ) (r : Rule) → v < V# → r ≡ rule_of (take (length p - (2 + 7 * v)) (drop (2 + 7 * v) p)) → r ≡ padded zero_rule (rule_at p) V# v
unfolding rule_place
rule_in V# v p r h e = e ∙ ap rule_of (rest (2 + 7 * v) p) ∙ sym (padded_in zero_rule (rule_at p) V# v h)

-- a move by its kind
pub move_barred : (V# : ℕ) (p : List ℕ) → kind_of p ≡ 0 → None ≡ move_three V# p
unfolding move_three
move_barred V# p e = rw (eq-eqb (kind_of p) 0 e, move_three)

pub move_some : (V# n : ℕ) → move_size V# ≤ n → 2 ≤ n
unfolding move_size
move_some V# n h = omega arith

pub move_made : (V# : ℕ) (p : List ℕ) (a b c : Rule) → (kind_of p ≡ 0 → ⊥)
    → a ≡ padded zero_rule (rule_at p) V# 0 → b ≡ padded zero_rule (rule_at p) V# 1 → c ≡ padded zero_rule (rule_at p) V# 2
    → Some (record { target = get_or p 1 0; rules = record { first = a; second = b; third = c } }) ≡ move_three V# p
unfolding move_three
move_made V# p a b c d e f g =
    let m : ◌≡◌ {A = RegionMove} (record { target = get_or p 1 0; rules = record { first = a; second = b; third = c } }) (open_three V# p) =
    λ j. record { target = get_or p 1 0; rules = record { first = e j; second = f j; third = g j } } in
    rw (ne_eqb (kind_of p) 0 d, move_three) (ap {B = Option RegionMove} Some m)

-- the part of the sheet that starts with a move record
pub part_of : (s : List ℕ) (i a : ℕ) {p : ℕ} → p ≡ move_place s i a → take (length s - p) (drop p s) ≡ move_part s i a
part_of s i a {p} e = rest p s ∙ ap (λ (k : ℕ). drop k s) e

module _ {s : List ℕ} {shape : Shape} (R : Read s shape) where
  pub part_whole : {n : ℕ} → move_size (counters_of s) ≤ n → move_size shape.counters ≤ n
  part_whole {n} h = subst (λ (k : ℕ). move_size k ≤ n) (sym R.counters_are) h

  -- the code reads the move record from that part
  pub part_read : (i a : ℕ) {part : List ℕ} {m : Option RegionMove} → part ≡ move_part s i a → m ≡ move_three shape.counters part → m ≡ move_three (counters_of s) (move_part s i a)
  part_read i a e d = d ∙ ap (move_three shape.counters) e ∙ ap (λ (k : ℕ). move_three k (move_part s i a)) R.counters_are
