-- What a sheet that passed checks 1 to 3 is like: its counts are within limits, and every field lies within its length.
use Rattle.std.specs.Prelude.{◌≡◌, refl, Bool, true, false, List, ℕ, ◌+◌, ◌*◌, ◌≤◌, ◌<◌, length}
use Rattle.std.proofs.Common.{inl, inr, mul-le-mul, mul-le-mul_right, mul-le-mul_left, le_trans, arith}
use Rattle.sheet_rules.specs.Layout.{counters_of, actions_of, regions_of, wide, bound_size, offset_limit, move_size, region_size, place_by, start_place, region_place, low_place, high_place, move_place, rule_place}
use Rattle.sheet_rules.specs.Shape.{Shaped, TwoOrFour}

pub two_or_four : (s : List ℕ) → TwoOrFour (bound_size s)
unfolding bound_size
two_or_four s = go (wide s)
  where
    go : (b : Bool) → TwoOrFour (elim b [ true ↦ 4 | false ↦ 2 ])
    go true = inr refl
    go false = inl refl

-- what the version decides
pub size_wide : (s : List ℕ) → wide s ≡ true → 4 ≡ bound_size s
unfolding bound_size
size_wide s e = rw (e, bound_size) refl

pub size_narrow : (s : List ℕ) → wide s ≡ false → 2 ≡ bound_size s
unfolding bound_size
size_narrow s e = rw (e, bound_size) refl

pub limit_wide : (s : List ℕ) → wide s ≡ true → 200000000 ≡ offset_limit s
unfolding offset_limit
limit_wide s e = rw (e, offset_limit) refl

pub limit_narrow : (s : List ℕ) → wide s ≡ false → 4000000 ≡ offset_limit s
unfolding offset_limit
limit_narrow s e = rw (e, offset_limit) refl

pub width_few : (n : ℕ) → TwoOrFour n → (2 ≤ n) × (n ≤ 4)
width_few n (inl e) = (omega arith, omega arith)
width_few n (inr e) = (omega arith, omega arith)

-- products that the places are made of, each with its bound
pub move_size_le : (V# : ℕ) → V# ≤ 3 → move_size V# ≤ 23
unfolding move_size
move_size_le V# h = omega arith

rows_le : (a A# m : ℕ) → a < A# → a * m + m ≤ A# * m
rows_le a A# m h = omega (arith, mul-le-mul_right m h)

pub moves_le : (V# A# : ℕ) → V# ≤ 3 → A# ≤ 8 → A# * move_size V# ≤ 184
moves_le V# A# h k = le_trans (mul-le-mul_left A# (move_size_le V# h)) (omega arith)

pub bounds_le : (n V# : ℕ) → V# ≤ 3 → n * V# ≤ 3 * n
bounds_le n V# h = omega (arith, mul-le-mul_left n h)

pub region_size_le : (n V# A# : ℕ) → V# ≤ 3 → A# ≤ 8 → region_size n V# A# ≤ 187 + 6 * n
unfolding region_size
region_size_le n V# A# h k = omega (arith, moves_le V# A# h k, bounds_le n V# h)

pub regions_le : (n V# A# R# : ℕ) → V# ≤ 3 → A# ≤ 8 → R# ≤ 32 → R# * region_size n V# A# ≤ 5984 + 192 * n
regions_le n V# A# R# h k l = omega (arith, mul-le-mul {n₁ = R#} {m₁ = region_size n V# A#} {n₂ = 32} {m₂ = 187 + 6 * n} l (region_size_le n V# A# h k))

module _ (s : List ℕ) (S : Shaped s) where
  -- region i lies within the sheet
  pub region_end : (i : ℕ) → i < regions_of s → region_place s i + region_size (bound_size s) (counters_of s) (actions_of s) ≤ length s
  unfolding region_place
  region_end i h =
      omega (arith, rows_le i (regions_of s) (region_size (bound_size s) (counters_of s) (actions_of s)) h, S.length_right)

  -- the longest sheet has 5,993 bytes and 195 for each byte of a bound: 6,383 in version 1,
  pub length_by : length s ≤ 5993 + 195 * bound_size s
  unfolding region_place
  length_by =
      omega
      (arith, S.length_right, bounds_le (bound_size s) (counters_of s) S.counters_few, regions_le (bound_size s) (counters_of s) (actions_of s) (regions_of s) S.counters_few S.actions_few S.regions_few)

  -- and 6,773 in version 2, so in all.
  pub length_le : length s ≤ 6773
  length_le = omega (arith, length_by, width_few (bound_size s) (two_or_four s))

  -- the header and the start value of counter v
  pub header_end : 9 + bound_size s * counters_of s ≤ length s
  unfolding region_place
  header_end = omega (arith, S.length_right)

  pub start_end : (v : ℕ) → v < counters_of s → start_place s v + bound_size s ≤ length s
  unfolding start_place
  start_end v h = omega (arith, header_end, rows_le v (counters_of s) (bound_size s) h)

  -- the bounds of counter v
  pub bound_end : (i v : ℕ) → i < regions_of s → v < counters_of s → high_place s i v + bound_size s ≤ length s
  unfolding low_place high_place region_size
  bound_end i v h k = omega (arith, region_end i h, rows_le v (counters_of s) (bound_size s) k)

  -- the move record of action a
  pub move_end : (i a : ℕ) → i < regions_of s → a < actions_of s → move_place s i a + move_size (counters_of s) ≤ length s
  unfolding move_place region_size
  move_end i a h k = omega (arith, region_end i h, rows_le a (actions_of s) (move_size (counters_of s)) k)

-- Both are the lengths that counts at their limits ask for.
pub longest : (place_by 2 3 8 32 ≡ 6383) × (place_by 4 3 8 32 ≡ 6773)
unfolding region_size move_size
longest = (refl, refl)

-- the rule of counter v lies within its move record
pub rule_end : (V# v : ℕ) → v < V# → rule_place v + 7 ≤ move_size V#
unfolding rule_place move_size
rule_end V# v h = omega arith
