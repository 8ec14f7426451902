-- Laws by which the code finds a width that no range of a sheet exceeds, the doublings that fill it, and the depth.
use Rattle.std.specs.Prelude.{◌≡◌, Bool, true, List, ℕ, zero, suc, ◌+◌, ◌*◌, ◌^◌, ◌≤◌, ◌<◌, max}
use Rattle.std.proofs.Math.Path.{sym, ap, subst}
use Rattle.std.proofs.Common.{◌∙◌, ⊎_elim, arith, add-one, mul-le-mul_left, mul-le-mul_right, le_trans}
use Rattle.std.proofs.Math.Nat.{two-pow-succ, pow-le-pow_right}
use Rattle.std.proofs.Math.Decide.{dec_lt}
use Rattle.integers.proofs.Order.{ints}
use Rattle.integers.specs.declared.Range.{Range}
use Rattle.integers.specs.Range.{size, vacant, RangeWithin}
use Rattle.integers.proofs.RangeLaws.{size_some, size_none, within_size}
use Rattle.systems.proofs.Laws.{told, true_is}
use Rattle.model.specs.Sheet.{Sheet, Region, nowhere, region_at, Each, each_none, each_more, RangeFits, WellFormed}
use Rattle.model.proofs.Classes.{each_at}
use Rattle.depth_rules.specs.DepthBound.{Doublings, unit_factors, narrow_ranges, depth_bound}
use Rattle.sheet_bytes.specs.declared.Shape.{Shape}
use Rattle.sheet_bytes.specs.declared.Ranges.{Ranges}
use Rattle.sheet_bytes.specs.declared.RegionBox.{RegionBox}
use Rattle.sheet_rules.specs.Layout.{counters_of, regions_of}
use Rattle.sheet_rules.specs.Decode as Decode
use Rattle.sheet_rules.specs.Decode.{decode, listed, range_at}
use Rattle.sheet_bytes.specs.Three.{Read, firsts, padded, zero_range, box_three, firsts_padded}
use Rattle.sheet_bytes.specs.Bounds.{RangesWithin, box_within}
use Rattle.sheet_rules.proofs.Listed.{each_of}
use Rattle.depth_bound.specs.Depth.{UnitFactors, NarrowRegion, NarrowRanges, widened, exact_depth, Tells}
use Rattle.depth_bound.specs.Factors.{region_is, regions_count, below_more}

-- a property of each element of a list, and one that follows from it
each_map : {A : Type 0} {P Q : A → Type 0} {l : List A} → ((a : A) → P a → Q a) → Each P l → Each Q l
each_map f each_none = each_none
each_map f (each_more {a = a} p e) = each_more (f a p) (each_map f e)

-- a property of three is one of the first n
firsts_each : {A : Type 0} (P : A → Type 0) (x y z : A) (n : ℕ) → n ≤ 3 → P x → P y → P z → Each P (firsts n x y z)
unfolding firsts
firsts_each P x y z zero h p q r = each_none
firsts_each P x y z (suc zero) h p q r = each_more p each_none
firsts_each P x y z (suc (suc zero)) h p q r = each_more p (each_more q each_none)
firsts_each P x y z (suc (suc (suc zero))) h p q r = each_more p (each_more q (each_more r each_none))
firsts_each P x y z (suc (suc (suc (suc n)))) h p q r = absurd (omega arith)

-- how many values a range within bounds can have
size_le : (r : Range) → RangeWithin 1000000 r → size r ≤ 2000001
unfolding vacant
size_le r w =
    let l = within_size w.low_within in
    let h = within_size w.high_within in
    ⊎_elim (λ e. omega (arith, size_none r (true_is (vacant r) e))) (λ e. omega (arith, size_some r (omega (ints, e)))) (told (vacant r))

pub widened_le : (w : ℕ) (b : Ranges) → w ≤ 2000001 → RangesWithin 1000000 b → widened w b ≤ 2000001
unfolding widened
widened_le w b h R = omega (arith, size_le b.first R.first_within, size_le b.second R.second_within, size_le b.third R.third_within)

pub widened_parts : (w : ℕ) (b : Ranges) {x y z : ℕ} → x ≡ max w (size b.first) → y ≡ max x (size b.second) → z ≡ max y (size b.third) → z ≡ widened w b
unfolding widened
widened_parts w b e f g = cc

-- what is narrow is narrow by a larger width
narrow_wider : (s : Sheet) {w w' : ℕ} (i : ℕ) → w ≤ w' → NarrowRegion s w i → NarrowRegion s w' i
narrow_wider s i h e = each_map (λ r k. omega arith) e

module _ {s : List ℕ} {shape : Shape} (R : Read s shape) where
  ranges_are : (i : ℕ) → i < regions_of s → (region_at (decode s) i).box.ranges ≡ listed (range_at s i) (counters_of s)
  unfolding Decode.region_at Decode.box_at
  ranges_are i h = ap (λ (r : Region). r.box.ranges) (region_is R i h)

  -- the box that the code reads is within bounds
  pub box_fits : WellFormed (decode s) → (i : ℕ) → i < regions_of s → {b : RegionBox} → b ≡ box_three s i → RangesWithin 1000000 b.ranges
  box_fits W i h e =
      let F = subst (Each RangeFits) (ranges_are i h) (each_at W.regions_fit i nowhere (omega (arith, regions_count R, R.regions_are))).ranges_fit in
      subst (λ (b : RegionBox). RangesWithin 1000000 b.ranges) (sym e)
      (box_within s i (λ v k. let f = each_of (range_at s i) (counters_of s) F v k in record { low_within = f.low_fits; high_within = f.high_fits }))

  -- the region whose box made the width wider
  widened_narrow : (w i : ℕ) → i < regions_of s → NarrowRegion (decode s) (widened w (box_three s i).ranges) i
  unfolding box_three widened
  widened_narrow w i h =
      subst (Each (λ r. size r ≤ widened w (box_three s i).ranges))
      (firsts_padded zero_range (range_at s i) (counters_of s) R.shaped.counters_few ∙ sym (ranges_are i h))
      (firsts_each (λ r. size r ≤ widened w (box_three s i).ranges) (padded zero_range (range_at s i) (counters_of s) 0) (padded zero_range (range_at s i) (counters_of s) 1)
      (padded zero_range (range_at s i) (counters_of s) 2) (counters_of s) R.shaped.counters_few (omega arith) (omega arith) (omega arith))

  -- the regions below i + 1 are no wider than the width made wider by region i
  pub narrow_more : (w i : ℕ) {b : RegionBox} {w' : ℕ} → i < regions_of s → b ≡ box_three s i → w' ≡ widened w b.ranges
      → ((k : ℕ) → k < i → NarrowRegion (decode s) w k) → (k : ℕ) → k < i + 1 → NarrowRegion (decode s) w' k
  unfolding widened
  narrow_more w i {b} {w'} h e f N =
      below_more i (λ k l. narrow_wider (decode s) k (omega arith) (N k l))
      (subst (λ (z : ℕ). NarrowRegion (decode s) z i) (sym (f ∙ ap (λ (q : RegionBox). widened w q.ranges) e)) (widened_narrow w i h))

  pub narrow_all : (w n : ℕ) → shape.regions ≤ n → ((k : ℕ) → k < n → NarrowRegion (decode s) w k) → NarrowRanges (decode s) w
  narrow_all w n h N k l = N k (omega (arith, regions_count R))

-- 21 doublings fill every range
pub doublings_few : (m reach : ℕ) → reach ≡ 2 ^ m → reach < 2000001 → m < 21
doublings_few m reach e h = go (dec_lt m 21)
  where
    go : Dec (m < 21) → m < 21
    go (yes l) = l
    go (no n) = absurd (omega (arith, pow-le-pow_right {n = 2} (omega arith) {i = 21} {j = m} (omega (arith, n))))

pub reach_more : (m reach : ℕ) → reach ≡ 2 ^ m → reach * 2 ≡ 2 ^ (m + 1)
reach_more m reach e = ap (λ (z : ℕ). z * 2) e ∙ (omega (arith, two-pow-succ m, ap (λ (z : ℕ). 2 ^ z) (add-one m)))

-- how often a number can be doubled, by the factors and by the ranges
pub doublings_none : {s : Sheet} {t : Bool} → Tells (UnitFactors s) t → t ≡ true → Doublings s 0
doublings_none T e = unit_factors (T.yes e)

pub doublings_some : {s : Sheet} {w m : ℕ} → NarrowRanges s w → w ≤ 2 ^ m → Doublings s m
doublings_some {s} N h = narrow_ranges (λ i l. narrow_wider s i h (N i l))

-- the depth
pub depth_fits : (V# n m : ℕ) → V# ≤ 3 → n ≤ 255 → m ≤ 21 → (n * V# ≤ 765) × (n * V# * 2 * (m + 1) ≤ 33660)
depth_fits V# n m h k l =
    let a : n * V# ≤ 765 = le_trans (mul-le-mul_right V# k) (le_trans (mul-le-mul_left 255 h) (omega arith)) in
    let b : n * V# * 2 ≤ 1530 = omega arith in
    let c : m + 1 ≤ 22 = omega arith in
    (a, le_trans (mul-le-mul_right (m + 1) b) (le_trans (mul-le-mul_left 1530 c) (omega arith)))

pub depth_small : (V# n m : ℕ) → n * V# * 2 * (m + 1) < 255 → 255 ≡ exact_depth V# n m
unfolding exact_depth depth_bound
depth_small V# n m h = omega arith

pub depth_large : (V# n m : ℕ) → 255 ≤ n * V# * 2 * (m + 1) → n * V# * 2 * (m + 1) ≡ exact_depth V# n m
unfolding exact_depth depth_bound
depth_large V# n m h = omega arith

-- for callers: it is at least 255, and at least the depth at which boxes are exact
pub depth_least : (V# n m : ℕ) → 255 ≤ exact_depth V# n m
unfolding exact_depth
depth_least V# n m = omega arith

pub depth_enough : (V# n m : ℕ) → depth_bound V# n m ≤ exact_depth V# n m
unfolding exact_depth
depth_enough V# n m = omega arith
