-- The refinement's table in flat arrays: for each row nine cells (three values, then three ranges, each low and high) and two homes (the number of the region
-- of its representative, and its state); for each action a target and a flag of each of the 255 rows; and lower bounds, first how deep each row is, then where
-- the sources of each begin, and two of the rows with a flag up.
use Rattle.std.specs.Prelude.{◌≡◌, List, ℕ, ◌+◌, ◌*◌, ◌≤◌, ◌<◌, length, get_or, ℤ, pos}
use Rattle.std.proofs.Common.{◌∙◌, arith}
use Rattle.std.proofs.Math.ListN.{set, length-set}
use Rattle.std.proofs.Math.Seq.{get_or-set_same, get_or-set_other}
use Rattle.integers.specs.declared.Range.{Range}
use Rattle.sheet_bytes.specs.declared.Ranges.{Ranges}
use Rattle.sheet_bytes.specs.declared.RegionBox.{RegionBox}
use Rattle.sheet_bytes.specs.declared.Values.{Values}
use Rattle.sheet_bytes.specs.declared.Config.{Config}
use Rattle.table_rules.specs.Arrays.{range_in, values_in, ranges_in, region_in, state_in, config_in, box_in, put_range, put_ranges, put_values, put_home}

pub put_range_length : (c : List ℤ) (at : ℕ) (r : Range) → length (put_range c at r) ≡ length c
unfolding put_range
put_range_length c at r = simp length-set

pub put_ranges_length : (c : List ℤ) (k : ℕ) (r : Ranges) → length (put_ranges c k r) ≡ length c
unfolding put_ranges
put_ranges_length c k r = simp put_range_length

pub put_values_length : (c : List ℤ) (k : ℕ) (x : Values) → length (put_values c k x) ≡ length c
unfolding put_values
put_values_length c k x = simp length-set

pub put_home_length : (h : List ℕ) (k m n : ℕ) → length (put_home h k m n) ≡ length h
unfolding put_home
put_home_length h k m n = simp length-set

-- a cell other than the two of a stored range
pub range_cell : (c : List ℤ) (at : ℕ) (r : Range) (j : ℕ) → (j ≡ at → ⊥) → (j ≡ at + 1 → ⊥) → get_or (put_range c at r) j (pos 0) ≡ get_or c j (pos 0)
unfolding put_range
range_cell c at r j p q = get_or-set_other (set c at r.low) (at + 1) j r.high (pos 0) q ∙ get_or-set_other c at j r.low (pos 0) p

-- a range stored, and read elsewhere
pub range_other : (c : List ℤ) (at : ℕ) (r : Range) (b : ℕ) → (b ≡ at → ⊥) → (b ≡ at + 1 → ⊥) → (b + 1 ≡ at → ⊥) → range_in (put_range c at r) b ≡ range_in c b
unfolding range_in
range_other c at r b p q o =
    let low = range_cell c at r b p q in
    let high = range_cell c at r (b + 1) o (λ e. p (omega arith)) in
    λ i. record { low = low i; high = high i }

-- and read back
pub range_same : (c : List ℤ) (at : ℕ) (r : Range) → at + 2 ≤ length c → range_in (put_range c at r) at ≡ r
unfolding range_in put_range
range_same c at r h =
    let low = get_or-set_other (set c at r.low) (at + 1) at r.high (pos 0) (λ e. omega arith) ∙ get_or-set_same c at r.low (pos 0) (omega arith) in
    let high = get_or-set_same (set c at r.low) (at + 1) r.high (pos 0) (omega (arith, length-set c at r.low)) in
    λ i. record { low = low i; high = high i }

-- The ranges of row k stored: read back, in another row, and the values.
module _ (c : List ℤ) (i : ℕ) (r : Ranges) where
  pub ranges_same : 9 * i + 9 ≤ length c → ranges_in (put_ranges c i r) i ≡ r
  unfolding ranges_in put_ranges
  ranges_same h =
      let a = put_range c (9 * i + 3) r.first in
      let b = put_range a (9 * i + 5) r.second in
      let la = put_range_length c (9 * i + 3) r.first in
      let lb = put_range_length a (9 * i + 5) r.second in
      let x =
      range_other b (9 * i + 7) r.third (9 * i + 3) (λ e. omega arith) (λ e. omega arith) (λ e. omega arith)
      ∙ range_other a (9 * i + 5) r.second (9 * i + 3) (λ e. omega arith) (λ e. omega arith) (λ e. omega arith)
      ∙ range_same c (9 * i + 3) r.first (omega arith) in
      let y =
      range_other b (9 * i + 7) r.third (9 * i + 5) (λ e. omega arith) (λ e. omega arith) (λ e. omega arith)
      ∙ range_same a (9 * i + 5) r.second (omega arith) in
      let z = range_same b (9 * i + 7) r.third (omega arith) in
      λ t. record { first = x t; second = y t; third = z t }

  away : (b : ℕ) → (9 * i + 3 ≤ b + 1 → b < 9 * i + 9 → ⊥) → range_in (put_ranges c i r) b ≡ range_in c b
  unfolding put_ranges
  away b h =
      let a = put_range c (9 * i + 3) r.first in
      let d = put_range a (9 * i + 5) r.second in
      range_other d (9 * i + 7) r.third b (λ e. h (omega arith) (omega arith)) (λ e. h (omega arith) (omega arith)) (λ e. h (omega arith) (omega arith))
      ∙ range_other a (9 * i + 5) r.second b (λ e. h (omega arith) (omega arith)) (λ e. h (omega arith) (omega arith)) (λ e. h (omega arith) (omega arith))
      ∙ range_other c (9 * i + 3) r.first b (λ e. h (omega arith) (omega arith)) (λ e. h (omega arith) (omega arith)) (λ e. h (omega arith) (omega arith))

  cell : (b : ℕ) → (9 * i + 3 ≤ b → b < 9 * i + 9 → ⊥) → get_or (put_ranges c i r) b (pos 0) ≡ get_or c b (pos 0)
  unfolding put_ranges
  cell b h =
      let a = put_range c (9 * i + 3) r.first in
      let d = put_range a (9 * i + 5) r.second in
      range_cell d (9 * i + 7) r.third b (λ e. h (omega arith) (omega arith)) (λ e. h (omega arith) (omega arith))
      ∙ range_cell a (9 * i + 5) r.second b (λ e. h (omega arith) (omega arith)) (λ e. h (omega arith) (omega arith))
      ∙ range_cell c (9 * i + 3) r.first b (λ e. h (omega arith) (omega arith)) (λ e. h (omega arith) (omega arith))

  pub ranges_other : (k : ℕ) → (k ≡ i → ⊥) → ranges_in (put_ranges c i r) k ≡ ranges_in c k
  unfolding ranges_in
  ranges_other k n =
      let x = away (9 * k + 3) (λ p q. n (omega arith)) in
      let y = away (9 * k + 5) (λ p q. n (omega arith)) in
      let z = away (9 * k + 7) (λ p q. n (omega arith)) in
      λ t. record { first = x t; second = y t; third = z t }

  pub values_kept : (k : ℕ) → values_in (put_ranges c i r) k ≡ values_in c k
  unfolding values_in
  values_kept k =
      let x = cell (9 * k) (λ p q. omega arith) in
      let y = cell (9 * k + 1) (λ p q. omega arith) in
      let z = cell (9 * k + 2) (λ p q. omega arith) in
      λ t. record { first = x t; second = y t; third = z t }

-- The values of row k stored.
module _ (c : List ℤ) (i : ℕ) (x : Values) where
  pub values_same : 9 * i + 9 ≤ length c → values_in (put_values c i x) i ≡ x
  unfolding values_in put_values
  values_same h =
      let a = set c (9 * i) x.first in
      let b = set a (9 * i + 1) x.second in
      let la = length-set c (9 * i) x.first in
      let lb = length-set a (9 * i + 1) x.second in
      let p =
      get_or-set_other b (9 * i + 2) (9 * i) x.third (pos 0) (λ e. omega arith) ∙ get_or-set_other a (9 * i + 1) (9 * i) x.second (pos 0) (λ e. omega arith)
      ∙ get_or-set_same c (9 * i) x.first (pos 0) (omega arith) in
      let q = get_or-set_other b (9 * i + 2) (9 * i + 1) x.third (pos 0) (λ e. omega arith) ∙ get_or-set_same a (9 * i + 1) x.second (pos 0) (omega arith) in
      let r = get_or-set_same b (9 * i + 2) x.third (pos 0) (omega arith) in
      λ t. record { first = p t; second = q t; third = r t }

  kept : (b : ℕ) → (9 * i ≤ b → b < 9 * i + 3 → ⊥) → get_or (put_values c i x) b (pos 0) ≡ get_or c b (pos 0)
  unfolding put_values
  kept b h =
      let a = set c (9 * i) x.first in
      let d = set a (9 * i + 1) x.second in
      get_or-set_other d (9 * i + 2) b x.third (pos 0) (λ e. h (omega arith) (omega arith))
      ∙ get_or-set_other a (9 * i + 1) b x.second (pos 0) (λ e. h (omega arith) (omega arith))
      ∙ get_or-set_other c (9 * i) b x.first (pos 0) (λ e. h (omega arith) (omega arith))

  pub values_other : (k : ℕ) → (k ≡ i → ⊥) → values_in (put_values c i x) k ≡ values_in c k
  unfolding values_in
  values_other k n =
      let p = kept (9 * k) (λ u v. n (omega arith)) in
      let q = kept (9 * k + 1) (λ u v. n (omega arith)) in
      let r = kept (9 * k + 2) (λ u v. n (omega arith)) in
      λ t. record { first = p t; second = q t; third = r t }

  pub ranges_kept : (k : ℕ) → ranges_in (put_values c i x) k ≡ ranges_in c k
  unfolding ranges_in range_in
  ranges_kept k =
      let p = kept (9 * k + 3) (λ u v. omega arith) in
      let p' = kept (9 * k + 3 + 1) (λ u v. omega arith) in
      let q = kept (9 * k + 5) (λ u v. omega arith) in
      let q' = kept (9 * k + 5 + 1) (λ u v. omega arith) in
      let r = kept (9 * k + 7) (λ u v. omega arith) in
      let r' = kept (9 * k + 7 + 1) (λ u v. omega arith) in
      λ t. record {
        first = record { low = p t; high = p' t };
        second = record { low = q t; high = q' t };
        third = record { low = r t; high = r' t };
      }

-- The homes of row i stored.
module _ (h : List ℕ) (i region state : ℕ) where
  pub region_same : 2 * i + 2 ≤ length h → region_in (put_home h i region state) i ≡ region
  unfolding put_home
  region_same l =
      get_or-set_other (set h (2 * i) region) (2 * i + 1) (2 * i) state 0 (λ e. omega arith) ∙ get_or-set_same h (2 * i) region 0 (omega arith)

  pub state_same : 2 * i + 2 ≤ length h → state_in (put_home h i region state) i ≡ state
  unfolding put_home
  state_same l = get_or-set_same (set h (2 * i) region) (2 * i + 1) state 0 (omega (arith, length-set h (2 * i) region))

  pub region_other : (k : ℕ) → (k ≡ i → ⊥) → region_in (put_home h i region state) k ≡ region_in h k
  unfolding put_home
  region_other k n =
      get_or-set_other (set h (2 * i) region) (2 * i + 1) (2 * k) state 0 (λ e. omega arith) ∙ get_or-set_other h (2 * i) (2 * k) region 0 (λ e. n (omega arith))

  pub state_other : (k : ℕ) → (k ≡ i → ⊥) → state_in (put_home h i region state) k ≡ state_in h k
  unfolding put_home
  state_other k n =
      get_or-set_other (set h (2 * i) region) (2 * i + 1) (2 * k + 1) state 0 (λ e. n (omega arith))
      ∙ get_or-set_other h (2 * i) (2 * k + 1) region 0 (λ e. omega arith)

-- what the readers and writers of rows give
pub range_read : (c : List ℤ) (at : ℕ) (l h : ℤ) → l ≡ get_or c at (pos 0) → h ≡ get_or c (at + 1) (pos 0) → ◌≡◌ {A = Range} (record { low = l; high = h }) (range_in c at)
unfolding range_in
range_read c at l h d e = λ i. record { low = d i; high = e i }

pub ranges_read : (c : List ℤ) (k : ℕ) (x y z : Range) → x ≡ range_in c (9 * k + 3) → y ≡ range_in c (9 * k + 5) → z ≡ range_in c (9 * k + 7)
    → ◌≡◌ {A = Ranges} (record { first = x; second = y; third = z }) (ranges_in c k)
unfolding ranges_in
ranges_read c k x y z d e f = λ i. record { first = d i; second = e i; third = f i }

pub box_read : (c : List ℤ) (h : List ℕ) (k : ℕ) (r : Ranges) → r ≡ ranges_in c k → ◌≡◌ {A = RegionBox} (record { state = state_in h k; ranges = r }) (box_in c h k)
box_read c h k r e = λ i. record { state = state_in h k; ranges = e i }

pub config_read : (c : List ℤ) (h : List ℕ) (k : ℕ) (x y z : ℤ) → x ≡ get_or c (9 * k) (pos 0) → y ≡ get_or c (9 * k + 1) (pos 0) → z ≡ get_or c (9 * k + 2) (pos 0)
    → ◌≡◌ {A = Config} (record { state = state_in h k; values = record { first = x; second = y; third = z } }) (config_in c h k)
unfolding values_in
config_read c h k x y z d e f = λ i. record { state = state_in h k; values = record { first = d i; second = e i; third = f i } }

pub range_write : (c : List ℤ) (at : ℕ) (r : Range) (l h : ℤ) → l ≡ r.low → h ≡ r.high → set (set c at l) (at + 1) h ≡ put_range c at r
unfolding put_range
range_write c at r l h d e = λ i. set (set c at (d i)) (at + 1) (e i)

pub ranges_write : (c a b d : List ℤ) (k : ℕ) (r : Ranges) → a ≡ put_range c (9 * k + 3) r.first → b ≡ put_range a (9 * k + 5) r.second
    → d ≡ put_range b (9 * k + 7) r.third → d ≡ put_ranges c k r
unfolding put_ranges
ranges_write c a b d k r e f g = cc

pub values_write : (c : List ℤ) (k : ℕ) (r : Values) (x y z : ℤ) → x ≡ r.first → y ≡ r.second → z ≡ r.third
    → set (set (set c (9 * k) x) (9 * k + 1) y) (9 * k + 2) z ≡ put_values c k r
unfolding put_values
values_write c k r x y z d e f = λ i. set (set (set c (9 * k) (d i)) (9 * k + 1) (e i)) (9 * k + 2) (f i)
