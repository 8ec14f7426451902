-- What a reader of a box list sees, from its bytes alone (document 01: "Box list: N records of state (8-bit) and V pairs low, high (16-bit signed)"). A bound
-- takes n bytes, 2 in sheet version 1 and 4 in version 2 (document 02, U4). Definitions and the theorem's statement first, then its proof: record i of a sheet's list is the class of block i.
use Rattle.std.specs.Prelude.{◌≡◌, ℕ, zero, suc, ◌+◌, ◌*◌, ◌≤◌, ◌<◌, length, drop, ◌≤ℤ◌}
use Rattle.std.proofs.Math.Path.{sym, ap}
use Rattle.std.proofs.Common.{◌∙◌, not-suc-le-zero, le_of_suc-le-suc, length-append, get_or-drop, ext_get_or}
use mathlib.Core.List.{List, [], ◌∷◌, ◌++◌, append_assoc}
use native.Mathlib.Omega.{arith}
use Rattle.std.proofs.Math.ListN.{get_or}
use Rattle.std.proofs.Math.Seq.{drop-append_seam}
use Rattle.integers.specs.declared.Range.{Range}
use Rattle.integers.proofs.Order.{ints}
use Rattle.integers.specs.LittleEndian.{signed_of, signed_at, bits_of}
use Rattle.integers.proofs.LittleEndian.{length_split, unsigned_at_drop, signed_at_split}
use Rattle.systems.specs.Lists.{collect, Wide}
use Rattle.systems.proofs.Lists.{drop_collect, length_each, get_d_each}
use Rattle.model.specs.Sheet.{Sheet, nowhere, region_number, region_of, Each, each_more, WellFormed}
use Rattle.model.specs.Blocks.{empty, class_of, blocks, block_at, signed_bytes, range_bytes, box_record, box_list_of}
use Rattle.model.proofs.Boxes.{fits_ordered, inside_each}
use Rattle.model.proofs.Classes.{each_at}
use Rattle.model.specs.ClassTheorem.{ClassFits}
use Rattle.model.proofs.ClassTheorem.{class_fits, blocks_representatives}
use Rattle.model.specs.BoxList.{pair_at, list_record, listed_range, listed_box, RangeHeld, BoundsHeld, BoxesListed}

-- n bytes hold the bounds of a range in order inside one whose bounds they hold
pub inside_held : (n : ℕ) (q r : Range) → r.low ≤ℤ q.low → q.low ≤ℤ q.high → q.high ≤ℤ r.high → RangeHeld n r → RangeHeld n q
inside_held n q r l o u x =
    let a = x.low_held in
    let b = x.high_held in
    record { low_held = record { above = omega ints; below = omega ints }; high_held = record { above = omega ints; below = omega ints } }

-- a pair at a place is that of the list from there on
pair_drop : (n : ℕ) (l : List ℕ) (at k : ℕ) → pair_at n l (at + k) ≡ pair_at n (drop at l) k
unfolding pair_at signed_at
pair_drop n l at k =
    let q : at + k + n ≡ at + (k + n) = omega arith in
    let a = ap (signed_of n) (unsigned_at_drop n l at k) in
    let b = ap (λ (m : ℕ). signed_at n l m) q ∙ ap (signed_of n) (unsigned_at_drop n l at (k + n)) in
    λ i. record { low = a i; high = b i }

pair_append : (n : ℕ) (front back : List ℕ) (k : ℕ) → pair_at n (front ++ back) (length front + k) ≡ pair_at n back k
pair_append n front back k = pair_drop n (front ++ back) (length front) k ∙ ap (λ (l : List ℕ). pair_at n l k) (drop-append_seam front back)

-- the first range is read back from the bytes of ranges,
pair_read : (n : ℕ) (r : Range) (rs : List Range) (rest : List ℕ) → 1 ≤ n → RangeHeld n r → pair_at n (range_bytes n (r ∷ rs) ++ rest) 0 ≡ r
unfolding pair_at range_bytes
pair_read n r rs rest g h =
    let a = signed_bytes n r.low in
    let b = signed_bytes n r.high in
    let e : (a ++ b ++ range_bytes n rs) ++ rest ≡ a ++ (b ++ (range_bytes n rs ++ rest)) = simp append_assoc in
    let p = ap (λ (l : List ℕ). signed_at n l 0) e ∙ signed_at_split n r.low [] (b ++ (range_bytes n rs ++ rest)) g h.low_held in
    let k : 0 + n ≡ length a = omega (arith, length_split n (bits_of n r.low)) in
    let q = ap (λ (l : List ℕ). signed_at n l (0 + n)) e ∙ ap (signed_at n (a ++ (b ++ (range_bytes n rs ++ rest)))) k ∙ signed_at_split n r.high a (range_bytes n rs ++ rest) g h.high_held in
    λ i. record { low = p i; high = q i }

-- and the others stand behind it
pair_next : (n : ℕ) (r : Range) (rs : List Range) (rest : List ℕ) (k : ℕ) → pair_at n (range_bytes n (r ∷ rs) ++ rest) (2 * n + k) ≡ pair_at n (range_bytes n rs ++ rest) k
unfolding range_bytes
pair_next n r rs rest k =
    let a = signed_bytes n r.low in
    let b = signed_bytes n r.high in
    let e : (a ++ b ++ range_bytes n rs) ++ rest ≡ (a ++ b) ++ (range_bytes n rs ++ rest) = simp append_assoc in
    let q : 2 * n + k ≡ length (a ++ b) + k = omega (arith, length-append a b, length_split n (bits_of n r.low), length_split n (bits_of n r.high)) in
    ap (λ (l : List ℕ). pair_at n l (2 * n + k)) e
    ∙ ap (pair_at n ((a ++ b) ++ (range_bytes n rs ++ rest))) q
    ∙ pair_append n (a ++ b) (range_bytes n rs ++ rest) k

-- so each range is read back from its place
ranges_read : (n : ℕ) (rs : List Range) (rest : List ℕ) → 1 ≤ n → Each (RangeHeld n) rs → (v : ℕ) → v < length rs
    → pair_at n (range_bytes n rs ++ rest) (2 * n * v) ≡ get_or rs v empty
ranges_read n [] rest g h v l = absurd (not-suc-le-zero l)
ranges_read n (r ∷ rs) rest g (each_more f h) zero l =
    let q : 2 * n * 0 ≡ 0 = omega arith in
    ap (pair_at n (range_bytes n (r ∷ rs) ++ rest)) q ∙ pair_read n r rs rest g f
ranges_read n (r ∷ rs) rest g (each_more f h) (suc v) l =
    let q : 2 * n * suc v ≡ 2 * n + 2 * n * v = omega arith in
    ap (pair_at n (range_bytes n (r ∷ rs) ++ rest)) q ∙ pair_next n r rs rest (2 * n * v) ∙ ranges_read n rs rest g h v (le_of_suc-le-suc l)

length_ranges : (n : ℕ) (rs : List Range) → length (range_bytes n rs) ≡ 2 * n * length rs
unfolding range_bytes
length_ranges n [] = omega arith
length_ranges n (r ∷ rs) = simp (length-append, length_split) (omega (arith, length_ranges n rs))

module _ (n : ℕ) (s : Sheet) (W : WellFormed s) where
  class_of_block : (i : ℕ) → i < length (blocks s) → ClassFits s (block_at s i) (class_of s (block_at s i))
  class_of_block i h = class_fits s W (block_at s i) ((blocks_representatives s W).covered i h)

  -- every record takes as many bytes,
  records_wide : Wide (1 + 2 * n * s.counters) (box_record n s) (length (blocks s))
  unfolding box_record
  records_wide i h =
      let r = (class_of s (block_at s i)).ranges in
      let c = ap (λ (k : ℕ). 2 * n * k) (class_of_block i h).ranges_count in
      omega (arith, length_ranges n r)

  module _ (i : ℕ) (rest : List ℕ) (h : i < length (blocks s)) where
    list : List ℕ
    list = box_list_of n s ++ rest

    after : List ℕ
    after = drop (suc i * (1 + 2 * n * s.counters)) list

    -- so that of block i stands where record i begins.
    record_there : drop (list_record n s.counters i) list ≡ box_record n s i ++ after
    unfolding list_record box_list_of list after
    record_there = drop_collect (1 + 2 * n * s.counters) (box_record n s) (length (blocks s)) rest records_wide i h

    state_listed : get_or list (list_record n s.counters i) 0 ≡ (class_of s (block_at s i)).state
    unfolding box_record
    state_listed =
        let P = list_record n s.counters i in
        let q : P ≡ P + 0 = omega arith in
        ap (λ (k : ℕ). get_or list k 0) q ∙ sym (get_or-drop P list 0 0) ∙ ap (λ (l : List ℕ). get_or l 0 0) record_there

    -- n bytes hold the bounds of a class
    class_held : BoundsHeld n s → Each (RangeHeld n) (class_of s (block_at s i)).ranges
    unfolding region_of
    class_held B =
        let F = class_of_block i h in
        inside_each (inside_held n) F.ranges_inside (fits_ordered F.ranges_fit) (each_at B (region_number s (block_at s i)) nowhere ((blocks_representatives s W).covered i h))

    range_listed : 1 ≤ n → BoundsHeld n s → (v : ℕ) → v < s.counters → listed_range n s.counters list i v ≡ get_or (class_of s (block_at s i)).ranges v empty
    unfolding listed_range box_record
    range_listed g B v l =
        let P = list_record n s.counters i in
        let b = class_of s (block_at s i) in
        let q : P + 1 + 2 * n * v ≡ P + (1 + 2 * n * v) = omega arith in
        let c = (class_of_block i h).ranges_count in
        ap (pair_at n list) q
        ∙ pair_drop n list P (1 + 2 * n * v)
        ∙ ap (λ (m : List ℕ). pair_at n m (1 + 2 * n * v)) record_there
        ∙ pair_append n (b.state ∷ []) (range_bytes n b.ranges ++ after) (2 * n * v)
        ∙ ranges_read n b.ranges after g (class_held B) v (omega arith)

    ranges_listed : 1 ≤ n → BoundsHeld n s → collect (λ v. listed_range n s.counters list i v ∷ []) s.counters ≡ (class_of s (block_at s i)).ranges
    ranges_listed g B =
        let f = listed_range n s.counters list i in
        let k = length_each f s.counters in
        let c = (class_of_block i h).ranges_count in
        ext_get_or empty (collect (λ v. f v ∷ []) s.counters) (class_of s (block_at s i)).ranges (k ∙ sym c)
        (λ v l. let m : v < s.counters = omega arith in get_d_each f s.counters empty v m ∙ range_listed g B v m)

  -- the state and the ranges of record i are those of the class
  pub boxes_listed : 1 ≤ n → BoundsHeld n s → BoxesListed n s
  unfolding listed_box list
  boxes_listed g B i rest h =
      let p = state_listed i rest h in
      let q = ranges_listed i rest h g B in
      λ j. record { state = p j; ranges = q j }
