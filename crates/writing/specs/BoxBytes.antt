-- The bytes of the box list as the arrays give them.
use Rattle.std.specs.Prelude.{true, false, ◌≡◌, refl, List, [], ◌∷◌, ◌++◌, ℕ, zero, suc, ◌+◌, ◌*◌, ◌-◌, ◌/◌, ◌%◌, ◌^◌, ◌≤◌, ◌<◌, length, get_or, set, T, ℤ, pos, negsuc, neg_ℤ, nat_abs, ◌+ℤ◌}
use Rattle.std.proofs.Common.{sym, ap, ◌∙◌, inl, inr, append_assoc, append-nil, mod-eq_of_lt, arith, SFits}
use Rattle.std.proofs.Math.Nat.{div-div-eq-div-mul}
use Rattle.std.proofs.Math.Arith.{digits_div, mod-mul}
use Rattle.std.specs.Int.Signed.{lt_z, non_neg}
use Rattle.std.specs.Int.{w64}
use Rattle.integers.specs.LittleEndian.{Holds, split, bits_of}
use Rattle.integers.proofs.LittleEndian.{length_split}
use Rattle.integers.specs.Order.{up, dn}
use Rattle.integers.proofs.Order.{le_in, lt_in, lt_z_true, lt_z_false, add_parts, up_neg, dn_neg, fits_out}
use Rattle.systems.specs.Lists.{collect}
use Rattle.systems.proofs.Lists.{length_collect}
use Rattle.answer_rules.specs.Run.{overwrite}
use Rattle.model.specs.Blocks.{signed_bytes, range_bytes}
use Rattle.refinement.specs.Completed.{box_bytes, table_boxes}
use Rattle.sheet_bytes.specs.declared.Shape.{Shape}
use Rattle.sheet_rules.specs.Shape.{TwoOrFour}
use Rattle.sheet_rules.proofs.Shape.{width_few, bounds_le}
use Rattle.sheet_bytes.specs.Three.{firsts, ranges_meant, box_meant}
use Rattle.table_rules.specs.Arrays.{range_in, ranges_in, state_in, box_in}
use Rattle.table_rules.specs.Meaning.{row_in}
use Rattle.writing.specs.Numbers.{entry_in}
use Rattle.writing.specs.Stored.{stored, stored_one, stored_behind, stored_front, rows_le}

-- bound b of row i, low and high in turn
abbrev pub bound_in : List ℤ → ℕ → ℕ → ℤ
bound_in c i b = get_or c (9 * i + 3 + b) (pos 0)

-- the first n of them as bytes, w bytes each
abbrev pub bound_bytes : ℕ → List ℤ → ℕ → ℕ → List ℕ
bound_bytes w c i b = signed_bytes w (bound_in c i b)

unfoldable pub bounds_bytes : ℕ → List ℤ → ℕ → ℕ → List ℕ
bounds_bytes w c i n = collect (bound_bytes w c i) n

-- w bytes hold them
abbrev pub Bounded : ℕ → List ℤ → ℕ → ℕ → Type 0
Bounded w c n i = (b : ℕ) → b < n → Holds w (bound_in c i b)

-- and those of the first rows of the order, all of which are rows
abbrev pub AllBounded : ℕ → List ℤ → List ℕ → ℕ → ℕ → Type 0
AllBounded w c order m n = (k : ℕ) → k < n → (entry_in order k < 255) × Bounded w c m (entry_in order k)

-- 2 to the number of bits that w bytes have, and how far from zero a number is that they hold
pub whole_two : (w : ℕ) → w ≡ 2 → pos 65536 ≡ pos (2 ^ (8 * w))
whole_two w e = ap (λ (k : ℕ). pos (2 ^ (8 * k))) (sym e)

pub whole_four : (w : ℕ) → w ≡ 4 → pos 4294967296 ≡ pos (2 ^ (8 * w))
whole_four w e = ap (λ (k : ℕ). pos (2 ^ (8 * k))) (sym e)

-- for a half h of that number: a number from -h to h - 1
record Half (h : ℕ) (z : ℤ) : Type 0 where
  pub not_below : dn z ≤ h
  pub below : up z < h

half_held : (w h : ℕ) (z : ℤ) → 2 ^ (8 * w - 1) ≡ h → 1 ≤ h → Holds w z → Half h z
half_held w h z e k H =
    let a = le_in (neg_ℤ (pos (2 ^ (8 * w - 1)))) z H.above in
    let b = lt_in z (pos (2 ^ (8 * w - 1))) H.below in
    go z (omega (arith, up_neg (pos (2 ^ (8 * w - 1))), dn_neg (pos (2 ^ (8 * w - 1))))) (omega arith)
  where
    go : (y : ℤ) → dn y ≤ h + up y → up y < h + dn y → Half h y
    go (pos n) p q = record { not_below = omega arith; below = omega arith }
    go (negsuc n) p q = record { not_below = omega arith; below = omega arith }

-- The machine number x holds the bits of z, w bytes of them.
pub record Bits (w : ℕ) (z x : ℤ) : Type 0 where
  pub fits : SFits w64 x
  pub natural : T (non_neg x)
  pub is : nat_abs x ≡ bits_of w z
  pub small : nat_abs x < 2 ^ (8 * w)

held_by : (w : ℕ) (z : ℤ) → TwoOrFour w → Holds w z → (h : ℕ) × (2 ^ (8 * w) ≡ 2 * h) × (h ≤ 2147483648) × Half h z
held_by w z (inl e) H =
    let p : 2 ^ (8 * w - 1) ≡ 32768 = ap (λ (k : ℕ). 2 ^ (8 * k - 1)) e in
    (32768, ap (λ (k : ℕ). 2 ^ (8 * k)) e, omega arith, half_held w 32768 z p (omega arith) H)
held_by w z (inr e) H =
    let p : 2 ^ (8 * w - 1) ≡ 2147483648 = ap (λ (k : ℕ). 2 ^ (8 * k - 1)) e in
    (2147483648, ap (λ (k : ℕ). 2 ^ (8 * k)) e, omega arith, half_held w 2147483648 z p (omega arith) H)

pub bits_fits : (w : ℕ) (z : ℤ) → TwoOrFour w → Holds w z → SFits w64 z
bits_fits w z t H = let (h, e, l, f) = held_by w z t H in fits_out z (omega (arith, f.not_below, f.below))

pub bits_negative : (w : ℕ) (z : ℤ) → TwoOrFour w → Holds w z → lt_z z (pos 0) ≡ true → Bits w z (z +ℤ pos (2 ^ (8 * w)))
unfolding bits_of
bits_negative w (pos n) t H e = absurd (omega (arith, lt_z_true (pos n) (pos 0) e))
bits_negative w (negsuc u) t H e =
    let (h, p, l, f) = held_by w (negsuc u) t H in
    go h p l f (negsuc u +ℤ pos (2 ^ (8 * w))) (add_parts (negsuc u) (pos (2 ^ (8 * w))))
  where
    go : (h : ℕ) → 2 ^ (8 * w) ≡ 2 * h → h ≤ 2147483648 → Half h (negsuc u) → (x : ℤ) → up x + (suc u + 0) ≡ dn x + (0 + 2 ^ (8 * w)) → Bits w (negsuc u) x
    go h p l f (pos n) a = record { fits = fits_out (pos n) (omega (arith, f.not_below)); natural = tt; is = omega arith; small = omega arith }
    go h p l f (negsuc n) a = absurd (omega (arith, f.not_below))

pub bits_natural : (w : ℕ) (z : ℤ) → TwoOrFour w → Holds w z → lt_z z (pos 0) ≡ false → Bits w z z
unfolding bits_of
bits_natural w (pos n) t H e =
    let (h, p, l, f) = held_by w (pos n) t H in
    record { fits = bits_fits w (pos n) t H; natural = tt; is = refl; small = omega (arith, f.below) }
bits_natural w (negsuc u) t H e = absurd (omega (arith, lt_z_false (negsuc u) (pos 0) e))

-- the two bytes of a number below 65,536
pub bits_bytes : (u : ℕ) → u < 65536 → u % 256 ∷ u / 256 ∷ [] ≡ split 2 u
unfolding split
bits_bytes u h = let e : u / 256 < 256 = omega arith in ap (λ (k : ℕ). u % 256 ∷ k ∷ []) (sym (mod-eq_of_lt e))

-- a number's bytes, two by two
pub two_bytes : (w u : ℕ) → w ≡ 2 → u < 2 ^ (8 * w) → split 2 (u % 65536) ≡ split w u
two_bytes w u e h =
    let k : 2 ^ (8 * w) ≡ 65536 = ap (λ (k : ℕ). 2 ^ (8 * k)) e in
    let m : u % 65536 ≡ u = mod-eq_of_lt (omega arith) in
    ap (split 2) m ∙ ap (λ (k : ℕ). split k u) (sym e)

pub upper_small : (w u : ℕ) → w ≡ 4 → u < 2 ^ (8 * w) → u / 65536 < 65536
upper_small w u e h = let k : 2 ^ (8 * w) ≡ 4294967296 = ap (λ (k : ℕ). 2 ^ (8 * k)) e in omega arith

pub four_bytes : (w u : ℕ) → w ≡ 4 → split 2 (u % 65536) ++ split 2 (u / 65536) ≡ split w u
unfolding split
four_bytes w u e =
    let a : u % 65536 % 256 ≡ u % 256 = omega arith in
    let m : u % 65536 ≡ u / 256 % 256 * 256 + u % 256 = mod-mul u {m = 256} {c = 256} (omega arith) (omega arith) in
    let q : u % 65536 / 256 ≡ u / 256 % 256 = ap (λ (x : ℕ). x / 256) m ∙ digits_div (u / 256 % 256) {m = 256} {r = u % 256} (omega arith) in
    let b : u % 65536 / 256 % 256 ≡ u / 256 % 256 = ap (λ (x : ℕ). x % 256) q ∙ mod-eq_of_lt (omega arith) in
    let p : u / 65536 ≡ u / 256 / 256 = sym (div-div-eq-div-mul u 256 256) in
    let c : u / 65536 % 256 ≡ u / 256 / 256 % 256 = ap (λ (x : ℕ). x % 256) p in
    let d : u / 65536 / 256 % 256 ≡ u / 256 / 256 / 256 % 256 = ap (λ (x : ℕ). x / 256 % 256) p in
    (λ i. a i ∷ b i ∷ c i ∷ d i ∷ []) ∙ ap (λ (k : ℕ). split k u) (sym e)

pub bound_length : (w : ℕ) (c : List ℤ) (i b : ℕ) → length (collect (bound_bytes w c i) b) ≡ b * w
bound_length w c i b = length_collect w (bound_bytes w c i) b (λ k h. length_split w (bits_of w (bound_in c i k)))

-- bound b of n has its place
pub bound_room : (w b n : ℕ) → b < n → w * b + w ≤ w * n
bound_room w b n h = omega (arith, rows_le b n w h)

-- the bounds are those of the ranges
bounds_ranges : (w : ℕ) (c : List ℤ) (i n : ℕ) → n ≤ 3 → bounds_bytes w c i (2 * n) ≡ range_bytes w (ranges_meant n (ranges_in c i))
unfolding bounds_bytes collect range_bytes firsts ranges_in range_in
bounds_ranges w c i n h = go n h
  where
    f : ℕ → List ℕ
    f k = signed_bytes w (get_or c k (pos 0))

    p : 9 * i + 3 + 0 ≡ 9 * i + 3
    p = omega arith

    q : 9 * i + 3 + 2 ≡ 9 * i + 5
    q = omega arith

    q' : 9 * i + 3 + 3 ≡ 9 * i + 5 + 1
    q' = omega arith

    r : 9 * i + 3 + 4 ≡ 9 * i + 7
    r = omega arith

    r' : 9 * i + 3 + 5 ≡ 9 * i + 7 + 1
    r' = omega arith

    go : (n : ℕ) → n ≤ 3 → collect (bound_bytes w c i) (2 * n) ≡ range_bytes w (ranges_meant n (ranges_in c i))
    go zero h = refl
    go (suc zero) h = simp (append_assoc, append-nil, p)
    go (suc (suc zero)) h = simp (append_assoc, append-nil, p, q, q')
    go (suc (suc (suc zero))) h = simp (append_assoc, append-nil, p, q, q', r, r')
    go (suc (suc (suc (suc n)))) h = absurd (omega arith)

-- the box of row i as bytes
abbrev pub row_bytes : ℕ → ℕ → List ℤ → List ℕ → ℕ → List ℕ
row_bytes w n c h i = box_bytes w (box_meant n (box_in c h i))

row_bytes_lem : (w n : ℕ) (c : List ℤ) (h : List ℕ) (i : ℕ) → n ≤ 3 → (state_in h i ∷ []) ++ bounds_bytes w c i (2 * n) ≡ row_bytes w n c h i
unfolding box_bytes
row_bytes_lem w n c h i l = ap (λ (b : List ℕ). state_in h i ∷ b) (bounds_ranges w c i n l)

row_length : (w n : ℕ) (c : List ℤ) (h : List ℕ) (i : ℕ) → n ≤ 3 → length (row_bytes w n c h i) ≡ 1 + 2 * w * n
unfolding bounds_bytes
row_length w n c h i l = sym (ap length (row_bytes_lem w n c h i l)) ∙ omega (arith, bound_length w c i (2 * n))

pub rows_length : (w n : ℕ) (c : List ℤ) (h order : List ℕ) (k : ℕ) → n ≤ 3 → length (collect (λ j. row_bytes w n c h (entry_in order j)) k) ≡ k * (1 + 2 * w * n)
rows_length w n c h order k l = length_collect (1 + 2 * w * n) (λ j. row_bytes w n c h (entry_in order j)) k (λ j b. row_length w n c h (entry_in order j) l)

-- a record is short
pub record_small : (shape : Shape) → TwoOrFour shape.width → shape.counters ≤ 3 → 1 + 2 * shape.width * shape.counters ≤ 25
record_small shape t h = omega (arith, width_few shape.width t, bounds_le shape.width shape.counters h)

-- a box is stored
pub box_stored : (w n : ℕ) (c : List ℤ) (h d f : List ℕ) (i at : ℕ) → n ≤ 3 → f ≡ stored (set d at (state_in h i)) (at + 1) (bounds_bytes w c i (2 * n))
    → f ≡ stored d at (row_bytes w n c h i)
box_stored w n c h d f i at l e =
    stored_behind (state_in h i ∷ []) (bounds_bytes w c i (2 * n)) d (set d at (state_in h i)) f at (at + 1) (stored_one d at (state_in h i)) e refl
    ∙ ap (stored d at) (row_bytes_lem w n c h i l)

-- and so is the list
pub boxes_stored : (w n : ℕ) (c : List ℤ) (h order d f : List ℕ) (k m : ℕ) → n ≤ 3 → m * (1 + 2 * w * n) ≤ length d → k ≡ m
    → f ≡ stored d 0 (collect (λ j. row_bytes w n c h (entry_in order j)) k) → f ≡ overwrite (table_boxes w m (row_in n c h) (entry_in order)) d
unfolding table_boxes row_in
boxes_stored w n c h order d f k m l r e g =
    g ∙ ap (λ (j : ℕ). stored d 0 (collect (λ j. row_bytes w n c h (entry_in order j)) j)) e
    ∙ stored_front (collect (λ j. row_bytes w n c h (entry_in order j)) m) d (omega (arith, rows_length w n c h order m l))
