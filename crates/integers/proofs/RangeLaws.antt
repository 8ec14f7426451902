-- Ranges of whole numbers: definitions, and the laws that callers use in their place.
use Rattle.std.specs.Prelude.{◌≡◌, refl, ◌↔◌, Bool, true, false, cond, ◌&&◌, not, ℕ, suc, ◌+◌, ◌*◌, ◌≤◌, ◌<◌, T, ℤ, pos, negsuc, neg_ℤ, ◌+ℤ◌, ◌-ℤ◌, ◌*ℤ◌, ◌≤ℤ◌}
use Rattle.std.proofs.Common.{subst, arith, mul-le-mul_left, mul-le-mul_right}
use Rattle.std.specs.Int.Signed.{le_z, lt_z}
use Rattle.std.proofs.Math.Facts.{and_yes, yes_and}
use Rattle.integers.specs.declared.Range.{Range}
use Rattle.integers.specs.Order.{up, dn}
use Rattle.integers.proofs.Order.{ints, le_in, le_out, lt_z_true, add_parts, sub_parts, up_neg, dn_neg, add_size, sub_size, mul_size}
use Rattle.integers.specs.Range.{smaller, larger, contains, near, vacant, meet, size, Within, RangeWithin}

pub within_size : {n : ℕ} {z : ℤ} → Within n z → up z + dn z ≤ n
within_size {n} {z = pos k} w = omega (ints, w.below)
within_size {n} {z = negsuc k} w = omega (ints, w.above, up_neg (pos n), dn_neg (pos n))

pub within_out : (n : ℕ) (z : ℤ) → up z + dn z ≤ n → Within n z
within_out n z h =
    record {
      above = le_out (neg_ℤ (pos n)) z (omega (arith, up_neg (pos n), dn_neg (pos n)));
      below = le_out z (pos n) (omega arith);
    }

pub within_wider : {k : ℕ} {z : ℤ} (n : ℕ) → k ≤ n → Within k z → Within n z
within_wider {k} {z} n h w = within_out n z (omega (arith, within_size w))

pub within_neg : {k : ℕ} {z : ℤ} → Within k z → Within k (neg_ℤ z)
within_neg {k} {z} w = within_out k (neg_ℤ z) (omega (arith, within_size w, up_neg z, dn_neg z))

-- sums, differences and products are within the sum and the product of the bounds
pub within_add : {j k : ℕ} {a b : ℤ} → Within j a → Within k b → Within (j + k) (a +ℤ b)
within_add {j} {k} {a} {b} p q = within_out (j + k) (a +ℤ b) (omega (arith, add_size a b, within_size p, within_size q))

pub within_sub : {j k : ℕ} {a b : ℤ} → Within j a → Within k b → Within (j + k) (a -ℤ b)
within_sub {j} {k} {a} {b} p q = within_out (j + k) (a -ℤ b) (omega (arith, sub_size a b, within_size p, within_size q))

pub within_mul : {j k : ℕ} {a b : ℤ} → Within j a → Within k b → Within (j * k) (a *ℤ b)
within_mul {j} {k} {a} {b} p q =
    let m = mul-le-mul_left (up a + dn a) (within_size q) in
    let n = mul-le-mul_right k (within_size p) in
    within_out (j * k) (a *ℤ b) (omega (arith, mul_size a b, m, n))

pub within_zero : (n : ℕ) → Within n (pos 0)
within_zero n = within_out n (pos 0) (omega arith)

-- a Bool that is true, as the proposition T
pub T_true : (b : Bool) → b ≡ true → T b
T_true true e = tt
T_true false e = let z : ◌≡◌ {A = ℕ} 0 1 = cc in absurd (omega arith)

pub true_T : (b : Bool) → T b → b ≡ true
true_T true t = refl
true_T false t = absurd t

pub le_z_le : (a b : ℤ) → T (le_z a b) ↔ (a ≤ℤ b)
le_z_le a b = (λ t. record { le = t }, λ h. h.le)

-- membership by the two bounds
pub contains_le : (r : Range) (x : ℤ) → T (contains r x) ↔ ((r.low ≤ℤ x) × (x ≤ℤ r.high))
unfolding contains
contains_le r x = (to, from)
  where
    to : T (le_z r.low x && le_z x r.high) → (r.low ≤ℤ x) × (x ≤ℤ r.high)
    to t = let h = and_yes (le_z r.low x) (le_z x r.high) t in (record { le = h.0 }, record { le = h.1 })

    from : (r.low ≤ℤ x) × (x ≤ℤ r.high) → T (le_z r.low x && le_z x r.high)
    from h = yes_and (le_z r.low x) (le_z x r.high) h.0.le h.1.le

-- nearness as a test is nearness as a proposition; and what is not near 0 is not 0
pub near_within : (n : ℕ) (z : ℤ) → near n z ≡ true → Within n z
near_within n z e = let (a, b) = (contains_le _ z).0 (T_true (near n z) e) in record { above = a; below = b }

pub within_near : (n : ℕ) (z : ℤ) → Within n z → near n z ≡ true
within_near n z w = true_T (near n z) ((contains_le _ z).1 (w.above, w.below))

pub near_zero : (z : ℤ) → not (near 0 z) ≡ true → z ≡ pos 0 → ⊥
unfolding contains
near_zero z e d =
    let f : not (near 0 (pos 0)) ≡ true = subst (λ (y : ℤ). not (near 0 y) ≡ true) d e in
    let y : ◌≡◌ {A = ℕ} 0 1 = cc in
    omega arith

pub not_near_zero : (z : ℤ) → (z ≡ pos 0 → ⊥) → not (near 0 z) ≡ true
not_near_zero z n = go (near 0 z) refl
  where
    go : (t : Bool) → near 0 z ≡ t → not t ≡ true
    go true e = let w = within_size (near_within 0 z e) in absurd (n (omega ints))
    go false e = refl

pub smaller_le : (a b x : ℤ) → (x ≤ℤ smaller a b) ↔ ((x ≤ℤ a) × (x ≤ℤ b))
unfolding smaller
smaller_le a b x = go (le_z a b) refl
  where
    go : (t : Bool) → le_z a b ≡ t → (x ≤ℤ cond t a b) ↔ ((x ≤ℤ a) × (x ≤ℤ b))
    go true e = omega ints
    go false e = omega ints

pub larger_le : (a b x : ℤ) → (larger a b ≤ℤ x) ↔ ((a ≤ℤ x) × (b ≤ℤ x))
unfolding larger
larger_le a b x = go (le_z a b) refl
  where
    go : (t : Bool) → le_z a b ≡ t → (cond t b a ≤ℤ x) ↔ ((a ≤ℤ x) × (b ≤ℤ x))
    go true e = omega ints
    go false e = omega ints

-- the intersection holds what both hold
pub meet_contains : (r q : Range) (x : ℤ) → T (contains (meet r q) x) ↔ (T (contains r x) × T (contains q x))
unfolding meet
meet_contains r q x = (to, from)
  where
    to : T (contains (meet r q) x) → T (contains r x) × T (contains q x)
    to t =
        let h = (contains_le (meet r q) x).0 t in
        let l = (larger_le r.low q.low x).0 h.0 in
        let u = (smaller_le r.high q.high x).0 h.1 in
        ((contains_le r x).1 (l.0, u.0), (contains_le q x).1 (l.1, u.1))

    from : T (contains r x) × T (contains q x) → T (contains (meet r q) x)
    from (t, k) =
        let h = (contains_le r x).0 t in
        let g = (contains_le q x).0 k in
        (contains_le (meet r q) x).1 ((larger_le r.low q.low x).1 (h.0, g.0), (smaller_le r.high q.high x).1 (h.1, g.1))

-- a vacant range holds nothing, and any other holds its low bound
pub vacant_none : (r : Range) (x : ℤ) → T (vacant r) → T (contains r x) → ⊥
unfolding vacant
vacant_none r x v t = let h = (contains_le r x).0 t in let e = true_T (lt_z r.high r.low) v in omega ints

pub vacant_not : (r : Range) → vacant r ≡ false → T (contains r r.low)
unfolding vacant
vacant_not r e = (contains_le r r.low).1 (omega ints, omega ints)

-- the size of a range that is not vacant, and that of a vacant one
pub size_some : (r : Range) → r.low ≤ℤ r.high → size r + (up r.low + dn r.high) ≡ suc (up r.high + dn r.low)
unfolding size
size_some r h = one_way (r.high -ℤ r.low +ℤ pos 1) (add_parts (r.high -ℤ r.low) (pos 1)) (sub_parts r.high r.low) (le_in r.low r.high h)
  where
    one_way : (z : ℤ) → up z + (dn (r.high -ℤ r.low) + dn (pos 1)) ≡ dn z + (up (r.high -ℤ r.low) + up (pos 1))
        → up (r.high -ℤ r.low) + (dn r.high + up r.low) ≡ dn (r.high -ℤ r.low) + (up r.high + dn r.low)
        → up r.low + dn r.high ≤ up r.high + dn r.low
        → up z + (up r.low + dn r.high) ≡ suc (up r.high + dn r.low)
    one_way (pos n) a b c = omega arith
    one_way (negsuc n) a b c = absurd (omega arith)

pub size_none : (r : Range) → T (vacant r) → size r ≡ 0
unfolding size vacant
size_none r v =
    one_way (r.high -ℤ r.low +ℤ pos 1) (add_parts (r.high -ℤ r.low) (pos 1)) (sub_parts r.high r.low)
    (lt_z_true r.high r.low (true_T (lt_z r.high r.low) v))
  where
    one_way : (z : ℤ) → up z + (dn (r.high -ℤ r.low) + dn (pos 1)) ≡ dn z + (up (r.high -ℤ r.low) + up (pos 1))
        → up (r.high -ℤ r.low) + (dn r.high + up r.low) ≡ dn (r.high -ℤ r.low) + (up r.high + dn r.low)
        → up r.high + dn r.low < up r.low + dn r.high
        → up z ≡ 0
    one_way (pos n) a b c = omega arith
    one_way (negsuc n) a b c = refl

pub range_wider : {k : ℕ} {r : Range} (n : ℕ) → k ≤ n → RangeWithin k r → RangeWithin n r
range_wider n h w = record { low_within = within_wider n h w.low_within; high_within = within_wider n h w.high_within }
