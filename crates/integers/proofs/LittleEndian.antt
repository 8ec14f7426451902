-- Little-endian numbers in a list of bytes (document 01: "Numbers wider than a byte are little-endian, signed ones in two's complement"):
-- definitions, and the laws that callers use in their place.
use Rattle.std.specs.Prelude.{◌≡◌, refl, List, [], ◌∷◌, ◌++◌, Bool, true, false, cond, ℕ, zero, suc, ◌+◌, ◌*◌, ◌-◌, ◌/◌, ◌%◌, ◌^◌, ◌≤◌, ◌<◌, ltb, length, take, drop, ℤ, pos, negsuc, neg_ℤ, ◌-ℤ◌}
use Rattle.std.proofs.Common.{sym, ap, subst, ◌∙◌, pow-suc, mod-lt, mod-eq_of_lt, not-suc-le-zero, le_of_suc-le-suc, add-zero, arith, lt-ltb, le-ltb, ltb-true, ltb-false, drop-drop, get_or-drop}
use Rattle.std.proofs.Math.Nat.{mod-one, one-le-pow}
use Rattle.std.proofs.Math.Arith.{mod-mul}
use Rattle.std.proofs.Math.Seq.{drop-append-add}
use Rattle.integers.specs.Order.{up, dn}
use Rattle.integers.proofs.Order.{le_in, le_out, lt_in, lt_out, eq_out, sub_parts, up_neg, dn_neg}
use Rattle.integers.specs.LittleEndian.{joined, unsigned_at, signed_of, signed_at, split, bits_of, Bytes, Holds}

pub bytes_none : Bytes []
bytes_none i = omega arith

pub bytes_more : (x : ℕ) (l : List ℕ) → x < 256 → Bytes l → Bytes (x ∷ l)
bytes_more x l h b zero = h
bytes_more x l h b (suc i) = b i

pub bytes_append : (l m : List ℕ) → Bytes l → Bytes m → Bytes (l ++ m)
bytes_append [] m b c i = c i
bytes_append (x ∷ l) m b c zero = b 0
bytes_append (x ∷ l) m b c (suc i) = bytes_append l m (λ j. b (suc j)) c i

pub bytes_drop : (s : List ℕ) (at : ℕ) → Bytes s → Bytes (drop at s)
bytes_drop s at b i = rw (get_or-drop at s i 0) (b (at + i))

-- n bytes tell as many numbers apart as 8 * n bits
pub pow_bytes : (n : ℕ) → 256 ^ n ≡ 2 ^ (8 * n)
pow_bytes zero = refl
pow_bytes (suc n) =
    let e = pow_bytes n in
    let p = pow-suc 256 n in
    let q : 8 * suc n ≡ suc (suc (suc (suc (suc (suc (suc (suc (8 * n)))))))) = omega arith in
    rw q (omega arith)

pub length_split : (n u : ℕ) → length (split n u) ≡ n
unfolding split
length_split zero u = refl
length_split (suc n) u = ap suc (length_split n (u / 256))

-- the bytes of a number are bytes
pub split_bytes : (n u : ℕ) → Bytes (split n u)
unfolding split
split_bytes zero u i = omega arith
split_bytes (suc n) u zero = mod-lt u (omega arith)
split_bytes (suc n) u (suc i) = split_bytes n (u / 256) i

-- what is read back from the n bytes of a number
pub joined_split_mod : (n u : ℕ) (rest : List ℕ) → joined n (split n u ++ rest) ≡ u % 256 ^ n
unfolding joined split
joined_split_mod zero u rest = sym (mod-one u)
joined_split_mod (suc n) u rest =
    let e = joined_split_mod n (u / 256) rest in
    let m = mod-mul u {m = 256 ^ n} {c = 256} (one-le-pow n 256 (omega arith)) (omega arith) in
    rw (pow-suc 256 n) (omega arith)

pub joined_split : (n u : ℕ) (rest : List ℕ) → u < 256 ^ n → joined n (split n u ++ rest) ≡ u
joined_split n u rest h = joined_split_mod n u rest ∙ mod-eq_of_lt h

-- n bytes give a number below 256 ^ n
pub joined_lt : (n : ℕ) (l : List ℕ) → Bytes l → joined n l < 256 ^ n
unfolding joined
joined_lt zero l b = omega arith
joined_lt (suc n) [] b = let h = joined_lt n [] b in rw (pow-suc 256 n) (omega arith)
joined_lt (suc n) (x ∷ l) b =
    let h = joined_lt n l (λ i. b (suc i)) in
    let g = b 0 in
    rw (pow-suc 256 n) (omega arith)

-- bytes are read back from the number that they give
pub split_joined : (n : ℕ) (l : List ℕ) → Bytes l → n ≤ length l → split n (joined n l) ≡ take n l
unfolding joined split
split_joined zero l b h = refl
split_joined (suc n) [] b h = absurd (not-suc-le-zero h)
split_joined (suc n) (x ∷ l) b h =
    let e = split_joined n l (λ i. b (suc i)) (le_of_suc-le-suc h) in
    let g = b 0 in
    let q : (x + 256 * joined n l) / 256 ≡ joined n l = omega arith in
    let r : (x + 256 * joined n l) % 256 ≡ x = omega arith in
    cc

-- the number at a place is that of the list from there on
pub unsigned_at_joined : (n : ℕ) (s : List ℕ) (at : ℕ) → unsigned_at n s at ≡ joined n (drop at s)
unfolding unsigned_at
unsigned_at_joined n s at = refl

pub unsigned_at_drop : (n : ℕ) (s : List ℕ) (at k : ℕ) → unsigned_at n s (at + k) ≡ unsigned_at n (drop at s) k
unfolding unsigned_at
unsigned_at_drop n s at k = ap (joined n) (sym (drop-drop k at s))

pub unsigned_at_append : (n : ℕ) (front back : List ℕ) (k : ℕ) → unsigned_at n (front ++ back) (length front + k) ≡ unsigned_at n back k
unfolding unsigned_at
unsigned_at_append n front back k = ap (joined n) (drop-append-add front back k)

-- behind a front of known length, the number whose bytes stand there
pub unsigned_at_split : (n u : ℕ) (front rest : List ℕ) → u < 256 ^ n → unsigned_at n (front ++ (split n u ++ rest)) (length front) ≡ u
unfolding unsigned_at
unsigned_at_split n u front rest h =
    ap (λ (k : ℕ). unsigned_at n (front ++ (split n u ++ rest)) k) (sym (add-zero (length front)))
    ∙ unsigned_at_append n front (split n u ++ rest) 0
    ∙ joined_split n u rest h

halves : (n : ℕ) → 1 ≤ n → 256 ^ n ≡ 2 * 2 ^ (8 * n - 1)
halves n g =
    let p = pow_bytes n in
    let q : 8 * n ≡ suc (8 * n - 1) = omega arith in
    let r = ap (λ (k : ℕ). 2 ^ k) q in
    omega arith

holds_up : (n : ℕ) (z : ℤ) → Holds n z → up z < 2 ^ (8 * n - 1)
holds_up n (pos u) h = omega (arith, lt_in (pos u) (pos (2 ^ (8 * n - 1))) h.below)
holds_up n (negsuc u) h = one-le-pow (8 * n - 1) 2 (omega arith)

holds_dn : (n : ℕ) (z : ℤ) → Holds n z → dn z ≤ 2 ^ (8 * n - 1)
holds_dn n (pos u) h = omega arith
holds_dn n (negsuc u) h =
    omega
    (arith, le_in (neg_ℤ (pos (2 ^ (8 * n - 1)))) (negsuc u) h.above, up_neg (pos (2 ^ (8 * n - 1))), dn_neg (pos (2 ^ (8 * n - 1))))

-- the bits of a number that n bytes hold, and the number that they give back
pub bits_of_lt : (n : ℕ) (z : ℤ) → 1 ≤ n → Holds n z → bits_of n z < 256 ^ n
unfolding bits_of
bits_of_lt n (pos u) g h = omega (arith, halves n g, holds_up n (pos u) h)
bits_of_lt n (negsuc u) g h = omega (arith, halves n g, holds_dn n (negsuc u) h, pow_bytes n)

pub signed_of_bits_of : (n : ℕ) (z : ℤ) → 1 ≤ n → Holds n z → signed_of n (bits_of n z) ≡ z
unfolding signed_of bits_of
signed_of_bits_of n (pos u) g h = rw (lt-ltb u (2 ^ (8 * n - 1)) (holds_up n (pos u) h))
signed_of_bits_of n (negsuc u) g h =
    let p = halves n g in
    let q = pow_bytes n in
    let d = holds_dn n (negsuc u) h in
    rw (le-ltb (2 ^ (8 * n) - suc u) (2 ^ (8 * n - 1)) (omega arith))
    (eq_out _ (negsuc u) (omega (arith, sub_parts (pos (2 ^ (8 * n) - suc u)) (pos (2 ^ (8 * n))))))

-- a signed number is read back from its bytes
pub signed_at_split : (n : ℕ) (z : ℤ) (front rest : List ℕ) → 1 ≤ n → Holds n z → signed_at n (front ++ (split n (bits_of n z) ++ rest)) (length front) ≡ z
unfolding signed_at
signed_at_split n z front rest g h = ap (signed_of n) (unsigned_at_split n (bits_of n z) front rest (bits_of_lt n z g h)) ∙ signed_of_bits_of n z g h

-- the signed number of n bytes is one that n bytes hold
pub signed_held : (n : ℕ) (s : List ℕ) (at : ℕ) → 1 ≤ n → Bytes s → Holds n (signed_at n s at)
unfolding signed_at unsigned_at signed_of
signed_held n s at g b = pick (ltb u h) refl
  where
    h : ℕ
    h = 2 ^ (8 * n - 1)

    u : ℕ
    u = joined n (drop at s)

    few : u < 2 ^ (8 * n)
    few = subst (λ (k : ℕ). u < k) (pow_bytes n) (joined_lt n (drop at s) (bytes_drop s at b))

    upper : (z : ℤ) → up z + (0 + 2 ^ (8 * n)) ≡ dn z + (u + 0) → h ≤ u → Holds n z
    upper (pos k) e l = absurd (omega (arith, few))
    upper (negsuc k) e l =
        record {
          above = le_out (neg_ℤ (pos h)) (negsuc k) (omega (arith, halves n g, pow_bytes n, up_neg (pos h), dn_neg (pos h)));
          below = lt_out (negsuc k) (pos h) (omega arith);
        }

    pick : (t : Bool) → ltb u h ≡ t → Holds n (cond t (pos u) (pos u -ℤ pos (2 ^ (8 * n))))
    pick true e =
        record {
          above = le_out (neg_ℤ (pos h)) (pos u) (omega (arith, up_neg (pos h), dn_neg (pos h)));
          below = lt_out (pos u) (pos h) (omega (arith, ltb-true u h e));
        }
    pick false e = upper (pos u -ℤ pos (2 ^ (8 * n))) (sub_parts (pos u) (pos (2 ^ (8 * n)))) (ltb-false u h e)
