-- Linear facts over ℤ for `omega`, which knows only ℕ: an integer z is read as the difference up z - dn z of two naturals.
-- `omega ints` then proves orders and equations of integers; sums, differences and products are listed by the laws below.
use Rattle.std.specs.Prelude.{◌≡◌, refl, ◌↔◌, Bool, true, false, cond, ℕ, zero, suc, ◌+◌, ◌*◌, ◌-◌, ◌^◌, ◌≤◌, ◌<◌, ltb, ℤ, pos, negsuc, neg_ℤ, ◌+ℤ◌, ◌-ℤ◌, ◌*ℤ◌, ◌≤ℤ◌, ◌<ℤ◌}
use Rattle.std.proofs.Common.{ap, arith, mul-zero, zero-mul, leb→le, le→leb, ltb→lt, lt→ltb, ltb-true, ltb-false, leb-true, leb-false, lt-ltb, le-ltb, le-leb, SFits}
use Rattle.std.proofs.lemmas.Bool.{lt-leb}
use Rattle.std.proofs.Math.IntN.{sub_ℕ}
use Rattle.std.specs.Int.Signed.{lt_z, le_z}
use Rattle.std.specs.Int.{w64}
use Rattle.integers.specs.Order.{up, dn}

pub le_in : (a b : ℤ) → a ≤ℤ b → up a + dn b ≤ up b + dn a
le_in (pos a) (pos b) h = omega (arith, leb→le a b h.le)
le_in (pos a) (negsuc b) h = absurd h.le
le_in (negsuc a) (pos b) h = omega arith
le_in (negsuc a) (negsuc b) h = omega (arith, leb→le b a h.le)

pub le_out : (a b : ℤ) → up a + dn b ≤ up b + dn a → a ≤ℤ b
le_out (pos a) (pos b) h = record { le = le→leb a b (omega arith) }
le_out (pos a) (negsuc b) h = absurd (omega arith)
le_out (negsuc a) (pos b) h = record { le = tt }
le_out (negsuc a) (negsuc b) h = record { le = le→leb b a (omega arith) }

pub lt_in : (a b : ℤ) → a <ℤ b → up a + dn b < up b + dn a
lt_in (pos a) (pos b) h = omega (arith, ltb→lt a b h.lt)
lt_in (pos a) (negsuc b) h = absurd h.lt
lt_in (negsuc a) (pos b) h = omega arith
lt_in (negsuc a) (negsuc b) h = omega (arith, ltb→lt b a h.lt)

pub lt_out : (a b : ℤ) → up a + dn b < up b + dn a → a <ℤ b
lt_out (pos a) (pos b) h = record { lt = lt→ltb a b (omega arith) }
lt_out (pos a) (negsuc b) h = absurd (omega arith)
lt_out (negsuc a) (pos b) h = record { lt = tt }
lt_out (negsuc a) (negsuc b) h = record { lt = lt→ltb b a (omega arith) }

pub eq_in : (a b : ℤ) → a ≡ b → up a + dn b ≡ up b + dn a
eq_in a b e = let u = ap up e in let d = ap dn e in omega arith

pub eq_out : (a b : ℤ) → up a + dn b ≡ up b + dn a → a ≡ b
eq_out (pos a) (pos b) h = let e : a ≡ b = omega arith in ap {B = ℤ} pos e
eq_out (pos a) (negsuc b) h = absurd (omega arith)
eq_out (negsuc a) (pos b) h = absurd (omega arith)
eq_out (negsuc a) (negsuc b) h = let e : a ≡ b = omega arith in ap {B = ℤ} negsuc e

-- what a test says, and what makes a test say so
pub lt_z_true : (a b : ℤ) → lt_z a b ≡ true → up a + dn b < up b + dn a
lt_z_true (pos a) (pos b) e = omega (arith, ltb-true a b e)
lt_z_true (pos a) (negsuc b) e = let z : ◌≡◌ {A = ℕ} 0 1 = cc in absurd (omega arith)
lt_z_true (negsuc a) (pos b) e = omega arith
lt_z_true (negsuc a) (negsuc b) e = omega (arith, ltb-true b a e)

pub lt_z_false : (a b : ℤ) → lt_z a b ≡ false → up b + dn a ≤ up a + dn b
lt_z_false (pos a) (pos b) e = omega (arith, ltb-false a b e)
lt_z_false (pos a) (negsuc b) e = omega arith
lt_z_false (negsuc a) (pos b) e = let z : ◌≡◌ {A = ℕ} 0 1 = cc in absurd (omega arith)
lt_z_false (negsuc a) (negsuc b) e = omega (arith, ltb-false b a e)

pub le_z_true : (a b : ℤ) → le_z a b ≡ true → up a + dn b ≤ up b + dn a
le_z_true (pos a) (pos b) e = omega (arith, leb-true a b e)
le_z_true (pos a) (negsuc b) e = let z : ◌≡◌ {A = ℕ} 0 1 = cc in absurd (omega arith)
le_z_true (negsuc a) (pos b) e = omega arith
le_z_true (negsuc a) (negsuc b) e = omega (arith, leb-true b a e)

pub le_z_false : (a b : ℤ) → le_z a b ≡ false → up b + dn a < up a + dn b
le_z_false (pos a) (pos b) e = omega (arith, leb-false a b e)
le_z_false (pos a) (negsuc b) e = omega arith
le_z_false (negsuc a) (pos b) e = let z : ◌≡◌ {A = ℕ} 0 1 = cc in absurd (omega arith)
le_z_false (negsuc a) (negsuc b) e = omega (arith, leb-false b a e)

pub lt_lt_z : (a b : ℤ) → up a + dn b < up b + dn a → lt_z a b ≡ true
lt_lt_z (pos a) (pos b) h = lt-ltb a b (omega arith)
lt_lt_z (pos a) (negsuc b) h = absurd (omega arith)
lt_lt_z (negsuc a) (pos b) h = refl
lt_lt_z (negsuc a) (negsuc b) h = lt-ltb b a (omega arith)

pub le_lt_z : (a b : ℤ) → up b + dn a ≤ up a + dn b → lt_z a b ≡ false
le_lt_z (pos a) (pos b) h = le-ltb a b (omega arith)
le_lt_z (pos a) (negsuc b) h = refl
le_lt_z (negsuc a) (pos b) h = absurd (omega arith)
le_lt_z (negsuc a) (negsuc b) h = le-ltb b a (omega arith)

pub le_le_z : (a b : ℤ) → up a + dn b ≤ up b + dn a → le_z a b ≡ true
le_le_z (pos a) (pos b) h = le-leb a b (omega arith)
le_le_z (pos a) (negsuc b) h = absurd (omega arith)
le_le_z (negsuc a) (pos b) h = refl
le_le_z (negsuc a) (negsuc b) h = le-leb b a (omega arith)

pub lt_le_z : (a b : ℤ) → up b + dn a < up a + dn b → le_z a b ≡ false
lt_le_z (pos a) (pos b) h = lt-leb a b (omega arith)
lt_le_z (pos a) (negsuc b) h = refl
lt_le_z (negsuc a) (pos b) h = absurd (omega arith)
lt_le_z (negsuc a) (negsuc b) h = lt-leb b a (omega arith)

-- sums, differences, negations and products by their parts
sub_parts_nat : (a b : ℕ) → up (sub_ℕ a b) + b ≡ dn (sub_ℕ a b) + a
sub_parts_nat a b = go (ltb a b) refl
  where
    go : (t : Bool) → ltb a b ≡ t → up (cond t (negsuc (b - suc a)) (pos (a - b))) + b ≡ dn (cond t (negsuc (b - suc a)) (pos (a - b))) + a
    go true e = omega (arith, ltb-true a b e)
    go false e = omega (arith, ltb-false a b e)

pub add_parts : (a b : ℤ) → up (a +ℤ b) + (dn a + dn b) ≡ dn (a +ℤ b) + (up a + up b)
add_parts (pos a) (pos b) = omega arith
add_parts (pos a) (negsuc b) = omega (arith, sub_parts_nat a (suc b))
add_parts (negsuc a) (pos b) = omega (arith, sub_parts_nat b (suc a))
add_parts (negsuc a) (negsuc b) = omega arith

pub up_neg : (a : ℤ) → up (neg_ℤ a) ≡ dn a
up_neg (pos zero) = refl
up_neg (pos (suc n)) = refl
up_neg (negsuc n) = refl

pub dn_neg : (a : ℤ) → dn (neg_ℤ a) ≡ up a
dn_neg (pos zero) = refl
dn_neg (pos (suc n)) = refl
dn_neg (negsuc n) = refl

pub sub_parts : (a b : ℤ) → up (a -ℤ b) + (dn a + up b) ≡ dn (a -ℤ b) + (up a + dn b)
sub_parts a b = omega (arith, add_parts a (neg_ℤ b), up_neg b, dn_neg b)

pub mul_up : (a b : ℤ) → up (a *ℤ b) ≡ up a * up b + dn a * dn b
mul_up (pos a) (pos b) = omega (arith, mul-zero a)
mul_up (pos a) (negsuc b) = omega (arith, up_neg (pos (a * suc b)))
mul_up (negsuc a) (pos b) = omega (arith, up_neg (pos (suc a * b)))
mul_up (negsuc a) (negsuc b) = omega arith

pub mul_dn : (a b : ℤ) → dn (a *ℤ b) ≡ up a * dn b + dn a * up b
mul_dn (pos a) (pos b) = omega arith
mul_dn (pos a) (negsuc b) = omega (arith, dn_neg (pos (a * suc b)))
mul_dn (negsuc a) (pos b) = omega (arith, dn_neg (pos (suc a * b)))
mul_dn (negsuc a) (negsuc b) = omega arith

-- a product's negation is the product with a factor's negation
pub mul_neg : (a b : ℤ) → a *ℤ neg_ℤ b ≡ neg_ℤ (a *ℤ b)
mul_neg a b =
    let u = simp (up_neg, dn_neg) at (mul_up a (neg_ℤ b)) in
    let d = simp (up_neg, dn_neg) at (mul_dn a (neg_ℤ b)) in
    let p = mul_up a b in
    let q = mul_dn a b in
    eq_out (a *ℤ neg_ℤ b) (neg_ℤ (a *ℤ b)) (rw (up_neg (a *ℤ b), dn_neg (a *ℤ b)) (omega arith))

-- negation turns an order round
pub neg_le : (a b : ℤ) → (neg_ℤ a ≤ℤ b) ↔ (neg_ℤ b ≤ℤ a)
neg_le a b = omega (le_in, le_out, arith, up_neg a, dn_neg a, up_neg b, dn_neg b)

pub le_neg : (a b : ℤ) → (neg_ℤ a ≤ℤ neg_ℤ b) ↔ (b ≤ℤ a)
le_neg a b = omega (le_in, le_out, arith, up_neg a, dn_neg a, up_neg b, dn_neg b)

pub neg_neg : (a : ℤ) → neg_ℤ (neg_ℤ a) ≡ a
neg_neg (pos zero) = refl
neg_neg (pos (suc n)) = refl
neg_neg (negsuc n) = refl

-- an integer is never both above and below zero
pub one_sided : (a : ℤ) → up a * dn a ≡ 0
one_sided (pos n) = omega (arith, mul-zero n)
one_sided (negsuc n) = omega (arith, zero-mul (suc n))

-- what an i64 holds
pub fits_size : (z : ℤ) → SFits w64 z → up z + dn z ≤ 2 ^ 63
fits_size (pos n) h = omega (arith, h.sfits)
fits_size (negsuc n) h = omega (arith, h.sfits)

-- a bounded number fits an i64
pub fits_out : (z : ℤ) → (up z < dn z + 2 ^ 63) × (dn z ≤ up z + 2 ^ 63) → SFits w64 z
fits_out (pos n) h = record { sfits = omega arith }
fits_out (negsuc n) h = record { sfits = omega arith }

pub fits_small : (z : ℤ) → up z + dn z < 2 ^ 63 → SFits w64 z
fits_small (pos n) h = record { sfits = omega arith }
fits_small (negsuc n) h = record { sfits = omega arith }

-- how far a sum and a difference lie from zero
pub add_size : (a b : ℤ) → up (a +ℤ b) + dn (a +ℤ b) ≤ up a + dn a + (up b + dn b)
add_size a b = go (a +ℤ b) (add_parts a b)
  where
    go : (z : ℤ) → up z + (dn a + dn b) ≡ dn z + (up a + up b) → up z + dn z ≤ up a + dn a + (up b + dn b)
    go (pos n) e = omega arith
    go (negsuc n) e = omega arith

pub mul_size : (a b : ℤ) → up (a *ℤ b) + dn (a *ℤ b) ≡ (up a + dn a) * (up b + dn b)
mul_size a b = omega (arith, mul_up a b, mul_dn a b)

pub sub_size : (a b : ℤ) → up (a -ℤ b) + dn (a -ℤ b) ≤ up a + dn a + (up b + dn b)
sub_size a b = omega (arith, add_size a (neg_ℤ b), up_neg b, dn_neg b)

pub ruleset ints =
    (arith, le_in, le_out, lt_in, lt_out, eq_in, eq_out, fits_size, lt_z_true, lt_z_false, le_z_true, le_z_false, lt_lt_z, le_lt_z, le_le_z, lt_le_z)
