-- A chart whose header is right: its counts are within their limits and its length is what they give.
use Rattle.std.specs.Prelude.{◌≡◌, refl, List, ℕ, suc, ◌+◌, ◌*◌, ◌≤◌, ◌<◌, length, get_or}
use Rattle.std.proofs.Common.{ap, ◌∙◌, arith, mul-le-mul, mul-le-mul_right}
use Rattle.integers.specs.LittleEndian.{unsigned_at}
use Rattle.model.specs.Chart.{actions_of, blocks_of, record_at, label_of, target_of}
use Rattle.chart_bytes.specs.Header.{target_at}

pub record Shaped (c : List ℕ) : Type 0 where
  pub header : 7 ≤ length c
  pub actions_some : 1 ≤ actions_of c
  pub actions_few : actions_of c ≤ 8
  pub blocks_some : 1 ≤ blocks_of c
  pub blocks_few : blocks_of c ≤ 255
  pub length_right : length c ≡ record_at c (blocks_of c)

-- the bytes are few
pub shaped_small : (c : List ℕ) → Shaped c → length c ≤ 2557
unfolding record_at
shaped_small c s =
    let a : 2 + actions_of c ≤ 10 = omega (arith, s.actions_few) in
    let m : blocks_of c * (2 + actions_of c) ≤ 255 * 10 = mul-le-mul s.blocks_few a in
    omega (arith, s.length_right)

-- a record lies within the bytes
pub record_fits : (c : List ℕ) → Shaped c → (i : ℕ) → i < blocks_of c → 7 + i * (2 + actions_of c) + 2 + actions_of c ≤ length c
unfolding record_at
record_fits c s i h = let m = mul-le-mul_right {m = suc i} {n = blocks_of c} (2 + actions_of c) h in omega (arith, s.length_right)

-- and so do its few bytes
pub record_small : (c : List ℕ) → Shaped c → (i : ℕ) → i < blocks_of c → i * (2 + actions_of c) ≤ 2550
record_small c s i h = let m = mul-le-mul_right {m = i} {n = 255} (2 + actions_of c) (omega arith) in omega arith

pub record_start : (c : List ℕ) (i : ℕ) → 7 + i * (2 + actions_of c) ≡ record_at c i
unfolding record_at
record_start c i = refl

-- the place of a target, and that it lies within the bytes
pub target_place : (c : List ℕ) → Shaped c → (i a r : ℕ) → i < blocks_of c → a < actions_of c → r ≡ record_at c i
    → (r + 2 + a ≡ target_at c i a) × (r + 2 + a < length c)
unfolding target_at record_at
target_place c s i a r h b e = (rw e refl, omega (arith, record_fits c s i h))

pub target_byte : (c : List ℕ) (i a r : ℕ) → r ≡ target_at c i a → get_or c r 0 ≡ target_of c i a
unfolding target_at target_of
target_byte c i a r e = ap (λ (k : ℕ). get_or c k 0) e

pub label_fits : (c : List ℕ) → Shaped c → (i r : ℕ) → i < blocks_of c → r ≡ record_at c i → r + 2 ≤ length c
unfolding record_at
label_fits c s i r h e = omega (arith, record_fits c s i h)

pub label_number : (c : List ℕ) (i r v : ℕ) → r ≡ record_at c i → v ≡ unsigned_at 2 c r → v ≡ label_of c i
unfolding label_of
label_number c i r v e h = h ∙ ap (unsigned_at 2 c) e

-- the header is there and its counts are within their limits
pub record Counted (c : List ℕ) : Type 0 where
  pub header : 7 ≤ length c
  pub actions_some : 1 ≤ actions_of c
  pub actions_few : actions_of c ≤ 8
  pub blocks_some : 1 ≤ blocks_of c
  pub blocks_few : blocks_of c ≤ 255
