-- Why the algorithm ends: a potential of the rows' widths that falls with each change, and a measure that falls with each pass. Numbers only.
use Rattle.std.specs.Prelude.{ℕ, zero, suc, ◌+◌, ◌*◌, ◌-◌, ◌≤◌, ◌<◌, ◌≡◌, refl, Bool, true, false, T, ltb}
use Rattle.std.proofs.Common.{mul-suc, not-suc-le-zero, arith, ap, ◌∙◌, ⊎_elim, ltb→lt, lt→ltb}
use Rattle.std.proofs.Math.Decide.{ℕ_discrete}
use Rattle.systems.specs.Search.{any, run}
use Rattle.systems.proofs.Laws.{run_ext, below_suc, any_true, is_true, is_false}
use Rattle.refinement.specs.Potential.{total, potential, some_up, any_up, measure, Falling}

-- one summand changed
pub total_change : (f g : ℕ → ℕ) (n i : ℕ) → i < n → ((k : ℕ) → k < n → (k ≡ i → ⊥) → g k ≡ f k) → total g n + f i ≡ total f n + g i
unfolding run
total_change f g zero i h e = absurd (not-suc-le-zero h)
total_change f g (suc n) i h e =
    ⊎_elim
    (λ q.
    let r = run_ext 0 ◌+◌ g f n (λ k b. e k (omega arith) (λ z. omega arith)) in
    let a = ap f q in
    let b = ap g q in
    omega arith)
    (λ b.
    let r = total_change f g n i b (λ k c. e k (omega arith)) in
    let l = e n (omega arith) (λ z. omega arith) in
    omega arith)
    (below_suc h)

-- summands of at most c
pub total_bound : (f : ℕ → ℕ) (c n : ℕ) → ((k : ℕ) → k < n → f k ≤ c) → total f n ≤ n * c
unfolding run
total_bound f c zero h = omega arith
total_bound f c (suc n) h =
    let r = total_bound f c n (λ k b. h k (omega arith)) in
    let l = h n (omega arith) in
    omega arith

pub potential_same : (c : ℕ) (width width' : ℕ → ℕ) (n : ℕ) → ((k : ℕ) → k < n → width' k ≡ width k) → potential c width' n ≡ potential c width n
unfolding potential
potential_same c width width' n e = let r = run_ext 0 ◌+◌ width' width n e in omega arith

-- A cut that makes row i narrower makes it smaller.
pub potential_cut : (c : ℕ) (width width' : ℕ → ℕ) (n i : ℕ) → i < n → width' i < width i → ((k : ℕ) → k < n → (k ≡ i → ⊥) → width' k ≡ width k)
    → potential c width' n < potential c width n
unfolding potential
potential_cut c width width' n i h l e = let r = total_change width width' n i h e in omega arith

-- So does a new row.
pub potential_append : (c : ℕ) (width width' : ℕ → ℕ) (n : ℕ) → n < 255 → width' n < c → ((k : ℕ) → k < n → width' k ≡ width k)
    → potential c width' (suc n) < potential c width n
unfolding potential run
potential_append c width width' n h l e =
    let r = run_ext 0 ◌+◌ width' width n e in
    let d : 255 - n ≡ suc (255 - suc n) = omega arith in
    let m : c * (255 - n) ≡ c * (255 - suc n) + c = ap (λ (k : ℕ). c * k) d ∙ mul-suc c (255 - suc n) in
    omega arith

up_le : (f : ℕ → ℕ → ℕ) (actions n : ℕ) → any_up f actions n ≤ 1
unfolding any_up
up_le f actions n = go (some_up f actions n)
  where
    go : (b : Bool) → elim b [ true ↦ 1 | false ↦ 0 ] ≤ 1
    go true = omega arith
    go false = omega arith

up_some : (f : ℕ → ℕ → ℕ) (actions n k b : ℕ) → k < n → b < actions → 0 < f k b → any_up f actions n ≡ 1
unfolding any_up
up_some f actions n k b h l u =
    rw (
      is_true (some_up f actions n)
          ((any_true (λ k. any (λ b. ltb 0 (f k b)) actions) n).1 (k, h, (any_true (λ b. ltb 0 (f k b)) actions).1 (b, l, lt→ltb 0 (f k b) u))),
      any_up,
    ) refl

up_none : (f : ℕ → ℕ → ℕ) (actions n : ℕ) → ((k b : ℕ) → k < n → b < actions → f k b ≡ 0) → any_up f actions n ≡ 0
unfolding any_up
up_none f actions n e = rw (is_false (some_up f actions n) none, any_up) refl
  where
    none : T (some_up f actions n) → ⊥
    none t =
        let (k, h, v) = (any_true (λ k. any (λ b. ltb 0 (f k b)) actions) n).0 t in
        let (b, l, u) = (any_true (λ b. ltb 0 (f k b)) actions).0 v in
        let w = ltb→lt 0 (f k b) u in
        let z = e k b h l in
        omega arith

-- A pass that finds a flag up makes it smaller: the potential falls, or no flag is up any more.
pub measure_pass : (p p' : ℕ) (f f' : ℕ → ℕ → ℕ) (actions n n' k b : ℕ) → k < n → b < actions → 0 < f k b → p' ≤ p
    → (p' ≡ p → (j c : ℕ) → j < n' → c < actions → f' j c ≡ 0) → measure p' f' actions n' < measure p f actions n
unfolding measure
measure_pass p p' f f' actions n n' k b h w u l z = go (ℕ_discrete p' p)
  where
    go : Dec (p' ≡ p) → 2 * p' + any_up f' actions n' < 2 * p + any_up f actions n
    go (yes q) = let a = up_some f actions n k b h w u in let c = up_none f' actions n' (z q) in omega arith
    go (no q) = let c = up_le f' actions n' in omega arith

pub falling_refl : (p : ℕ) (f : ℕ → ℕ → ℕ) (n : ℕ) → Falling p p f f n n
falling_refl p f n = record { falls = omega arith; rows_stay = λ e. refl; flags_down = λ e k b h l z. z }

-- a potential that falls, whatever happens to rows and flags
pub falling_less : {p p' : ℕ} {f f' : ℕ → ℕ → ℕ} {n n' : ℕ} → p' < p → Falling p p' f f' n n'
falling_less h = record { falls = omega arith; rows_stay = λ e. absurd (omega arith); flags_down = λ e. absurd (omega arith) }

pub falling_trans : {p q r : ℕ} {f g h : ℕ → ℕ → ℕ} {n m k : ℕ} → Falling p q f g n m → Falling q r g h m k → Falling p r f h n k
falling_trans {p} {q} {r} {f} {g} {h} {n} {m} {k} A B =
    let a = A.falls in
    let b = B.falls in
    record {
      falls = omega arith;
      rows_stay = λ e. B.rows_stay (omega arith) ∙ A.rows_stay (omega arith);
      flags_down =
          λ e i c l u z. let d = A.rows_stay (omega arith) in B.flags_down (omega arith) i c (omega arith) u (A.flags_down (omega arith) i c l u z);
    }
