-- For each increment, what Euclid's algorithm gives of it and of the divisor of what comes after it.
use Rattle.std.specs.Prelude.{◌≡◌, refl, List, ◌∷◌, ℕ, suc, ◌+◌, ◌-◌, ◌≤◌, ◌<◌, length, get_or, drop, replicate, set}
use Rattle.std.proofs.Common.{sym, ap, subst, ◌∙◌, arith, length-set, drop_of_length-le, drop-cons, get_or-set_same, get_or-set_other}
use Rattle.std.proofs.Math.Decide.{dec_lt}
use Rattle.std.proofs.Math.Nat.{le_of_dvd, dvd_refl}
use Rattle.std.proofs.lemmas.List.{get_or-replicate}
use Rattle.congruence.specs.declared.Bezout.{Bezout}
use Rattle.congruence_rules.specs.Congruence.{divisor}
use Rattle.congruence_rules.specs.Euclid.{IsBezout}
use Rattle.congruence_rules.proofs.Divisor.{divisor_has, divisor_some, divisor_most, divisor_none, divisor_is, divisor_more}

abbrev pub tail_at : List Bezout → ℕ → Bezout
tail_at ts j = get_or ts j (record { divisor = 0; factor = 0 })

-- t is what Euclid's algorithm gives of increment j and of the divisor of those after it, which u has
abbrev pub Identity : List ℕ → ℕ → Bezout → Bezout → Type 0
Identity xs j u t = IsBezout u.divisor (get_or xs j 0) t.divisor t.factor

-- From the increment i on: the divisor of m and the increments from each on, to that of none, and Bezout's identity of each increment and the
-- divisor of those after it.
pub record Tails (m : ℕ) (xs : List ℕ) (i : ℕ) (ts : List Bezout) : Type 0 where
  pub long : length ts ≡ 9
  pub divisors : (j : ℕ) → i ≤ j → j ≤ length xs → (tail_at ts j).divisor ≡ divisor m (drop j xs)
  pub identity : (j : ℕ) → i ≤ j → j < length xs → Identity xs j (tail_at ts (j + 1)) (tail_at ts j)
  pub small : (j : ℕ) → i ≤ j → j < length xs → (tail_at ts j).factor ≤ 65536

-- with no increment taken in, each is m
pub tails_begun : (m : ℕ) (xs : List ℕ) → 0 < m → length xs ≤ 8 → Tails m xs (length xs) (replicate 9 (record { divisor = m; factor = 0 }))
tails_begun m xs l b = record {
  long = refl;
  divisors = λ j h k.
      let none = ap (divisor m) (drop_of_length-le xs {i = j} h) ∙ divisor_is l (divisor_none m) in
      ap (λ (t : Bezout). t.divisor) (get_or-replicate 9 j (record { divisor = m; factor = 0 }) (record { divisor = 0; factor = 0 }) (omega arith)) ∙ sym none;
  identity = λ j h k. absurd (omega arith);
  small = λ j h k. absurd (omega arith);
}

-- when all are taken in
pub tails_all : {m i : ℕ} {xs : List ℕ} {ts : List Bezout} → i ≡ 0 → Tails m xs i ts → Tails m xs 0 ts
tails_all {m} {xs = xs} {ts = ts} e E = subst (λ (i : ℕ). Tails m xs i ts) e E

-- a divisor is neither 0 nor above m, nor above that of fewer increments
module _ {m : ℕ} {xs : List ℕ} {i : ℕ} {ts : List Bezout} (l : 0 < m) (E : Tails m xs i ts) where
  pub tail_small : (j : ℕ) → i ≤ j → j ≤ length xs → (0 < (tail_at ts j).divisor) × ((tail_at ts j).divisor ≤ m)
  tail_small j h b =
      let D = divisor_has m (drop j xs) l in
      let e = E.divisors j h b in
      (omega (arith, e, divisor_some l D), omega (arith, e, divisor_most l D))

  pub tail_falls : (j : ℕ) → i ≤ j → j < length xs → (tail_at ts j).divisor ≤ (tail_at ts (j + 1)).divisor
  tail_falls j h b =
      let g = (tail_at ts j).divisor in
      le_of_dvd (tail_small (j + 1) (omega arith) (omega arith)).0 (((E.identity j h b).common g).0 (dvd_refl g)).0

-- one increment more
module _ {m : ℕ} {xs : List ℕ} {i : ℕ} {ts : List Bezout} {t : Bezout} (l : 0 < m) (some : 0 < i) (b : i ≤ length xs) (short : length xs ≤ 8) (E : Tails m xs i ts)
    (B : Identity xs (i - 1) (tail_at ts i) t) (f : t.factor ≤ 65536) where
  abbrev more : List Bezout
  more = set ts (i - 1) t

  before : suc (i - 1) ≡ i
  before = omega arith

  here : divisor m (drop (i - 1) xs) ≡ t.divisor
  here =
      let D = divisor_has m (drop i xs) l in
      let C = subst (λ (h : ℕ). IsBezout h (get_or xs (i - 1) 0) t.divisor t.factor) (E.divisors i (omega arith) b) B in
      let tail = drop-cons xs (i - 1) 0 (omega arith) ∙ ap (λ (k : ℕ). get_or xs (i - 1) 0 ∷ drop k xs) before in
      ap (divisor m) tail ∙ divisor_is l (divisor_more D C)

  at_new : tail_at more (i - 1) ≡ t
  at_new = let n = E.long in get_or-set_same ts (i - 1) t (record { divisor = 0; factor = 0 }) (omega arith)

  at_old : (j : ℕ) → i ≤ j → tail_at more j ≡ tail_at ts j
  at_old j h = get_or-set_other ts (i - 1) j t (record { divisor = 0; factor = 0 }) (λ q. omega arith)

  -- what holds of the new one and, as far as Q, of the old ones, holds of each
  each : (Q P : ℕ → Type 0) → P (i - 1) → ((j : ℕ) → i ≤ j → Q j → P j) → (j : ℕ) → i - 1 ≤ j → Q j → P j
  each Q P p f j h k = go (dec_lt j i)
    where
      go : Dec (j < i) → P j
      go (yes l) = let q : i - 1 ≡ j = omega arith in subst P q p
      go (no l) = f j (omega arith) k

  identity_new : Identity xs (i - 1) (tail_at more (i - 1 + 1)) (tail_at more (i - 1))
  identity_new =
      let after : tail_at ts i ≡ tail_at more (i - 1 + 1) = sym (at_old i (omega arith)) ∙ ap (tail_at more) (omega arith) in
      subst (Identity xs (i - 1) (tail_at more (i - 1 + 1))) (sym at_new) (subst (λ (u : Bezout). Identity xs (i - 1) u t) after B)

  identity_old : (j : ℕ) → i ≤ j → j < length xs → Identity xs j (tail_at more (j + 1)) (tail_at more j)
  identity_old j h k =
      let after = sym (at_old (j + 1) (omega arith)) in
      subst (Identity xs j (tail_at more (j + 1))) (sym (at_old j h)) (subst (λ (u : Bezout). Identity xs j u (tail_at ts j)) after (E.identity j h k))

  pub tails_next : Tails m xs (i - 1) (set ts (i - 1) t)
  tails_next = record {
    long = length-set ts (i - 1) t ∙ E.long;
    divisors =
        each
        (λ (j : ℕ). j ≤ length xs)
        (λ (j : ℕ). (tail_at more j).divisor ≡ divisor m (drop j xs))
        (ap (λ (u : Bezout). u.divisor) at_new ∙ sym here)
        (λ j h k. ap (λ (u : Bezout). u.divisor) (at_old j h) ∙ E.divisors j h k);
    identity = each (λ (j : ℕ). j < length xs) (λ (j : ℕ). Identity xs j (tail_at more (j + 1)) (tail_at more j)) identity_new identity_old;
    small =
        each
        (λ (j : ℕ). j < length xs)
        (λ (j : ℕ). (tail_at more j).factor ≤ 65536)
        (subst (λ (u : Bezout). u.factor ≤ 65536) (sym at_new) f)
        (λ j h k. subst (λ (u : Bezout). u.factor ≤ 65536) (sym (at_old j h)) (E.small j h k));
  }
