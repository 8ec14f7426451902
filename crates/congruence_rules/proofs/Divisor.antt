-- The greatest common divisor of m and all increments: its divisors are those that m and the increments have in common.
use Rattle.std.specs.Prelude.{◌≡◌, Bool, ◌↔◌, List, [], ◌∷◌, ℕ, zero, suc, ◌-◌, ◌%◌, ◌≤◌, ◌<◌, T, eqb, length, get_or}
use Rattle.std.proofs.Common.{sym, subst, arith, not-suc-le-zero, le_of_suc-le-suc}
use Rattle.std.specs.Int.{◌∣◌}
use Rattle.std.proofs.Math.Nat.{dvd_refl, dvd-add, dvd-zero, dvd-mul_left_of_dvd, le_of_dvd, pos_of_dvd_of_pos, mod-eq-zero_of_dvd, dvd_of_mod-eq-zero}
use Rattle.systems.specs.Search.{all}
use Rattle.systems.proofs.Laws.{both, all_true, eqb_tells, least_is}
use Rattle.congruence_rules.specs.Congruence.{total, divides_all, divisor}
use Rattle.congruence_rules.specs.Euclid.{IsBezout}
use Rattle.congruence_rules.proofs.Euclid.{bezout}
use Rattle.congruence_rules.specs.Divisor.{Common, IsDivisor}

-- one increment more
pub common_in : {d m a : ℕ} {xs : List ℕ} → Common d m xs → d ∣ a → Common d m (a ∷ xs)
common_in {d} {a = a} {xs = xs} c h = record { of_modulus = c.of_modulus; of_each = each }
  where
    each : (i : ℕ) → i < suc (length xs) → d ∣ get_or (a ∷ xs) i 0
    each zero l = h
    each (suc i) l = c.of_each i (le_of_suc-le-suc l)

common_out : {d m a : ℕ} {xs : List ℕ} → Common d m (a ∷ xs) → Common d m xs × (d ∣ a)
common_out c = (record { of_modulus = c.of_modulus; of_each = λ i l. c.of_each (suc i) (omega arith) }, c.of_each 0 (omega arith))

pub divisor_more : {m h a g u : ℕ} {xs : List ℕ} → IsDivisor m xs h → IsBezout h a g u → IsDivisor m (a ∷ xs) g
divisor_more {m} {h} {a} {g} {u} {xs} D B d = (
  λ p. let c = (B.common d).0 p in common_in ((D d).0 c.0) c.1,
  λ p. let c = common_out p in (B.common d).1 ((D d).1 c.0, c.1),
)

-- it divides m, so is neither 0 nor above m
module _ {m g : ℕ} {xs : List ℕ} (l : 0 < m) (D : IsDivisor m xs g) where
  pub divisor_common : Common g m xs
  divisor_common = (D g).0 (dvd_refl g)

  pub divisor_some : 0 < g
  divisor_some = pos_of_dvd_of_pos divisor_common.of_modulus l

  pub divisor_most : g ≤ m
  divisor_most = le_of_dvd l divisor_common.of_modulus

-- the test of the definition
zero_mod : (d x : ℕ) → T (eqb (x % d) 0) ↔ (d ∣ x)
zero_mod d x = (
  λ t. dvd_of_mod-eq-zero d ((eqb_tells (x % d) 0).0 t),
  λ h. (eqb_tells (x % d) 0).1 (mod-eq-zero_of_dvd d h),
)

divides_common : (d m : ℕ) (xs : List ℕ) → T (divides_all d m xs) ↔ Common d m xs
unfolding divides_all
divides_common d m xs = (
  λ t.
      let (h, e) = (both (eqb (m % d) 0) (all test (length xs))).0 t in
      record { of_modulus = (zero_mod d m).0 h; of_each = λ i l. (zero_mod d (get_or xs i 0)).0 ((all_true test (length xs)).0 e i l) },
  λ c.
      (both (eqb (m % d) 0) (all test (length xs))).1
      ((zero_mod d m).1 c.of_modulus, (all_true test (length xs)).1 (λ i l. (zero_mod d (get_or xs i 0)).1 (c.of_each i l))),
)
  where
    test : ℕ → Bool
    test i = eqb (get_or xs i 0 % d) 0

-- what has the divisors in common is the greatest of them
pub divisor_is : {m g : ℕ} {xs : List ℕ} → 0 < m → IsDivisor m xs g → divisor m xs ≡ g
unfolding divisor
divisor_is {m} {g} {xs} l D =
    let s = divisor_some l D in
    let b = divisor_most l D in
    let e =
    least_is (λ i. divides_all (m - i) m xs) m (m - g) (omega arith)
    (λ h. (divides_common (m - (m - g)) m xs).1 (subst (λ (d : ℕ). Common d m xs) (omega arith) (divisor_common l D)))
    (λ i h t. let x = le_of_dvd s ((D (m - i)).1 ((divides_common (m - i) m xs).0 t)) in omega arith) in
    omega arith

-- one exists: m where there are no increments, else that of one increment more
pub divisor_none : (m : ℕ) → IsDivisor m [] m
divisor_none m d = (λ p. record { of_modulus = p; of_each = λ i h. absurd (not-suc-le-zero h) }, λ c. c.of_modulus)

exists : (m : ℕ) (xs : List ℕ) → 0 < m → (g : ℕ) × IsDivisor m xs g
exists m [] l = (m, divisor_none m)
exists m (a ∷ xs) l =
    let (h, D) = exists m xs l in
    let E = bezout h a (divisor_some l D) in
    (E.divisor, divisor_more D E.is)

-- The definition's divisor has just the divisors that m and all increments have in common.
pub divisor_has : (m : ℕ) (xs : List ℕ) → 0 < m → IsDivisor m xs (divisor m xs)
divisor_has m xs l = let (g, D) = exists m xs l in subst (IsDivisor m xs) (sym (divisor_is l D)) D

-- so it is the greatest of them
pub divisor_greatest : (m : ℕ) (xs : List ℕ) → 0 < m → Common (divisor m xs) m xs × ((d : ℕ) → Common d m xs → d ≤ divisor m xs)
divisor_greatest m xs l =
    let D = divisor_has m xs l in
    (divisor_common l D, λ d c. le_of_dvd (divisor_some l D) ((D d).1 c))

-- every sum of increments is a multiple of what divides them all
pub total_divided : {d m : ℕ} (xs cs : List ℕ) → Common d m xs → d ∣ total xs cs
unfolding total
total_divided {d} [] cs c = dvd-zero d
total_divided {d} (a ∷ xs) [] c = dvd-zero d
total_divided {d} (a ∷ xs) (k ∷ cs) c = let (p, h) = common_out c in dvd-add d (dvd-mul_left_of_dvd d h k) (total_divided xs cs p)
