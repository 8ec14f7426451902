-- What is promised of counters that go round.
use Rattle.std.specs.Prelude.{◌≡◌, refl, ◌↔◌, List, [], ◌∷◌, ℕ, ◌+◌, ◌*◌, ◌%◌, ◌≤◌, ◌<◌, T, length, Option, None, Some}
use Rattle.std.proofs.Common.{sym, ap, subst, ◌∙◌, ⊎_elim, arith}
use Rattle.std.specs.Int.{◌∣◌}
use Rattle.systems.proofs.Laws.{eqb_tells}
use Rattle.systems.specs.Words.{Before}
use Rattle.systems.specs.Dictionary.{ListBelow, Found, found, nothing}
use Rattle.systems.proofs.Dictionary.{nil_first, before_cases, ordered, below_in, search_lists}
use Rattle.congruence_rules.specs.Congruence.{total, leads, first_solution, divisor, Solution}
use Rattle.congruence_rules.specs.Modular.{Same}
use Rattle.congruence_rules.proofs.Modular.{same, same_sym, same_trans, same_add, same_sub, same_down, same_divides, divides_same, same_divided, mod_same, same_mod, minus_same, rounds_same}
use Rattle.congruence_rules.proofs.Euclid.{bezout}
use Rattle.congruence_rules.proofs.Divisor.{divisor_more, divisor_is, divisor_has, divisor_common, divisor_some, divisor_most, divisor_none, total_divided}
use Rattle.congruence_rules.specs.Greedy.{least_count, remaining, greedy, IsCount}
use Rattle.congruence_rules.proofs.Greedy.{bezout_count, bezout_least}
use Rattle.congruence_rules.specs.Theorems.{IsFirst, difference}

-- what is found is a solution, and no solution is before it; where nothing is found there is none: of any numbers
counts_solution : (m s w : ℕ) (xs cs : List ℕ) → (ListBelow m (length xs) cs × T (leads m s w xs cs)) ↔ Solution m s w xs cs
counts_solution m s w xs cs = (
  λ p. record { one_each = p.0.long; below = p.0.below; arrives = (eqb_tells ((s + total xs cs) % m) (w % m)).0 p.1 },
  λ S. (record { long = S.one_each; below = S.below }, (eqb_tells ((s + total xs cs) % m) (w % m)).1 S.arrives),
)

pub first_first : (m s w : ℕ) (xs cs : List ℕ) → first_solution m s w xs ≡ Some cs → IsFirst m s w xs cs
unfolding first_solution
first_first m s w xs cs e = go (subst (Found Before (ListBelow m (length xs)) (leads m s w xs)) e (search_lists m (length xs) (leads m s w xs)))
  where
    go : Found Before (ListBelow m (length xs)) (leads m s w xs) (Some cs) → IsFirst m s w xs cs
    go (found C t f) = record {
      solution = (counts_solution m s w xs cs).0 (C, t);
      first = λ ds S. let (D, u) = (counts_solution m s w xs ds).1 S in f ds D u;
    }

pub none_solves : (m s w : ℕ) (xs : List ℕ) → first_solution m s w xs ≡ None → (cs : List ℕ) → Solution m s w xs cs → ⊥
unfolding first_solution
none_solves m s w xs e cs S = go (subst (Found Before (ListBelow m (length xs)) (leads m s w xs)) e (search_lists m (length xs) (leads m s w xs)))
  where
    go : Found Before (ListBelow m (length xs)) (leads m s w xs) None → ⊥
    go (nothing f) = let (C, t) = (counts_solution m s w xs cs).1 S in f cs C t

-- the first of all solutions is one alone
pub first_only : (m s w : ℕ) (xs cs ds : List ℕ) → IsFirst m s w xs cs → IsFirst m s w xs ds → cs ≡ ds
first_only m s w xs cs ds C D =
    ⊎_elim
    (λ e. e)
    (λ b. absurd (⊎_elim (λ b. D.first cs C.solution b) (λ b. C.first ds D.solution b) b))
    (ordered cs ds (C.solution.one_each ∙ sym D.solution.one_each))

-- so the search finds what is first
pub first_found : (m s w : ℕ) (xs cs : List ℕ) → IsFirst m s w xs cs → first_solution m s w xs ≡ Some cs
first_found m s w xs cs C = go (first_solution m s w xs) refl
  where
    go : (o : Option (List ℕ)) → first_solution m s w xs ≡ o → o ≡ Some cs
    go None e = absurd (none_solves m s w xs e cs C.solution)
    go (Some ds) e = ap Some (first_only m s w xs ds cs (first_first m s w xs ds e) C)

pub none_found : (m s w : ℕ) (xs : List ℕ) → ((cs : List ℕ) → Solution m s w xs cs → ⊥) → first_solution m s w xs ≡ None
none_found m s w xs h = go (first_solution m s w xs) refl
  where
    go : (o : Option (List ℕ)) → first_solution m s w xs ≡ o → o ≡ None
    go None e = refl
    go (Some cs) e = absurd (h cs (first_first m s w xs cs e).solution)

-- Least count first: the least count of the first increment, and what is left is a multiple of the divisor of the others.
module _ (m a r : ℕ) (xs : List ℕ) (l : 0 < m) (h : divisor m (a ∷ xs) ∣ r) where
  abbrev after : ℕ
  after = divisor m xs

  abbrev count : ℕ
  count = least_count after a r

  pub least_count_lem : IsCount after a r count
  least_count_lem =
      let D = divisor_has m xs l in
      let E = bezout after a (divisor_some l D) in
      let k = subst (λ (g : ℕ). g ∣ r) (divisor_is l (divisor_more D E.is)) h in
      subst (IsCount after a r) (sym (bezout_least (divisor_some l D) E.is k)) (bezout_count (divisor_some l D) E.is k)

  pub left_divided : after ∣ remaining m a count r
  left_divided =
      let c = (divisor_common l (divisor_has m xs l)).of_modulus in
      let e : Same after (remaining m a count r + count * a) (0 + r) = same_trans (same_down c (rounds_same m r (count * a) l)) (same (omega arith)) in
      same_divided (same_sub e least_count_lem.leaves)

-- it solves
pub greedy_solves : (m : ℕ) (xs : List ℕ) (r : ℕ) → 0 < m → divisor m xs ∣ r → ListBelow m (length xs) (greedy m xs r) × Same m (total xs (greedy m xs r)) r
unfolding greedy total
greedy_solves m [] r l h =
    (record { long = refl; below = λ i b. absurd (omega arith) }, same_sym (divides_same (subst (λ (g : ℕ). g ∣ r) (divisor_is l (divisor_none m)) h)))
greedy_solves m (a ∷ xs) r l h =
    let C = least_count_lem m a r xs l h in
    let b = divisor_most l (divisor_has m xs l) in
    let (D, e) = greedy_solves m xs (remaining m a (least_count (divisor m xs) a r) r) l (left_divided m a r xs l h) in
    (below_in (omega (arith, C.below)) D, same_trans (same_add (same refl) e) (same_trans (same (omega arith)) (rounds_same m r (least_count (divisor m xs) a r * a) l)))

-- and no solution is before it
pub greedy_first : (m : ℕ) (xs : List ℕ) (r : ℕ) (ds : List ℕ) → 0 < m → divisor m xs ∣ r → length ds ≡ length xs → Same m (total xs ds) r
    → Before ds (greedy m xs r) → ⊥
unfolding greedy total
greedy_first m [] r ds l h n e b = nil_first b refl
greedy_first m (a ∷ xs) r [] l h n e b = omega arith
greedy_first m (a ∷ xs) r (d ∷ ds) l h n e b =
    let c = least_count (divisor m xs) a r in
    let later = greedy_first m xs (remaining m a c r) ds l (left_divided m a r xs l h) (omega arith) in
    ⊎_elim sooner (λ q. later (behind q.0) q.1) (before_cases b)
  where
    sooner : d < least_count (divisor m xs) a r → ⊥
    sooner k =
        let D = divisor_common l (divisor_has m xs l) in
        let s : Same (divisor m xs) (d * a + total xs ds) (r + 0) = same_trans (same_down D.of_modulus e) (same (omega arith)) in
        (least_count_lem m a r xs l h).least d k (same_sub s (divides_same (total_divided xs ds D)))

    behind : d ≡ least_count (divisor m xs) a r → Same m (total xs ds) (remaining m a (least_count (divisor m xs) a r) r)
    behind p =
        let c = least_count (divisor m xs) a r in
        let q = ap (λ (k : ℕ). k * a) p in
        let s : Same m (total xs ds + c * a) (d * a + total xs ds) = same (omega arith) in
        same_sub (same_trans s (same_trans e (same_sym (rounds_same m r (c * a) l)))) (same {x = c * a} refl)

module _ (m s w : ℕ) (xs : List ℕ) (l : 0 < m) (b : s ≤ m) where
  total_same : (cs : List ℕ) → (Same m (s + total xs cs) w) ↔ (Same m (total xs cs) (difference m s w))
  total_same cs = (
    λ e. same_sub (same_trans (same (omega arith)) (same_trans e (same_sym (minus_same m w s b)))) (same {x = s} refl),
    λ e. same_trans (same (omega arith)) (same_trans (same_add e (same {x = s} refl)) (minus_same m w s b)),
  )

  -- where the divisor of m and all increments divides the difference, the least counts are the first solution
  pub greedy_is_first : divisor m xs ∣ difference m s w → IsFirst m s w xs (greedy m xs (difference m s w))
  greedy_is_first h =
      let r = difference m s w in
      let (C, e) = greedy_solves m xs r l h in
      record {
        solution = record { one_each = C.long; below = C.below; arrives = same_mod ((total_same (greedy m xs r)).1 e) };
        first = λ ds S. greedy_first m xs r ds l h S.one_each ((total_same ds).0 (mod_same S.arrives));
      }

  -- where there is a solution, it does; else there is none
  pub solution_divided : (cs : List ℕ) → Solution m s w xs cs → divisor m xs ∣ difference m s w
  solution_divided cs S =
      let D = divisor_common l (divisor_has m xs l) in
      same_divides (divisor m xs) D.of_modulus (same_sym ((total_same cs).0 (mod_same S.arrives))) (total_divided xs cs D)

  -- it divides the difference just if s and w are equal modulo the divisor
  pub divided_alike : (divisor m xs ∣ difference m s w) ↔ (s % divisor m xs ≡ w % divisor m xs)
  divided_alike =
      let g = divisor m xs in
      let e : Same g (difference m s w + s) w = same_down (divisor_common l (divisor_has m xs l)).of_modulus (minus_same m w s b) in (
        λ h. same_mod (same_trans (same_sym (same_trans (same_add (divides_same h) (same {x = s} refl)) (same (omega arith)))) e),
        λ q. let d : Same g (difference m s w + s) (0 + w) = same_trans e (same (omega arith)) in same_divided (same_sub d (mod_same q)),
      )

  -- what is found
  pub found_divided : divisor m xs ∣ difference m s w → first_solution m s w xs ≡ Some (greedy m xs (difference m s w))
  found_divided h = first_found m s w xs (greedy m xs (difference m s w)) (greedy_is_first h)

  pub found_none : (divisor m xs ∣ difference m s w → ⊥) → first_solution m s w xs ≡ None
  found_none h = none_found m s w xs (λ cs S. h (solution_divided cs S))

  -- A solution is found just if s and w are equal modulo the greatest common divisor, and nothing just if they differ.
  pub some_alike : (cs : List ℕ) → first_solution m s w xs ≡ Some cs → s % divisor m xs ≡ w % divisor m xs
  some_alike cs e = divided_alike.0 (solution_divided cs (first_first m s w xs cs e).solution)

  pub alike_some : s % divisor m xs ≡ w % divisor m xs → first_solution m s w xs ≡ Some (greedy m xs (difference m s w))
  alike_some e = found_divided (divided_alike.1 e)

  pub none_apart : (first_solution m s w xs ≡ None) ↔ (s % divisor m xs ≡ w % divisor m xs → ⊥)
  none_apart = (
    λ e q. none_solves m s w xs e (greedy m xs (difference m s w)) (greedy_is_first (divided_alike.1 q)).solution,
    λ h. found_none (λ d. h (divided_alike.0 d)),
  )
