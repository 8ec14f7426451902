-- What the code computes, as the definitions have it.
use Rattle.std.specs.Prelude.{◌≡◌, refl, Bool, true, false, T, length, replicate, set, Some, None, option_map, Ok, Err}
use Rattle.std.proofs.Math.Path.{sym, ap, subst}
use Rattle.std.proofs.Common.{◌∙◌, mod-lt, mul-le-mul, le-div_iff_mul-le, length-set, drop-cons, ext_get_or, get_or-set_same, get_or-set_other, get_or-drop, drop-drop}
use mathlib.Core.List.{List, [], ◌∷◌}
use Prim.Native.Nat.{ℕ, suc, ◌+◌, ◌-◌, ◌*◌, ◌/◌, ◌%◌, ◌≤◌, ◌<◌, ◌∣◌}
use native.Mathlib.Omega.{arith}
use Rattle.std.proofs.Math.Decide.{dec_lt}
use Rattle.std.proofs.Math.Nat.{dvd_of_mod-eq-zero, mod-eq-zero_of_dvd}
use Rattle.std.proofs.Math.ListN.{get_or, drop, get_or-eq_default}
use Rattle.systems.proofs.Laws.{is_true, is_false, true_is, same_test, below_next}
use Rattle.congruence.specs.declared.Bezout.{Bezout}
use Rattle.congruence_rules.specs.Congruence.{all_below, allowed, divisor, eight, go_round, Asked}
use Rattle.congruence_rules.specs.Euclid.{IsBezout}
use Rattle.congruence_rules.proofs.Divisor.{divisor_has, divisor_some}
use Rattle.congruence_rules.specs.Greedy.{least_count, remaining, greedy}
use Rattle.congruence.specs.Tails.{tail_at, Tails}
use Rattle.congruence_rules.specs.Theorems.{difference}
use Rattle.congruence_rules.proofs.Theorems.{left_divided, found_divided, found_none}
use Rattle.congruence_rules.proofs.Answered.{allowed_asked, below_each, asked_answered, unasked_refused, zeros_at, eight_at, eight_long}
use Rattle.answer_rules.specs.declared.Reason.TheVariants.{GoRound}
use Rattle.answer_rules.specs.declared.Refusal.{Refusal}
use Rattle.answer_rules.specs.Refusal.{Checked, at}
use Rattle.answer_rules.specs.Stages.{demand}
use Rattle.answer_rules.proofs.Stages.{demand_fine, demand_where}

-- a number that is not below m stops the test; where all were passed, all are below
pub below_stopped : (m : ℕ) (xs : List ℕ) (i : ℕ) → i < length xs → m ≤ get_or xs i 0 → false ≡ all_below m xs
below_stopped m xs i h l = sym (is_false (all_below m xs) (λ t. let b = (below_each m xs).0 t i h in omega arith))

pub below_passed : (m : ℕ) (xs : List ℕ) → ((i : ℕ) → i < length xs → get_or xs i 0 < m) → true ≡ all_below m xs
below_passed m xs f = sym (is_true (all_below m xs) ((below_each m xs).1 f))

-- one number beyond its limits is enough to refuse; where the others are within theirs, the increments decide
pub beyond : {m s w : ℕ} {xs : List ℕ} → (Asked m s w xs → ⊥) → false ≡ allowed m s w xs
beyond {m} {s} {w} {xs} h = sym (is_false (allowed m s w xs) (λ t. h ((allowed_asked m s w xs).0 t)))

pub by_increments : {m s w : ℕ} (xs : List ℕ) {t : Bool} → (2 ≤ m) × (m ≤ 65536) → (s < m) × (w < m) → (1 ≤ length xs) × (length xs ≤ 8) → t ≡ all_below m xs
    → t ≡ allowed m s w xs
by_increments {m} {s} {w} xs a b c e =
    e ∙ same_test (all_below m xs) (allowed m s w xs) (
      λ t. (allowed_asked m s w xs).1 (record { modulus = a; some_increments = c; start = b.0; wanted = b.1; increments = (below_each m xs).0 t }),
      λ t. (below_each m xs).1 ((allowed_asked m s w xs).0 t).increments,
    )

-- a product of two numbers of 17 bits fits
pub product_fits : (x y : ℕ) → x ≤ 65536 → y ≤ 65536 → x * y ≤ 4294967296
product_fits x y h l = mul-le-mul h l

-- a quotient of numbers, of which the second is not the greater, is not 0
pub quotient_some : (x y : ℕ) → 0 < y → y ≤ x → 0 < x / y
quotient_some x y h l = (le-div_iff_mul-le {x = 1} h).1 (omega arith)

-- How far the counts are filled in: those before i are those of the first solution, the others 0; and what is left leads to the rest of it.
pub record Filling (m r : ℕ) (xs : List ℕ) (i left : ℕ) (counts : List ℕ) : Type 0 where
  pub long : length counts ≡ 8
  pub left_small : left ≤ 65536
  pub left_divided : divisor m (drop i xs) ∣ left
  pub rest : drop i (greedy m xs r) ≡ greedy m (drop i xs) left
  pub filled : (k : ℕ) → k < i → get_or counts k 0 ≡ get_or (greedy m xs r) k 0
  pub zeros : (k : ℕ) → i ≤ k → get_or counts k 0 ≡ 0

pub filling_begun : (m r : ℕ) (xs : List ℕ) → r ≤ 65536 → divisor m xs ∣ r → Filling m r xs 0 r (replicate 8 0)
filling_begun m r xs b h = record {
  long = refl;
  left_small = b;
  left_divided = h;
  rest = refl;
  filled = λ k l. absurd (omega arith);
  zeros = λ k l. zeros_at 8 k;
}

module _ {m r : ℕ} {xs : List ℕ} {i left : ℕ} {counts : List ℕ} (l : 0 < m) (small : m ≤ 65536) (b : i < length xs) (F : Filling m r xs i left counts) where
  abbrev increment : ℕ
  increment = get_or xs i 0

  abbrev others : List ℕ
  others = drop (suc i) xs

  abbrev count : ℕ
  count = least_count (divisor m others) increment left

  shape : drop i xs ≡ increment ∷ others
  shape = drop-cons xs i 0 b

  here_divided : divisor m (increment ∷ others) ∣ left
  here_divided = subst (λ (xs : List ℕ). divisor m xs ∣ left) shape F.left_divided

  here : drop i (greedy m xs r) ≡ greedy m (increment ∷ others) left
  here = F.rest ∙ ap (λ (xs : List ℕ). greedy m xs left) shape

  count_here : get_or (greedy m xs r) i 0 ≡ count
  unfolding greedy
  count_here = ap (λ (k : ℕ). get_or (greedy m xs r) k 0) (omega arith) ∙ sym (get_or-drop i (greedy m xs r) 0 0) ∙ ap (λ (xs : List ℕ). get_or xs 0 0) here

  rest_behind : drop (i + 1) (greedy m xs r) ≡ greedy m (drop (i + 1) xs) (remaining m increment count left)
  unfolding greedy
  rest_behind =
      let next : suc i ≡ i + 1 = omega arith in
      let tail : drop 1 (drop i (greedy m xs r)) ≡ greedy m others (remaining m increment count left) = ap (λ (ys : List ℕ). drop 1 ys) here in
      sym (drop-drop 1 i (greedy m xs r)) ∙ tail ∙ ap (λ (k : ℕ). greedy m (drop k xs) (remaining m increment count left)) next

  next_filled : length xs ≤ 8 → Filling m r xs (i + 1) (remaining m increment count left) (set counts i count)
  next_filled e =
      let n = F.long in
      let next : suc i ≡ i + 1 = omega arith in
      record {
        long = length-set counts i count ∙ n;
        left_small = omega (arith, mod-lt (left + (m - (count * increment) % m)) l);
        left_divided = subst (λ (k : ℕ). divisor m (drop k xs) ∣ remaining m increment count left) next (left_divided m increment left others l here_divided);
        rest = rest_behind;
        filled = below_next i (λ k h. get_or-set_other counts i k count 0 (λ q. omega arith) ∙ F.filled k h) (get_or-set_same counts i count 0 (omega arith) ∙ sym count_here);
        zeros = λ k h. get_or-set_other counts i k count 0 (λ q. omega arith) ∙ F.zeros k (omega arith);
      }

-- one count more, as the machine has it
module _ {m r : ℕ} {xs : List ℕ} {ts : List Bezout} {i left : ℕ} {counts : List ℕ} (l : 0 < m) (small : m ≤ 65536) (E : Tails m xs 0 ts) (b : i < length xs)
    (F : Filling m r xs i left counts) where
  after_is : (tail_at ts (i + 1)).divisor ≡ divisor m (drop (suc i) xs)
  after_is =
      let next : i + 1 ≡ suc i = omega arith in
      E.divisors (i + 1) (omega arith) (omega arith) ∙ ap (λ (k : ℕ). divisor m (drop k xs)) next

  pub here_divides : (tail_at ts i).divisor ∣ left
  here_divides = subst (λ (g : ℕ). g ∣ left) (sym (E.divisors i (omega arith) (omega arith))) F.left_divided

  pub count_is : {count : ℕ}
      → ((a : ℕ) → IsBezout (tail_at ts (i + 1)).divisor a (tail_at ts i).divisor (tail_at ts i).factor → count ≡ least_count (tail_at ts (i + 1)).divisor a left)
      → count ≡ least_count (divisor m (drop (suc i) xs)) (get_or xs i 0) left
  count_is e = e (get_or xs i 0) (E.identity i (omega arith) b) ∙ ap (λ (k : ℕ). least_count k (get_or xs i 0) left) after_is

  pub filling_next : {count rest : ℕ} → length xs ≤ 8 → count ≡ least_count (divisor m (drop (suc i) xs)) (get_or xs i 0) left
      → rest ≡ remaining m (get_or xs i 0) count left → Filling m r xs (i + 1) rest (set counts i count)
  filling_next {count} {rest} e c n =
      subst
      (λ (y : ℕ). Filling m r xs (i + 1) y (set counts i count))
      (sym n)
      (subst (λ (k : ℕ). Filling m r xs (i + 1) (remaining m (get_or xs i 0) k left) (set counts i k)) (sym c) (next_filled l small b F e))

-- when all are filled in
greedy_long : (m : ℕ) (xs : List ℕ) (r : ℕ) → length (greedy m xs r) ≡ length xs
unfolding greedy
greedy_long m [] r = refl
greedy_long m (a ∷ xs) r = ap suc (greedy_long m xs (remaining m a (least_count (divisor m xs) a r) r))

pub filling_ended : {m r i left : ℕ} {xs counts : List ℕ} → length xs ≤ 8 → i ≡ length xs → Filling m r xs i left counts → counts ≡ eight (greedy m xs r)
filling_ended {m} {r} {i} {left} {xs} {counts} h e F =
    let g = greedy_long m xs r in
    let n = F.long in
    ext_get_or 0 counts (eight (greedy m xs r)) (n ∙ sym (eight_long (greedy m xs r) (omega arith))) (λ k l. at k (dec_lt k i) ∙ sym (eight_at (greedy m xs r) k))
  where
    at : (k : ℕ) → Dec (k < i) → get_or counts k 0 ≡ get_or (greedy m xs r) k 0
    at k (yes l) = F.filled k l
    at k (no l) = F.zeros k (omega arith) ∙ sym (get_or-eq_default (greedy m xs r) 0 (omega (arith, greedy_long m xs r)))

-- The answer of a call that is refused, of one without a solution and of one with, as the machine finds them.
pub asked_by : {m s w : ℕ} {xs : List ℕ} (t : Bool) (why : Refusal) {r : Checked} → t ≡ allowed m s w xs → r ≡ demand t why → r ≡ Ok tt → Asked m s w xs
asked_by {m} {s} {w} {xs} t why e h k = (allowed_asked m s w xs).0 (true_is (allowed m s w xs) (sym e ∙ demand_fine t why (sym h ∙ k)))

pub gives_refused : (m s w : ℕ) (xs : List ℕ) (t : Bool) {why : Refusal} {r : Checked} → t ≡ allowed m s w xs → r ≡ demand t (at GoRound 0) → r ≡ Err why
    → Err why ≡ go_round m s w xs
gives_refused m s w xs t e h k =
    let (f, q) = demand_where t (at GoRound 0) (sym h ∙ k) in
    ap Err q ∙ sym (unasked_refused m s w xs (λ A. subst T (sym e ∙ f) ((allowed_asked m s w xs).1 A))).0

pub divisor_above : {m s w : ℕ} {xs : List ℕ} {g : ℕ} → Asked m s w xs → g ≡ divisor m xs → 0 < g
divisor_above {m} {xs = xs} A k = let l = A.modulus.0 in omega (arith, k, divisor_some (omega arith) (divisor_has m xs (omega arith)))

pub left_over : (m : ℕ) (xs : List ℕ) {d g : ℕ} → g ≡ divisor m xs → d % g ≡ 0 → divisor m xs ∣ d
left_over m xs {d} k z = dvd_of_mod-eq-zero (divisor m xs) (ap (λ (y : ℕ). d % y) (sym k) ∙ z)

module _ {m s w : ℕ} {xs : List ℕ} (A : Asked m s w xs) {d g : ℕ} (e : d ≡ difference m s w) (k : g ≡ divisor m xs) where
  pub gives_none : (d % g ≡ 0 → ⊥) → Ok None ≡ go_round m s w xs
  gives_none h =
      let z : divisor m xs ∣ difference m s w → ⊥ = λ v. h (ap (λ (y : ℕ). y % g) e ∙ ap (λ (y : ℕ). difference m s w % y) k ∙ mod-eq-zero_of_dvd (divisor m xs) v) in
      let n = found_none m s w xs (omega (arith, A.modulus)) (omega (arith, A.start)) z in
      sym (asked_answered A ∙ ap (λ o. Ok (option_map eight o)) n)

  pub gives_done : {counts : List ℕ} → d % g ≡ 0 → counts ≡ eight (greedy m xs d) → Ok (Some counts) ≡ go_round m s w xs
  gives_done z f =
      let v = subst (λ (y : ℕ). divisor m xs ∣ y) e (left_over m xs k z) in
      let n = found_divided m s w xs (omega (arith, A.modulus)) (omega (arith, A.start)) v in
      let c = f ∙ ap (λ (y : ℕ). eight (greedy m xs y)) e in
      ap (λ (l : List ℕ). Ok (Some l)) c ∙ sym (asked_answered A ∙ ap (λ o. Ok (option_map eight o)) n)
