-- Counters that go round (document 02, U13): how often to use each increment to bring a counter modulo m from a start s to a wanted value w.
-- In the field's terms: the first solution, in dictionary order (lexicographic), of a linear congruence. Definitions only. A list of counts has
-- one for each increment, in the order of the increments.
use Rattle.std.specs.Prelude.{◌≡◌, Bool, cond, ◌&&◌, List, [], ◌∷◌, ◌++◌, ℕ, ◌+◌, ◌-◌, ◌*◌, ◌%◌, ◌≤◌, ◌<◌, eqb, leb, ltb, length, get_or, take, replicate, Option, None, Some, option_map, Result, Ok, Err}
use Rattle.systems.specs.Search.{all, least}
use Rattle.systems.specs.Words.{lists_below, first_that, Before}
use Rattle.answer_rules.specs.declared.Reason.TheVariants.{GoRound}
use Rattle.answer_rules.specs.declared.Refusal.{Refusal}
use Rattle.answer_rules.specs.Refusal.{at}

-- equal modulo m (congruent)
abbrev pub congruent : ℕ → ℕ → ℕ → Bool
congruent m x y = eqb (x % m) (y % m)

-- the sum of each increment as often as it is used
unfoldable pub total : List ℕ → List ℕ → ℕ
total [] cs = 0
total (a ∷ xs) [] = 0
total (a ∷ xs) (c ∷ cs) = c * a + total xs cs

-- whether counts lead from s to w
abbrev pub leads : ℕ → ℕ → ℕ → List ℕ → List ℕ → Bool
leads m s w xs cs = congruent m (s + total xs cs) w

-- Of all solutions the first in dictionary order: all lists of counts below m, one for each increment, are tried in that order.
unfoldable pub first_solution : ℕ → ℕ → ℕ → List ℕ → Option (List ℕ)
first_solution m s w xs = first_that (leads m s w xs) (lists_below m (length xs))

-- a number from low to high
abbrev pub between : ℕ → ℕ → ℕ → Bool
between low high x = leb low x && leb x high

-- each number of a list is below m
unfoldable pub all_below : ℕ → List ℕ → Bool
all_below m xs = all (λ i. ltb (get_or xs i 0) m) (length xs)

-- what is within its limits: m, the start, the wanted value, the number of increments and each of them
unfoldable pub allowed : ℕ → ℕ → ℕ → List ℕ → Bool
allowed m s w xs = between 2 65536 m && ltb s m && ltb w m && between 1 8 (length xs) && all_below m xs

-- eight counts: 0 past the last increment
unfoldable pub eight : List ℕ → List ℕ
eight cs = cs ++ replicate (8 - length cs) 0

-- The answer: the eight counts of the first solution, or none, or a refusal.
unfoldable pub go_round : ℕ → ℕ → ℕ → List ℕ → Result (Option (List ℕ)) Refusal
go_round m s w xs = cond (allowed m s w xs) (Ok (option_map eight (first_solution m s w xs))) (Err (at GoRound 0))

-- Where they are stored over eight others: those are left where there is no solution, and by a refusal.
unfoldable pub given : Option (List ℕ) → List ℕ → List ℕ
given None before = before
given (Some cs) before = eight cs

unfoldable pub counts_left : ℕ → ℕ → ℕ → List ℕ → List ℕ → List ℕ
counts_left m s w xs before = cond (allowed m s w xs) (given (first_solution m s w xs) before) before

-- the same by the answer
abbrev pub counts_after : Result (Option (List ℕ)) Refusal → List ℕ → List ℕ
counts_after (Ok (Some counts)) before = counts
counts_after (Ok None) before = before
counts_after (Err why) before = before

-- whether d divides m and all increments (a common divisor)
unfoldable pub divides_all : ℕ → ℕ → List ℕ → Bool
divides_all d m xs = eqb (m % d) 0 && all (λ i. eqb (get_or xs i 0 % d) 0) (length xs)

-- the greatest common divisor of m and all increments: the first of m, m - 1, .. that divides them all
unfoldable pub divisor : ℕ → List ℕ → ℕ
divisor m xs = m - least (λ i. divides_all (m - i) m xs) m

-- What a solution is: a count below m for each increment, with which the counter comes from s to w.
pub record Solution (m s w : ℕ) (xs cs : List ℕ) : Type 0 where
  pub one_each : length cs ≡ length xs
  pub below : (i : ℕ) → i < length xs → get_or cs i 0 < m
  pub arrives : (s + total xs cs) % m ≡ w % m

-- what is answered, as a proposition: m from 2 to 65,536, one to eight increments, and these, the start and the wanted value from 0 to m - 1
pub record Asked (m s w : ℕ) (xs : List ℕ) : Type 0 where
  pub modulus : (2 ≤ m) × (m ≤ 65536)
  pub some_increments : (1 ≤ length xs) × (length xs ≤ 8)
  pub start : s < m
  pub wanted : w < m
  pub increments : (i : ℕ) → i < length xs → get_or xs i 0 < m

-- What is promised of the eight counts where they are given: those of the increments are a solution, and no solution is before them in
-- dictionary order; each is below m; past the last increment they are 0.
pub record Answers (m s w : ℕ) (xs counts : List ℕ) : Type 0 where
  pub long : length counts ≡ 8
  pub solution : Solution m s w xs (take (length xs) counts)
  pub first : (ds : List ℕ) → Solution m s w xs ds → Before ds (take (length xs) counts) → ⊥
  pub below : (i : ℕ) → get_or counts i 0 < m
  pub past : (i : ℕ) → length xs ≤ i → get_or counts i 0 ≡ 0
