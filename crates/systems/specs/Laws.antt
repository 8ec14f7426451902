-- Laws of the searches over the numbers below a bound.
use Rattle.std.specs.Prelude.{ℕ, ◌≤◌, ◌<◌, Bool, T}

-- what the least of a search is
pub record Least (p : ℕ → Bool) (n k : ℕ) : Type 0 where
  pub le : k ≤ n
  pub passes : k < n → T (p k)
  pub first : (i : ℕ) → i < k → T (p i) → ⊥

-- a Bool test of an equivalence of the numbers below n
pub record EquivalenceBelow (n : ℕ) (q : ℕ → ℕ → Bool) : Type 0 where
  pub reflexive : (i : ℕ) → i < n → T (q i i)
  pub symmetric : (i j : ℕ) → i < n → j < n → T (q i j) → T (q j i)
  pub transitive : (i j k : ℕ) → i < n → j < n → k < n → T (q i j) → T (q j k) → T (q i k)
