-- A search by an iterator over the numbers below n, as a search by the definitions.
use Rattle.std.specs.Prelude.{◌≡◌, refl, Bool, true, false, ◌||◌, ◌&&◌, ℕ, zero, suc, ◌+◌}
use Rattle.std.specs.List.{list_any, list_all, range_with_len}
use Rattle.std.proofs.Common.{sym, ap, ◌∙◌, arith}
use Rattle.systems.specs.Search.{run, any, all}
use Rattle.systems.proofs.Laws.{run_ext}

or_assoc : (a b c : Bool) → ((a || b) || c) ≡ (a || (b || c))
or_assoc true b c = refl
or_assoc false b c = refl

or_none : (a : Bool) → a ≡ (a || false)
or_none true = refl
or_none false = refl

and_assoc : (a b c : Bool) → ((a && b) && c) ≡ (a && (b && c))
and_assoc true b c = refl
and_assoc false b c = refl

and_none : (a : Bool) → a ≡ (a && true)
and_none true = refl
and_none false = refl

-- the first test apart from the others
any_first : (p : ℕ → Bool) (n : ℕ) → any p (suc n) ≡ (p 0 || any (λ i. p (suc i)) n)
unfolding run
any_first p zero = or_none (p 0)
any_first p (suc n) = ap (λ (t : Bool). t || p (suc n)) (any_first p n) ∙ or_assoc (p 0) (any (λ i. p (suc i)) n) (p (suc n))

all_first : (p : ℕ → Bool) (n : ℕ) → all p (suc n) ≡ (p 0 && all (λ i. p (suc i)) n)
unfolding run
all_first p zero = and_none (p 0)
all_first p (suc n) = ap (λ (t : Bool). t && p (suc n)) (all_first p n) ∙ and_assoc (p 0) (all (λ i. p (suc i)) n) (p (suc n))

any_from : (p : ℕ → Bool) (a n : ℕ) → list_any p (range_with_len a n) ≡ any (λ i. p (a + i)) n
unfolding run
any_from p a zero = refl
any_from p a (suc n) =
    ap (λ (t : Bool). p a || t) (any_from p (a + 1) n ∙ run_ext false ◌||◌ (λ i. p (a + 1 + i)) (λ i. p (a + suc i)) n (λ i h. ap p (omega arith)))
    ∙ ap (λ (k : ℕ). p k || any (λ i. p (a + suc i)) n) (omega arith)
    ∙ sym (any_first (λ i. p (a + i)) n)

all_from : (p : ℕ → Bool) (a n : ℕ) → list_all p (range_with_len a n) ≡ all (λ i. p (a + i)) n
unfolding run
all_from p a zero = refl
all_from p a (suc n) =
    ap (λ (t : Bool). p a && t) (all_from p (a + 1) n ∙ run_ext true ◌&&◌ (λ i. p (a + 1 + i)) (λ i. p (a + suc i)) n (λ i h. ap p (omega arith)))
    ∙ ap (λ (k : ℕ). p k && all (λ i. p (a + suc i)) n) (omega arith)
    ∙ sym (all_first (λ i. p (a + i)) n)

pub any_below : (p : ℕ → Bool) (n : ℕ) → list_any p (range_with_len 0 n) ≡ any p n
any_below p n = any_from p 0 n ∙ run_ext false ◌||◌ (λ i. p (0 + i)) p n (λ i h. ap p (omega arith))

pub all_below : (p : ℕ → Bool) (n : ℕ) → list_all p (range_with_len 0 n) ≡ all p n
all_below p n = all_from p 0 n ∙ run_ext true ◌&&◌ (λ i. p (0 + i)) p n (λ i h. ap p (omega arith))
