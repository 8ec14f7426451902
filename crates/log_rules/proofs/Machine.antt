-- The comparison and the rest as the code makes them.
use Rattle.std.specs.Prelude.{◌≡◌, List, ℕ, ◌+◌, ◌-◌, ◌*◌, ◌≤◌, ◌<◌, length, get_or, take, drop}
use Rattle.std.proofs.Common.{sym, ap, ◌∙◌, arith, length-drop, take_all}
use Rattle.std.specs.Borrow.{Bor}
use Rattle.log_rules.specs.Compare.{shorter, first_difference, Tail, of_first, of_second, rest_of, Lent, lent_from, part_of}
use Rattle.log_rules.proofs.Theorems.{first_told, first_only}

-- the search stops at an index below n, the length of the shorter
pub stopped : (a b : List ℕ) (n i : ℕ) → n ≡ shorter a b → i < n → ((k : ℕ) → k < i → get_or a k 0 ≡ get_or b k 0) → (get_or a i 0 ≡ get_or b i 0 → ⊥)
    → i ≡ first_difference a b
stopped a b n i e h f d = sym (first_only a b i (record { within = omega arith; agree = f; apart = λ l. d }))

-- or it comes to n
pub ended : (a b : List ℕ) (n i : ℕ) → n ≡ shorter a b → i ≡ n → ((k : ℕ) → k < i → get_or a k 0 ≡ get_or b k 0) → i ≡ first_difference a b
ended a b n i e h f = sym (first_only a b i (record { within = omega arith; agree = f; apart = λ l. absurd (omega arith) }))

-- both logs have every index before the one that it gives
pub index_within : (a b : List ℕ) (i : ℕ) → i ≡ first_difference a b → (i ≤ length a) × (i ≤ length b)
index_within a b i e = let w = (first_told a b).within in (omega arith, omega arith)

-- a part of a slice of numbers of two bytes, as the machine makes it
pub part_from : (r : Bor (List ℕ)) (i : ℕ)
    → ◌≡◌ {A = Lent} (record { place = (r.ref_ptr.0, i * 2 + r.ref_ptr.1); entries = take (length r.now - i) (drop i r.now) }) (lent_from r i)
part_from r i =
    let p : i * 2 + r.ref_ptr.1 ≡ r.ref_ptr.1 + i * 2 = omega arith in
    let q = take_all (length r.now - i) (drop i r.now) (omega (arith, length-drop i r.now)) in
    λ j. record { place = (r.ref_ptr.0, p j); entries = q j }

-- a part of the first log that is the rest, and one of the second
pub of_first_lem : (r s : Bor (List ℕ)) (i : ℕ) {l : Lent} → l ≡ lent_from r i → rest_of r.now s.now ≡ of_first i → l ≡ part_of (rest_of r.now s.now) r s
unfolding part_of
of_first_lem r s i p e = p ∙ sym (ap (λ (t : Tail). part_of t r s) e)

pub of_second_lem : (r s : Bor (List ℕ)) (i : ℕ) {l : Lent} → l ≡ lent_from s i → rest_of r.now s.now ≡ of_second i → l ≡ part_of (rest_of r.now s.now) r s
unfolding part_of
of_second_lem r s i p e = p ∙ sym (ap (λ (t : Tail). part_of t r s) e)
