-- Counting the elements of a list that pass a test, and how many members of a box lie in a smaller one.
use Rattle.std.specs.Prelude.{◌≡◌, refl, ◌⊎◌, Bool, true, false, ◌||◌, ◌&&◌, ℕ, zero, suc, ◌+◌, ◌*◌, ◌≤◌, ◌<◌, T, eqb, leb, length, ℤ, ◌≤ℤ◌}
use Rattle.std.proofs.Common.{sym, ap, subst, ◌∙◌, inl, inr, ⊎_elim, arith, ne_eqb, leb-true, leb-false}
use mathlib.Core.List.Memᴰ
use mathlib.Core.List.{List, [], ◌∷◌, ◌++◌, map, Memᴰ}
use Rattle.std.proofs.Math.Dec.{eqb-suc-suc}
use Rattle.std.proofs.Math.IntN.{suc_ℤ}
use Rattle.integers.specs.Order.{up, dn}
use Rattle.integers.proofs.Order.{ints, le_out, lt_lt_z}
use Rattle.integers.specs.declared.Range.{Range}
use Rattle.integers.specs.Range.{contains, size, vacant}
use Rattle.integers.proofs.RangeLaws.{contains_le, size_some, size_none}
use Rattle.systems.specs.Search.{run, any}
use Rattle.systems.proofs.Laws.{told, is_true, is_false, true_is, any_true}
use Rattle.model.specs.Sheet.{within}
use Rattle.model.specs.Blocks.{volume}
use Rattle.model.specs.Boxes.{Inside, inside_none, inside_more}
use Rattle.model.proofs.Boxes.{within_inside}
use Rattle.model.specs.Listing.{numbers, numbers_in, prefixed, values_in}
use Rattle.model.proofs.Finite.{suc_parts, values_in_mem, volume_none}
use Rattle.sheet_rules.specs.Check.{every}

-- 1 for a test that passes
unfoldable pub bit : Bool → ℕ
bit true = 1
bit false = 0

-- how many elements of the list pass
unfoldable pub count : {A : Type 0} → (A → Bool) → List A → ℕ
count p [] = 0
count p (x ∷ l) = bit (p x) + count p l

-- f 0 + f 1 + .. + f (n - 1)
abbrev pub sum : (ℕ → ℕ) → ℕ → ℕ
sum = run 0 ◌+◌

pub count_le : {A : Type 0} (p : A → Bool) (l : List A) → count p l ≤ length l
unfolding count bit
count_le p [] = omega arith
count_le p (x ∷ l) = go (p x) (count_le p l)
  where
    go : (b : Bool) → count p l ≤ length l → bit b + count p l ≤ suc (length l)
    go true h = omega arith
    go false h = omega arith

-- all pass exactly when as many pass as there are
pub every_count : {A : Type 0} (p : A → Bool) (l : List A) → every p l ≡ eqb (count p l) (length l)
unfolding count bit every
every_count p [] = refl
every_count p (x ∷ l) = go (p x) (every_count p l)
  where
    go : (b : Bool) → every p l ≡ eqb (count p l) (length l) → (b && every p l) ≡ eqb (bit b + count p l) (suc (length l))
    go true e =
        let d : suc (count p l) ≡ 1 + count p l = omega arith in
        e ∙ sym (eqb-suc-suc (count p l) (length l)) ∙ ap (λ (k : ℕ). eqb k (suc (length l))) d
    go false e = sym (ne_eqb (0 + count p l) (suc (length l)) (λ d. omega (arith, count_le p l)))

pub count_append : {A : Type 0} (p : A → Bool) (k l : List A) → count p (k ++ l) ≡ count p k + count p l
unfolding count
count_append p [] l = omega arith
count_append p (x ∷ k) l = omega (arith, count_append p k l)

pub count_map : {A B : Type 0} (p : B → Bool) (f : A → B) (l : List A) → count p (map f l) ≡ count (λ x. p (f x)) l
unfolding count
count_map p f [] = refl
count_map p f (x ∷ l) = ap (λ (k : ℕ). bit (p (f x)) + k) (count_map p f l)

-- tests that agree on the list count the same
pub count_ext : {A : Type 0} (p q : A → Bool) (l : List A) → ((x : A) → Memᴰ x l → p x ≡ q x) → count p l ≡ count q l
unfolding count
count_ext p q [] e = refl
count_ext p q (x ∷ l) e =
    let h = e x (Memᴰ.head refl) in
    let g = count_ext p q l (λ y m. e y (Memᴰ.tail m)) in
    cc

pub count_none : {A : Type 0} (p : A → Bool) (l : List A) → ((x : A) → Memᴰ x l → p x ≡ false) → count p l ≡ 0
unfolding count bit
count_none p [] e = refl
count_none p (x ∷ l) e =
    let h = ap bit (e x (Memᴰ.head refl)) in
    omega (arith, count_none p l (λ y m. e y (Memᴰ.tail m)))

-- tests that never both pass
count_or : {A : Type 0} (p q : A → Bool) (l : List A) → ((x : A) → T (p x) → T (q x) → ⊥) → count (λ x. p x || q x) l ≡ count p l + count q l
unfolding count bit
count_or p q [] e = omega arith
count_or p q (x ∷ l) e = omega (arith, go (p x) (q x) (e x), count_or p q l e)
  where
    go : (a b : Bool) → (T a → T b → ⊥) → bit (a || b) ≡ bit a + bit b
    go true true f = absurd (f tt tt)
    go true false f = refl
    go false b f = omega arith

-- Of n tests at most one passes: what passes some of them is counted by the sum.
pub count_any : {A : Type 0} (t : ℕ → A → Bool) (n : ℕ) (l : List A)
    → ((i j : ℕ) (x : A) → i < j → j < n → T (t i x) → T (t j x) → ⊥)
    → count (λ x. any (λ i. t i x) n) l ≡ sum (λ i. count (t i) l) n
unfolding run
count_any t zero l d = count_none (λ x. false) l (λ x m. refl)
count_any t (suc n) l d =
    let i = count_any t n l (λ i j x h k. d i j x h (omega arith)) in
    let o = count_or (λ x. any (λ i. t i x) n) (t n) l (λ x u v. let (i, h, w) = (any_true (λ i. t i x) n).0 u in d i n x h (omega arith) w v) in
    omega arith

-- how many numbers from z on lie in a range that begins at z or before it, and ends among them
abbrev between : ℤ → ℤ → Range
between a b = record { low = a; high = b }

-- the size of a range by its ends
size_to : (a b : ℤ) → up a + dn b ≤ up b + dn a → size (between a b) + (up a + dn b) ≡ suc (up b + dn a)
size_to a b h = size_some (between a b) (le_out a b h)

size_past : (a b : ℤ) → up b + dn a < up a + dn b → size (between a b) ≡ 0
unfolding vacant
size_past a b h = size_none (between a b) (true_is (vacant (between a b)) (lt_lt_z b a h))

in_yes : (q : Range) (z : ℤ) → q.low ≤ℤ z → z ≤ℤ q.high → contains q z ≡ true
in_yes q z h k = is_true (contains q z) ((contains_le q z).1 (h, k))

in_low : (q : Range) (z : ℤ) → up z + dn q.low < up q.low + dn z → contains q z ≡ false
in_low q z h = is_false (contains q z) (λ t. let (a, b) = (contains_le q z).0 t in omega ints)

in_high : (q : Range) (z : ℤ) → up q.high + dn z < up z + dn q.high → contains q z ≡ false
in_high q z h = is_false (contains q z) (λ t. let (a, b) = (contains_le q z).0 t in omega ints)

-- a number is at most another, or above it
order : (a b : ℕ) → (a ≤ b) ⊎ (b < a)
order a b = ⊎_elim (λ e. inl (leb-true a b e)) (λ e. inr (leb-false a b e)) (told (leb a b))

size_step : (z b : ℤ) → up z + dn b ≤ up b + dn z → size (between z b) ≡ suc (size (between (suc_ℤ z) b))
size_step z b h =
    let p = suc_parts z in
    ⊎_elim
    (λ k. omega (arith, size_to z b h, size_to (suc_ℤ z) b k))
    (λ k. omega (arith, size_to z b h, size_past (suc_ℤ z) b k))
    (order (up (suc_ℤ z) + dn b) (up b + dn (suc_ℤ z)))

count_from : (q : Range) (z : ℤ) (n : ℕ) → q.low ≤ℤ z → up q.high + dn z < up z + dn q.high + n
    → count (contains q) (numbers z n) ≡ size (between z q.high)
unfolding count numbers bit
count_from q z zero l h = sym (size_past z q.high (omega arith))
count_from q z (suc n) l h =
    let p = suc_parts z in
    let i = count_from q (suc_ℤ z) n (omega ints) (omega arith) in
    ⊎_elim
    (λ k. let b = ap bit (in_yes q z l (le_out z q.high k)) in omega (arith, size_step z q.high k))
    (λ k. let b = ap bit (in_high q z k) in omega (arith, size_past z q.high k, size_past (suc_ℤ z) q.high (omega arith)))
    (order (up z + dn q.high) (up q.high + dn z))

-- the same where the numbers begin at or before the range
count_range : (q : Range) (z : ℤ) (n : ℕ) → z ≤ℤ q.low → up q.high + dn z < up z + dn q.high + n → count (contains q) (numbers z n) ≡ size q
unfolding count numbers bit
count_range q z zero l h = sym (size_past q.low q.high (omega ints))
count_range q z (suc n) l h =
    let p = suc_parts z in
    ⊎_elim
    (λ k.
    let e : z ≡ q.low = omega ints in
    count_from q z (suc n) (omega ints) h ∙ ap (λ (a : ℤ). size (between a q.high)) e)
    (λ k. let b = ap bit (in_low q z k) in omega (arith, count_range q (suc_ℤ z) n (omega ints) (omega arith)))
    (order (up q.low + dn z) (up z + dn q.low))

-- how many numbers of a range lie in one inside it
count_numbers : (q r : Range) → r.low ≤ℤ q.low → q.high ≤ℤ r.high → count (contains q) (numbers_in r) ≡ size q
unfolding numbers_in
count_numbers q r l h =
    ⊎_elim
    (λ k. count_range q r.low (size r) l (omega (ints, size_to r.low r.high k)))
    (λ k. count_range q r.low (size r) l (omega (ints, size_past r.low r.high k)))
    (order (up r.low + dn r.high) (up r.high + dn r.low))

-- heads and tails are counted apart
count_prefixed : (q : Range) (qs : List Range) (heads : List ℤ) (tails : List (List ℤ))
    → count (within (q ∷ qs)) (prefixed heads tails) ≡ count (contains q) heads * count (within qs) tails
unfolding count prefixed within bit
count_prefixed q qs [] tails = omega arith
count_prefixed q qs (z ∷ heads) tails =
    let i = count_prefixed q qs heads tails in
    let a = count_append (within (q ∷ qs)) (map (λ l. z ∷ l) tails) (prefixed heads tails) in
    let m = count_map (within (q ∷ qs)) (λ l. z ∷ l) tails in
    go (contains q z) refl i a m
  where
    go : (b : Bool) → contains q z ≡ b
        → count (within (q ∷ qs)) (prefixed heads tails) ≡ count (contains q) heads * count (within qs) tails
        → count (within (q ∷ qs)) (map (λ l. z ∷ l) tails ++ prefixed heads tails)
        ≡ count (within (q ∷ qs)) (map (λ l. z ∷ l) tails) + count (within (q ∷ qs)) (prefixed heads tails)
        → count (within (q ∷ qs)) (map (λ l. z ∷ l) tails) ≡ count (λ l. contains q z && within qs l) tails
        → count (within (q ∷ qs)) (map (λ l. z ∷ l) tails ++ prefixed heads tails)
        ≡ (bit b + count (contains q) heads) * count (within qs) tails
    go true e i a m =
        let f = count_ext (λ l. contains q z && within qs l) (within qs) tails (λ x d. ap (λ (b : Bool). b && within qs x) e) in
        omega arith
    go false e i a m =
        let f = count_none (λ l. contains q z && within qs l) tails (λ x d. ap (λ (b : Bool). b && within qs x) e) in
        omega arith

count_inside : {qs rs : List Range} → Inside qs rs → count (within qs) (values_in rs) ≡ volume qs
unfolding count values_in volume within bit
count_inside inside_none = refl
count_inside (inside_more {q = q} {r = r} {qs = qs} {rs = rs} l u h) =
    let c = count_prefixed q qs (numbers_in r) (values_in rs) in
    let n = count_numbers q r l u in
    let i = count_inside h in
    cc

-- Among the members of ranges, those within others that lie in them are as many as these hold.
pub count_within : (qs rs : List Range) → ((ys : List ℤ) → T (within qs ys) → T (within rs ys)) → count (within qs) (values_in rs) ≡ volume qs
count_within qs rs f = go (values_in qs) refl
  where
    go : (l : List (List ℤ)) → values_in qs ≡ l → count (within qs) (values_in rs) ≡ volume qs
    go [] e =
        let none : (ys : List ℤ) → T (within qs ys) → ⊥ = λ ys t. Memᴰ.not-nil (subst (λ (l : List (List ℤ)). Memᴰ ys l) e ((values_in_mem qs ys).1 t)) in
        count_none (within qs) (values_in rs) (λ ys m. is_false (within qs ys) (none ys)) ∙ sym (volume_none qs none)
    go (x ∷ l) e =
        let t = (values_in_mem qs x).0 (subst (λ (k : List (List ℤ)). Memᴰ x k) (sym e) (Memᴰ.head refl)) in
        count_inside (within_inside qs rs x t f)
