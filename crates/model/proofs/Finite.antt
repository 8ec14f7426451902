-- The lists of configurations hold exactly the members of a box and the covered configurations, and are as long as the counts say.
use Rattle.std.specs.Prelude.{◌≡◌, refl, ◌↔◌, ◌⊎◌, Bool, true, false, ℕ, zero, suc, ◌+◌, ◌*◌, ◌≤◌, ◌<◌, T, length, ℤ, pos, negsuc}
use Rattle.std.proofs.Common.{sym, ap, subst, ◌∙◌, inl, inr, ⊎_elim, arith, not-suc-le-zero, le_of_suc-le-suc, eq-or-lt_of_le, length-append}
use mathlib.Core.List.Memᴰ
use mathlib.Core.List.{List, [], ◌∷◌, ◌++◌, map, Memᴰ}
use Rattle.std.proofs.lemmas.List.{length-map}
use Rattle.std.proofs.Math.IntN.{suc_ℤ}
use Rattle.integers.specs.Order.{up, dn}
use Rattle.integers.proofs.Order.{ints, eq_out}
use Rattle.integers.specs.declared.Range.{Range}
use Rattle.integers.specs.Range.{contains, size, vacant}
use Rattle.integers.proofs.RangeLaws.{contains_le, size_some, size_none, vacant_none, vacant_not}
use Rattle.systems.proofs.Laws.{told, true_is, not_true}
use Rattle.model.specs.Sheet.{Configuration, Box, Region, Sheet, within, in_box, place_in, region_number, Covered}
use Rattle.model.specs.Blocks.{volume, volumes, configurations}
use Rattle.model.proofs.Boxes.{within_cons, in_box_parts}
use Rattle.model.specs.Listing.{numbers, numbers_in, prefixed, values_in, configuration, members, members_of, listing}

-- membership in a mapped list
map_in : {A B : Type 0} (f : A → B) (l : List A) (a : A) → Memᴰ a l → Memᴰ (f a) (map f l)
map_in f [] a m = absurd (Memᴰ.not-nil m)
map_in f (b ∷ l) a m = ⊎_elim (λ e. Memᴰ.head (ap f e)) (λ n. Memᴰ.tail (map_in f l a n)) (Memᴰ.cases_cons m)

map_out : {A B : Type 0} (f : A → B) (l : List A) (b : B) → Memᴰ b (map f l) → (a : A) × Memᴰ a l × (b ≡ f a)
map_out f [] b m = absurd (Memᴰ.not-nil m)
map_out f (a ∷ l) b m =
    ⊎_elim (λ e. (a, Memᴰ.head refl, e)) (λ n. let (c, k, e) = map_out f l b n in (c, Memᴰ.tail k, e)) (Memᴰ.cases_cons m)

-- the number after z
pub suc_parts : (z : ℤ) → up (suc_ℤ z) + dn z ≡ suc (up z + dn (suc_ℤ z))
suc_parts (pos n) = omega arith
suc_parts (negsuc zero) = omega arith
suc_parts (negsuc (suc n)) = omega arith

pub length_numbers : (z : ℤ) (n : ℕ) → length (numbers z n) ≡ n
unfolding numbers
length_numbers z zero = refl
length_numbers z (suc n) = ap suc (length_numbers (suc_ℤ z) n)

-- x is from z on, and fewer than n above it
numbers_mem : (z : ℤ) (n : ℕ) (x : ℤ) → Memᴰ x (numbers z n) ↔ ((up z + dn x ≤ up x + dn z) × (up x + dn z < up z + dn x + n))
unfolding numbers
numbers_mem z zero x = (λ m. absurd (Memᴰ.not-nil m), λ (l, u). absurd (omega arith))
numbers_mem z (suc n) x =
    let i = numbers_mem (suc_ℤ z) n x in
    let p = suc_parts z in (
      λ m. ⊎_elim (λ e. let q = ap up e in let r = ap dn e in (omega arith, omega arith)) (λ k. let (a, b) = i.0 k in (omega arith, omega arith)) (Memᴰ.cases_cons m),
      λ (l, u).
          ⊎_elim (λ e. Memᴰ.head (eq_out x z (omega arith))) (λ k. Memᴰ.tail (i.1 (omega arith, omega arith))) (eq-or-lt_of_le l),
    )

-- The numbers of a range are those that it contains.
pub numbers_in_mem : (r : Range) (x : ℤ) → Memᴰ x (numbers_in r) ↔ T (contains r x)
unfolding numbers_in
numbers_in_mem r x = go (told (vacant r))
  where
    p : Memᴰ x (numbers r.low (size r)) ↔ ((up r.low + dn x ≤ up x + dn r.low) × (up x + dn r.low < up r.low + dn x + size r))
    p = numbers_mem r.low (size r) x

    go : (vacant r ≡ true) ⊎ (vacant r ≡ false) → Memᴰ x (numbers r.low (size r)) ↔ T (contains r x)
    go (inl e) =
        let v = true_is (vacant r) e in
        let n = size_none r v in
        (λ m. let (a, b) = p.0 m in absurd (omega arith), λ t. absurd (vacant_none r x v t))
    go (inr e) =
        let (a, b) = (contains_le r r.low).0 (vacant_not r e) in
        let n = size_some r b in
        let c = contains_le r x in
        (λ m. let (d, f) = p.0 m in c.1 (omega ints, omega ints), λ t. let (d, f) = c.0 t in p.1 (omega ints, omega ints))

pub length_prefixed : (heads : List ℤ) (tails : List (List ℤ)) → length (prefixed heads tails) ≡ length heads * length tails
unfolding prefixed
length_prefixed [] tails = omega arith
length_prefixed (z ∷ heads) tails =
    let i = length_prefixed heads tails in
    let m = length-map {B = List ℤ} tails (λ l. z ∷ l) in
    omega (arith, length-append (map (λ l. z ∷ l) tails) (prefixed heads tails))

prefixed_in : (heads : List ℤ) (tails : List (List ℤ)) (x : ℤ) (xs : List ℤ) → Memᴰ x heads → Memᴰ xs tails → Memᴰ (x ∷ xs) (prefixed heads tails)
unfolding prefixed
prefixed_in [] tails x xs m n = absurd (Memᴰ.not-nil m)
prefixed_in (z ∷ heads) tails x xs m n =
    ⊎_elim
    (λ e. Memᴰ.append_left (prefixed heads tails) (Memᴰ.cast (ap {B = List ℤ} (λ y. y ∷ xs) e) (map_in (λ l. z ∷ l) tails xs n)))
    (λ k. Memᴰ.append_right (map (λ l. z ∷ l) tails) (prefixed_in heads tails x xs k n))
    (Memᴰ.cases_cons m)

prefixed_out : (heads : List ℤ) (tails : List (List ℤ)) (l : List ℤ) → Memᴰ l (prefixed heads tails)
    → (x : ℤ) × (xs : List ℤ) × (l ≡ x ∷ xs) × Memᴰ x heads × Memᴰ xs tails
unfolding prefixed
prefixed_out [] tails l m = absurd (Memᴰ.not-nil m)
prefixed_out (z ∷ heads) tails l m =
    ⊎_elim
    (λ k. let (xs, n, e) = map_out (λ t. z ∷ t) tails l k in (z, xs, e, Memᴰ.head refl, n))
    (λ k. let (x, xs, e, n, o) = prefixed_out heads tails l k in (x, xs, e, Memᴰ.tail n, o))
    (Memᴰ.append_cases (map (λ t. z ∷ t) tails) m)

-- The value lists of ranges are those within them.
pub values_in_mem : (rs : List Range) (xs : List ℤ) → Memᴰ xs (values_in rs) ↔ T (within rs xs)
unfolding values_in within
values_in_mem [] [] = (λ m. tt, λ t. Memᴰ.head refl)
values_in_mem [] (x ∷ xs) = (λ m. let e = Memᴰ.eq_of_singleton m in let z : ◌≡◌ {A = ℕ} 0 1 = cc in omega arith, λ t. absurd t)
values_in_mem (r ∷ rs) [] = (
  λ m. let (x, xs, e, n, o) = prefixed_out (numbers_in r) (values_in rs) [] m in let z : ◌≡◌ {A = ℕ} 0 1 = cc in omega arith,
  λ t. absurd t,
)
values_in_mem (r ∷ rs) (x ∷ xs) =
    let q = numbers_in_mem r x in
    let i = values_in_mem rs xs in
    let w = within_cons r rs x xs in (
      λ m.
          let (y, ys, e, n, o) = prefixed_out (numbers_in r) (values_in rs) (x ∷ xs) m in
          let a : x ≡ y = cc in
          let b : xs ≡ ys = cc in
          w.1 (q.0 (Memᴰ.cast a n), i.0 (Memᴰ.cast b o)),
      λ t. let (a, b) = w.0 t in prefixed_in (numbers_in r) (values_in rs) x xs (q.1 a) (i.1 b),
    )

pub length_values_in : (rs : List Range) → length (values_in rs) ≡ volume rs
unfolding values_in volume numbers_in
length_values_in [] = refl
length_values_in (r ∷ rs) =
    let p = length_prefixed (numbers_in r) (values_in rs) in
    let n : length (numbers_in r) ≡ size r = length_numbers r.low (size r) in
    let i = length_values_in rs in
    cc

-- The listed configurations of a box are its members.
pub members_mem : (b : Box) (y : Configuration) → Memᴰ y (members b) ↔ T (in_box b y)
unfolding members
members_mem b y = (
  λ m.
      let (l, n, e) = map_out (configuration b.state) (values_in b.ranges) y m in
      subst (λ (z : Configuration). T (in_box b z)) (sym e) ((in_box_parts b (configuration b.state l)).1 (refl, (values_in_mem b.ranges l).0 n)),
  λ t.
      let (e, w) = (in_box_parts b y).0 t in
      let d : y ≡ configuration b.state y.values = λ i. record { state = sym e i; values = y.values } in
      Memᴰ.cast d (map_in (configuration b.state) (values_in b.ranges) y.values ((values_in_mem b.ranges y.values).1 w)),
)

pub length_members : (b : Box) → length (members b) ≡ volume b.ranges
unfolding members
length_members b = length-map (values_in b.ranges) (configuration b.state) ∙ length_values_in b.ranges

members_of_mem : (rs : List Region) (y : Configuration) → Memᴰ y (members_of rs) ↔ (place_in rs y < length rs)
unfolding members_of place_in
members_of_mem [] y = (λ m. absurd (Memᴰ.not-nil m), λ h. absurd (not-suc-le-zero h))
members_of_mem (r ∷ rs) y = go (in_box r.box y) refl (members_of_mem rs y)
  where
    go : (b : Bool) → in_box r.box y ≡ b → Memᴰ y (members_of rs) ↔ (place_in rs y < length rs)
        → Memᴰ y (members r.box ++ members_of rs) ↔ (elim b [ true ↦ zero | false ↦ suc (place_in rs y) ] < suc (length rs))
    go true e i = (λ m. omega arith, λ h. Memᴰ.append_left (members_of rs) ((members_mem r.box y).1 (true_is (in_box r.box y) e)))
    go false e i = (
      λ m.
          ⊎_elim
          (λ k. absurd (not_true (in_box r.box y) e ((members_mem r.box y).0 k)))
          (λ k. let l = i.0 k in omega arith)
          (Memᴰ.append_cases (members r.box) m),
      λ h. Memᴰ.append_right (members r.box) (i.1 (le_of_suc-le-suc h)),
    )

-- The listed configurations of a sheet are the covered ones,
pub listing_mem : (s : Sheet) (y : Configuration) → Memᴰ y (listing s) ↔ Covered s y
unfolding listing region_number
listing_mem s y = members_of_mem s.regions y

length_members_of : (rs : List Region) → length (members_of rs) ≡ volumes rs
unfolding members_of volumes
length_members_of [] = refl
length_members_of (r ∷ rs) = omega (arith, length-append (members r.box) (members_of rs), length_members r.box, length_members_of rs)

-- and as many as the sheet has.
pub length_listing : (s : Sheet) → length (listing s) ≡ configurations s
unfolding listing configurations
length_listing s = length_members_of s.regions

-- ranges without a member have no volume
pub volume_none : (qs : List Range) → ((ys : List ℤ) → T (within qs ys) → ⊥) → volume qs ≡ 0
volume_none qs f = sym (length_values_in qs) ∙ go (values_in qs) (λ ys m. f ys ((values_in_mem qs ys).0 m))
  where
    go : (l : List (List ℤ)) → ((ys : List ℤ) → Memᴰ ys l → ⊥) → length l ≡ 0
    go [] g = refl
    go (x ∷ l) g = absurd (g x (Memᴰ.head refl))
