-- Class boxes are the classes: what the box of depth k holds is what no sequence of at most k actions tells apart.
use Rattle.std.specs.Prelude.{◌≡◌, refl, ◌↔◌, Bool, true, false, List, [], ◌∷◌, T, length, get_or, Option, Some}
use Rattle.std.proofs.Common.{sym, ap, ◌∙◌, ⊎_elim, not-suc-le-zero, le_of_suc-le-suc, eq-or-lt_of_le}
use Rattle.std.proofs.Math.Path.{subst}
use Prim.Native.Nat.{ℕ, zero, suc, ◌≤◌, ◌<◌}
use native.Mathlib.Omega.{arith}
use Rattle.std.proofs.Math.Decide.{dec_lt}
use Rattle.systems.proofs.Laws.{true_is, not_true}
use Rattle.systems.specs.System.{Alike}
use Rattle.systems.specs.Alike.{Both, both_barred, both_open, AlikeTo}
use Rattle.systems.proofs.Alike.{alike_to_zero, alike_to_suc, alike_depths}
use Rattle.model.specs.Sheet.{Configuration, Box, Move, Barred, Open, Region, Sheet, in_box, nowhere, place_in, region_number, region_of, region_at, Covered}
use Rattle.model.specs.Sheet.{landing, moved, step, sheet_system, region_system, MoveFits, open_fits, RegionFits, Each, each_none, each_more, WellFormed}
use Rattle.model.specs.Blocks.{preimage, narrowed, class_box}
use Rattle.model.proofs.Boxes.{length_preimage, preimage_exact}
use Rattle.model.specs.Classes.{MovesBoth}

-- a property of each element, at an index
pub each_at : {A : Type 0} {P : A → Type 0} {l : List A} → Each P l → (i : ℕ) (d : A) → i < length l → P (get_or l i d)
each_at each_none i d h = absurd (not-suc-le-zero h)
each_at (each_more p e) zero d h = p
each_at (each_more p e) (suc i) d h = each_at e i d (le_of_suc-le-suc h)

-- the first region with the configuration has it,
place_in_lem : (rs : List Region) (x : Configuration) → place_in rs x < length rs → T (in_box (get_or rs (place_in rs x) nowhere).box x)
unfolding place_in
place_in_lem [] x h = absurd (not-suc-le-zero h)
place_in_lem (r ∷ rs) x h = go (in_box r.box x) refl (place_in_lem rs x) h
  where
    go : (b : Bool) → in_box r.box x ≡ b → (place_in rs x < length rs → T (in_box (get_or rs (place_in rs x) nowhere).box x))
        → elim b [ true ↦ zero | false ↦ suc (place_in rs x) ] < suc (length rs)
        → T (in_box (get_or (r ∷ rs) (elim b [ true ↦ zero | false ↦ suc (place_in rs x) ]) nowhere).box x)
    go true e f l = true_is (in_box r.box x) e
    go false e f l = f (le_of_suc-le-suc l)

-- and stands before each other with it
place_le : (rs : List Region) (x : Configuration) (i : ℕ) → i < length rs → T (in_box (get_or rs i nowhere).box x) → place_in rs x ≤ i
unfolding place_in
place_le [] x i h t = absurd (not-suc-le-zero h)
place_le (r ∷ rs) x zero h t = go (in_box r.box x) refl
  where
    go : (b : Bool) → in_box r.box x ≡ b → elim b [ true ↦ zero | false ↦ suc (place_in rs x) ] ≤ zero
    go true e = omega arith
    go false e = absurd (not_true (in_box r.box x) e t)
place_le (r ∷ rs) x (suc i) h t = go (in_box r.box x) (place_le rs x i (le_of_suc-le-suc h) t)
  where
    go : (b : Bool) → place_in rs x ≤ i → elim b [ true ↦ zero | false ↦ suc (place_in rs x) ] ≤ suc i
    go true l = omega arith
    go false l = omega arith

-- A covered configuration is in the box of its region.
pub covered_in : (s : Sheet) (x : Configuration) → Covered s x → T (in_box (region_of s x).box x)
unfolding region_of region_number
covered_in s x h = place_in_lem s.regions x h

-- What is in the box of a region is covered.
pub in_covered : (s : Sheet) (i : ℕ) (x : Configuration) → i < length s.regions → T (in_box (region_at s i).box x) → Covered s x
unfolding region_number
in_covered s i x h t = let l = place_le s.regions x i h t in omega arith

-- Regions are disjoint, so the box of region i holds what has region number i.
pub number_is : (s : Sheet) → WellFormed s → (i : ℕ) (x : Configuration) → i < length s.regions → T (in_box (region_at s i).box x) → region_number s x ≡ i
unfolding region_number
number_is s W i x h t =
    let l = place_le s.regions x i h t in
    ⊎_elim
    (λ e. e)
    (λ b. absurd (W.regions_disjoint (place_in s.regions x) i x b h (place_in_lem s.regions x (omega arith)) t))
    (eq-or-lt_of_le l)

-- one region number, one region
pub region_eq : (s : Sheet) (x y : Configuration) → region_number s x ≡ region_number s y → region_of s x ≡ region_of s y
unfolding region_of
region_eq s x y e = ap (λ (i : ℕ). get_or s.regions i nowhere) e

-- The box of a covered configuration's region holds what has its region number.
pub region_box : (s : Sheet) → WellFormed s → (x y : Configuration) → Covered s x → T (in_box (region_of s x).box y) ↔ (region_number s x ≡ region_number s y)
unfolding region_of
region_box s W x y h = (
  λ t. sym (number_is s W (region_number s x) y h t),
  λ e. subst (λ (i : ℕ). T (in_box (get_or s.regions i nowhere).box y)) (sym e) (covered_in s y (omega arith)),
)

-- With distinct labels, labels tell covered configurations apart as region numbers do.
pub label_number : (s : Sheet) → WellFormed s → (x y : Configuration) → Covered s x → Covered s y
    → ((region_of s x).label ≡ (region_of s y).label) ↔ (region_number s x ≡ region_number s y)
unfolding region_of
label_number s W x y h k = (
  λ e. go e (dec_lt (region_number s x) (region_number s y)) (dec_lt (region_number s y) (region_number s x)),
  λ e. ap (λ (i : ℕ). (region_at s i).label) e,
)
  where
    go : (region_of s x).label ≡ (region_of s y).label → Dec (region_number s x < region_number s y) → Dec (region_number s y < region_number s x)
        → region_number s x ≡ region_number s y
    go e (yes l) d = absurd (W.labels_distinct (region_number s x) (region_number s y) l k e)
    go e (no l) (yes m) = absurd (W.labels_distinct (region_number s y) (region_number s x) m h (sym e))
    go e (no l) (no m) = omega arith

-- related steps stay related by what follows from the relation at the steps' own ends
both_imp : {X Y : Type 0} {R S : X → Y → Type 0} (o : Option X) (u : Option Y) → ((x : X) (y : Y) → o ≡ Some x → u ≡ Some y → R x y → S x y) → Both R o u → Both S o u
both_imp o u f both_barred = both_barred
both_imp o u f (both_open {x = x} {y = y} r) = both_open (f x y refl refl r)

-- what a region of a well-formed sheet is
pub region_fits : (s : Sheet) → WellFormed s → (x : Configuration) → Covered s x → RegionFits s.counters s.actions (region_of s x)
unfolding region_of
region_fits s W x h = each_at W.regions_fit (region_number s x) nowhere h

length_narrowed : (boxOf : Configuration → Box) (x : Configuration) (moves : List Move) (b : Box) → length (narrowed boxOf x moves b).ranges ≡ length b.ranges
unfolding narrowed
length_narrowed boxOf x [] b = refl
length_narrowed boxOf x (Barred ∷ moves) b = length_narrowed boxOf x moves b
length_narrowed boxOf x (Open target rules ∷ moves) b =
    let wanted = boxOf (landing target rules x) in
    length_narrowed boxOf x moves (preimage b target rules wanted) ∙ length_preimage b target rules wanted

-- a class box has a range for each counter
pub length_class_box : (s : Sheet) → WellFormed s → (k : ℕ) (x : Configuration) → Covered s x → length (class_box s k x).ranges ≡ s.counters
unfolding class_box
length_class_box s W zero x h = (region_fits s W x h).ranges_count
length_class_box s W (suc k) x h = length_narrowed (class_box s k) x (region_of s x).moves (region_of s x).box ∙ (region_fits s W x h).ranges_count

moves_cons : {R : Configuration → Configuration → Type 0} (x y : Configuration) (m : Move) (moves : List Move) → Both R (moved m x) (moved m y)
    → MovesBoth R x y moves → MovesBoth R x y (m ∷ moves)
moves_cons x y m moves b f zero = b
moves_cons x y m moves b f (suc a) = f a

-- A narrowed box holds what is in the box and lands, by each open move, in the box of where the move takes x.
pub narrowed_exact : {V# : ℕ} (boxOf : Configuration → Box) (x y : Configuration) (moves : List Move) (b : Box)
    → Each (MoveFits V#) moves → length b.ranges ≡ V# → 1 ≤ V#
    → ((a : ℕ) (x' : Configuration) → moved (get_or moves a Barred) x ≡ Some x' → length (boxOf x').ranges ≡ V#)
    → T (in_box (narrowed boxOf x moves b) y) ↔ (T (in_box b y) × MovesBoth (λ x' y'. T (in_box (boxOf x') y')) x y moves)
unfolding narrowed moved
narrowed_exact boxOf x y [] b f e h g = (λ t. (t, λ a. both_barred), λ p. p.0)
narrowed_exact boxOf x y (Barred ∷ moves) b (each_more m f) e h g =
    let i = narrowed_exact boxOf x y moves b f e h (λ a. g (suc a)) in
    (λ t. let (u, k) = i.0 t in (u, moves_cons x y Barred moves both_barred k), λ (u, k). i.1 (u, λ a. k (suc a)))
narrowed_exact boxOf x y (Open target rules ∷ moves) b (each_more (open_fits l n r) f) e h g =
    let wanted = boxOf (landing target rules x) in
    let w = g zero (landing target rules x) refl in
    let p = preimage_exact b target rules wanted y r (omega arith) e h in
    let i = narrowed_exact boxOf x y moves (preimage b target rules wanted) f (length_preimage b target rules wanted ∙ e) h (λ a. g (suc a)) in (
      λ t. let (u, k) = i.0 t in let (v, c) = p.0 u in (v, moves_cons x y (Open target rules) moves (both_open c) k),
      λ (u, k). i.1 (p.1 (u, opened (k zero)), λ a. k (suc a)),
    )
  where
    opened : {x' y' : Configuration} → Both (λ x' y'. T (in_box (boxOf x') y')) (Some x') (Some y') → T (in_box (boxOf x') y')
    opened (both_open c) = c

module _ (s : Sheet) (W : WellFormed s) where
  -- The class box of depth k holds what is covered and no sequence of at most k actions traces differently.
  pub class_exact : (k : ℕ) (x y : Configuration) → Covered s x
      → T (in_box (class_box s k x) y) ↔ (Covered s y × AlikeTo k (region_system s) (region_system s) x y)
  unfolding class_box region_system step
  class_exact zero x y h =
      let r = region_box s W x y h in
      let z = alike_to_zero (region_system s) (region_system s) x y in
      (λ t. let e = r.0 t in (omega arith, z.1 e), λ (c, f). r.1 (z.0 f))
  class_exact (suc k) x y h =
      let F = region_fits s W x h in
      let n = narrowed_exact (class_box s k) x y (region_of s x).moves (region_of s x).box F.moves_fit F.ranges_count W.counters_some
      (λ a x' e. length_class_box s W k x' (W.moves_land x x' a h e)) in
      let r = region_box s W x y h in
      let z = alike_to_suc (region_system s) (region_system s) k x y in (
        λ t.
            let (u, m) = n.0 t in
            let e = r.0 u in
            let c : Covered s y = omega arith in (
              c,
              z.1 (
                e,
                λ a.
                    both_imp (step s a x) (step s a y) (λ x' y' p q i. ((class_exact k x' y' (W.moves_land x x' a h p)).0 i).1)
                    (at_region (region_eq s x y e) a (m a)),
              ),
            ),
        λ (c, f).
            let (e, b) = z.0 f in
            n.1 (
              r.1 e,
              λ a.
                  at_region (region_eq s y x (sym e)) a
                  (both_imp (step s a x) (step s a y)
                  (λ x' y' p q i. (class_exact k x' y' (W.moves_land x x' a h p)).1 (W.moves_land y y' a c q, i))
                  (b a)),
            ),
      )
    where
      at_region : {R : Configuration → Configuration → Type 0} {q q' : Region} {o : Option Configuration} → q ≡ q' → (a : ℕ)
          → Both R o (moved (get_or q.moves a Barred) y) → Both R o (moved (get_or q'.moves a Barred) y)
      at_region {R} {o = o} e a b = subst (λ (q : Region). Both R o (moved (get_or q.moves a Barred) y)) e b

  -- Traces and readings tell the same apart, to each depth,
  pub traces_readings : (k : ℕ) (x y : Configuration) → Covered s x → Covered s y
      → AlikeTo k (region_system s) (region_system s) x y ↔ AlikeTo k (sheet_system s) (sheet_system s) x y
  unfolding region_system sheet_system
  traces_readings zero x y h c =
      let p = alike_to_zero (region_system s) (region_system s) x y in
      let q = alike_to_zero (sheet_system s) (sheet_system s) x y in
      let n = label_number s W x y h c in
      (λ t. q.1 (n.1 (p.0 t)), λ t. p.1 (n.0 (q.0 t)))
  traces_readings (suc k) x y h c =
      let p = alike_to_suc (region_system s) (region_system s) k x y in
      let q = alike_to_suc (sheet_system s) (sheet_system s) k x y in
      let n = label_number s W x y h c in
      let i : (a : ℕ) (x' y' : Configuration) → step s a x ≡ Some x' → step s a y ≡ Some y'
      → AlikeTo k (region_system s) (region_system s) x' y' ↔ AlikeTo k (sheet_system s) (sheet_system s) x' y' =
      λ a x' y' d e. traces_readings k x' y' (W.moves_land x x' a h d) (W.moves_land y y' a c e) in (
        λ t. let (e, b) = p.0 t in q.1 (n.1 e, λ a. both_imp (step s a x) (step s a y) (λ x' y' d f r. (i a x' y' d f).0 r) (b a)),
        λ t. let (e, b) = q.0 t in p.1 (n.0 e, λ a. both_imp (step s a x) (step s a y) (λ x' y' d f r. (i a x' y' d f).1 r) (b a)),
      )

  -- and for sequences of whatever length.
  pub traces_alike : (x y : Configuration) → Covered s x → Covered s y
      → Alike (region_system s) (region_system s) x y ↔ Alike (sheet_system s) (sheet_system s) x y
  traces_alike x y h c =
      let p = alike_depths (region_system s) (region_system s) x y in
      let q = alike_depths (sheet_system s) (sheet_system s) x y in
      (λ t. q.1 (λ k. (traces_readings k x y h c).0 (p.0 t k)), λ t. p.1 (λ k. (traces_readings k x y h c).1 (q.0 t k)))
