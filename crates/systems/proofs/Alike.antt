-- Equivalence of configurations: what a reading says, the one-step law, equivalence to a depth, and bisimulations.
use Rattle.std.specs.Prelude.{ℕ, zero, suc, ◌≤◌, ◌<◌, ◌≡◌, ◌↔◌, List, [], ◌∷◌, T, eqb, length, Option, Some, None, option_map}
use Rattle.std.proofs.Common.{le_of_suc-le-suc, not-suc-le-zero, le_refl, le_trans, arith, sym, ap, subst, ◌∙◌}
use Rattle.std.proofs.Math.Decide.{dec_lt}
use Rattle.std.proofs.Math.Path.{refl}
use Rattle.std.proofs.Math.Logic.{Equivalence}
use Rattle.systems.proofs.Laws.{both, eqb_tells}
use Rattle.systems.specs.System.{System, Reading, same_numbers, same_index, same_reading, after, entry, written, earliest, first_barred, reading, Alike, Below, below_nil, below_cons}
use Rattle.systems.specs.Alike.{before, skipping, Both, both_barred, both_open, AlikeOn, AlikeTo, Bisimulation}

-- A reading of n actions has n + 1 entries, whatever is barred.
pub reading_length : {X : Type 0} (s : System X) (w : List ℕ) (x : X) → length (reading s w x).entries ≡ suc (length w)
unfolding reading written
reading_length {X} s w x = ap suc (go w x)
  where
    go : (w : List ℕ) (x : X) → length (written s w x) ≡ length w
    go [] x = refl
    go (a ∷ w) x = ap suc (go w (after x (s.step a x)))

-- a reading is its entries and its barred index
pub reading_eq : {r q : Reading} → r.entries ≡ q.entries → r.barred ≡ q.barred → r ≡ q
reading_eq p q = λ i. record { entries = p i; barred = q i }

numbers_tell : (l m : List ℕ) → T (same_numbers l m) ↔ (l ≡ m)
unfolding same_numbers
numbers_tell [] [] = (λ t. refl, λ e. tt)
numbers_tell [] (y ∷ m) = (λ t. absurd t, λ e. let z : ◌≡◌ {A = ℕ} 0 1 = cc in absurd (omega arith))
numbers_tell (x ∷ l) [] = (λ t. absurd t, λ e. let z : ◌≡◌ {A = ℕ} 0 1 = cc in absurd (omega arith))
numbers_tell (x ∷ l) (y ∷ m) = (
  λ t.
      let (p, q) = (both (eqb x y) (same_numbers l m)).0 t in
      let a = (eqb_tells x y).0 p in
      let b = (numbers_tell l m).0 q in
      (λ i. a i ∷ b i),
  λ e. (both (eqb x y) (same_numbers l m)).1 ((eqb_tells x y).1 (cc), (numbers_tell l m).1 (cc)),
)

index_tells : (o u : Option ℕ) → T (same_index o u) ↔ (o ≡ u)
unfolding same_index
index_tells None None = (λ t. refl, λ e. tt)
index_tells None (Some j) = (λ t. absurd t, λ e. let z : ◌≡◌ {A = ℕ} 0 1 = cc in absurd (omega arith))
index_tells (Some i) None = (λ t. absurd t, λ e. let z : ◌≡◌ {A = ℕ} 0 1 = cc in absurd (omega arith))
index_tells (Some i) (Some j) = (λ t. ap Some ((eqb_tells i j).0 t), λ e. (eqb_tells i j).1 (cc))

-- the test of readings tells whether they are equal
pub reading_tells : (r q : Reading) → T (same_reading r q) ↔ (r ≡ q)
unfolding same_reading
reading_tells r q = (
  λ t.
      let (a, b) = (both (same_numbers r.entries q.entries) (same_index r.barred q.barred)).0 t in
      reading_eq ((numbers_tell r.entries q.entries).0 a) ((index_tells r.barred q.barred).0 b),
  λ e.
      (both (same_numbers r.entries q.entries) (same_index r.barred q.barred)).1
      ((numbers_tell r.entries q.entries).1 (ap (λ (z : Reading). z.entries) e), (index_tells r.barred q.barred).1 (ap (λ (z : Reading). z.barred) e)),
)

-- What the first action of a sequence does to a reading: after an open one come the label where it leads and what is read from there,
pub reading_open : {X : Type 0} (s : System X) (a : ℕ) (w : List ℕ) (x y : X) → s.step a x ≡ Some y → reading s (a ∷ w) x ≡ before (s.label x) (reading s w y)
unfolding reading written first_barred entry after earliest before
reading_open s a w x y e = rw e refl

-- after a barred one 65,535, and what is read from where it stood.
pub reading_barred : {X : Type 0} (s : System X) (a : ℕ) (w : List ℕ) (x : X) → s.step a x ≡ None → reading s (a ∷ w) x ≡ skipping (s.label x) (written s w x)
unfolding reading written first_barred entry after earliest skipping
reading_barred s a w x e = rw e refl

-- equal readings begin with one label, and what the actions write is equal
pub reading_parts : {X Y : Type 0} (s : System X) (t : System Y) (w : List ℕ) (x : X) (y : Y) → reading s w x ≡ reading t w y
    → (s.label x ≡ t.label y) × (written s w x ≡ written t w y)
unfolding reading
reading_parts s t w x y e =
    let p : s.label x ∷ written s w x ≡ t.label y ∷ written t w y = ap (λ (z : Reading). z.entries) e in
    (cc, cc)

-- one more than an index: the same only of the same, and never 0
pub map_suc_inj : (o u : Option ℕ) → option_map suc o ≡ option_map suc u → o ≡ u
map_suc_inj None None e = refl
map_suc_inj None (Some n) e = let z : ◌≡◌ {A = ℕ} 0 1 = cc in absurd (omega arith)
map_suc_inj (Some m) None e = let z : ◌≡◌ {A = ℕ} 0 1 = cc in absurd (omega arith)
map_suc_inj (Some m) (Some n) e = cc

pub map_suc_zero : (o : Option ℕ) → option_map suc o ≡ Some 0 → ⊥
map_suc_zero None e = let z : ◌≡◌ {A = ℕ} 0 1 = cc in omega arith
map_suc_zero (Some k) e = let z : suc k ≡ 0 = cc in omega arith

-- one label and one open action before two readings: equal only where both parts are
before_inj : (l m : ℕ) (r q : Reading) → before l r ≡ before m q → r ≡ q
unfolding before
before_inj l m r q e =
    let p : l ∷ r.entries ≡ m ∷ q.entries = ap (λ (z : Reading). z.entries) e in
    let b : option_map suc r.barred ≡ option_map suc q.barred = ap (λ (z : Reading). z.barred) e in
    reading_eq (cc) (map_suc_inj r.barred q.barred b)

-- a reading whose first action is open is none whose first action is barred
before_skipping : (l m : ℕ) (r : Reading) (rest : List ℕ) → before l r ≡ skipping m rest → ⊥
unfolding before skipping
before_skipping l m r rest e = map_suc_zero r.barred (ap (λ (z : Reading). z.barred) e)

module _ {X Y : Type 0} (s : System X) (t : System Y) (a : ℕ) (w : List ℕ) (x : X) (y : Y) where
  -- An action that is open in one and barred in the other tells them apart, whatever follows;
  pub barred_differs : (x' : X) → s.step a x ≡ Some x' → t.step a y ≡ None → reading s (a ∷ w) x ≡ reading t (a ∷ w) y → ⊥
  barred_differs x' p q e =
      before_skipping (s.label x) (t.label y) (reading s w x') (written t w y) (sym (reading_open s a w x x' p) ∙ e ∙ reading_barred t a w y q)

  -- where it is open in both, equal readings go on to equal ones.
  pub open_next : (x' : X) (y' : Y) → s.step a x ≡ Some x' → t.step a y ≡ Some y' → reading s (a ∷ w) x ≡ reading t (a ∷ w) y → reading s w x' ≡ reading t w y'
  open_next x' y' p q e =
      before_inj (s.label x) (t.label y) (reading s w x') (reading t w y') (sym (reading_open s a w x x' p) ∙ e ∙ reading_open t a w y y' q)

pub both_map : {X Y : Type 0} {R S : X → Y → Type 0} {o : Option X} {u : Option Y} → ((x : X) (y : Y) → R x y → S x y) → Both R o u → Both S o u
both_map f both_barred = both_barred
both_map f (both_open {x = x} {y = y} r) = both_open (f x y r)

pub both_sym : {X Y : Type 0} {R : X → Y → Type 0} {o : Option X} {u : Option Y} → Both R o u → Both (λ y x. R x y) u o
both_sym both_barred = both_barred
both_sym (both_open r) = both_open r

-- where one of the two steps is open, so is the other
pub both_right : {X Y : Type 0} {R : X → Y → Type 0} (o : Option X) {u : Option Y} {x : X} → Both R o u → o ≡ Some x → (y : Y) × (u ≡ Some y) × R x y
both_right None b e = let z : ◌≡◌ {A = ℕ} 0 1 = cc in absurd (omega arith)
both_right {X} {Y} {R} (Some x') {u} {x} b e = go b
  where
    go : {u' : Option Y} → Both R (Some x') u' → (y : Y) × (u' ≡ Some y) × R x y
    go (both_open {y = y} r) = (y, refl, subst (λ (z : X). R z y) (cc) r)

pub both_left : {X Y : Type 0} {R : X → Y → Type 0} {o : Option X} (u : Option Y) {y : Y} → Both R o u → u ≡ Some y → (x : X) × (o ≡ Some x) × R x y
both_left u b e = both_right u (both_sym b) e

-- Related steps go on to equal readings, where what a barred action leaves reads the same.
pub next_both : {X Y : Type 0} {R : X → Y → Type 0} (s : System X) (t : System Y) (a : ℕ) (w : List ℕ) (x : X) (y : Y) → reading s w x ≡ reading t w y
    → ((x' : X) (y' : Y) → R x' y' → reading s w x' ≡ reading t w y') → Both R (s.step a x) (t.step a y) → reading s (a ∷ w) x ≡ reading t (a ∷ w) y
next_both {X} {Y} {R} s t a w x y e f b = go refl refl b
  where
    go : {o : Option X} {u : Option Y} → s.step a x ≡ o → t.step a y ≡ u → Both R o u → reading s (a ∷ w) x ≡ reading t (a ∷ w) y
    go p q both_barred =
        let (l, r) = reading_parts s t w x y e in
        let z : skipping (s.label x) (written s w x) ≡ skipping (t.label y) (written t w y) = cc in
        reading_barred s a w x p ∙ z ∙ sym (reading_barred t a w y q)
    go p q (both_open {x = x'} {y = y'} r) =
        let l = (reading_parts s t w x y e).0 in
        let h = f x' y' r in
        let z : before (s.label x) (reading s w x') ≡ before (t.label y) (reading t w y') = cc in
        reading_open s a w x x' p ∙ z ∙ sym (reading_open t a w y y' q)

-- and readings that are equal, behind an action, on all sequences of a kind come from related steps
pub both_next : {X Y : Type 0} (P : List ℕ → Type 0) (s : System X) (t : System Y) (a : ℕ) (x : X) (y : Y) → P []
    → ((w : List ℕ) → P w → reading s (a ∷ w) x ≡ reading t (a ∷ w) y) → Both (AlikeOn P s t) (s.step a x) (t.step a y)
both_next {X} {Y} P s t a x y p h = go (s.step a x) (t.step a y) refl refl
  where
    go : (o : Option X) (u : Option Y) → s.step a x ≡ o → t.step a y ≡ u → Both (AlikeOn P s t) (s.step a x) (t.step a y)
    go None None e f = rw (e, f) both_barred
    go None (Some y') e f = absurd (barred_differs t s a [] y x y' f e (sym (h [] p)))
    go (Some x') None e f = absurd (barred_differs s t a [] x y x' e f (h [] p))
    go (Some x') (Some y') e f = rw (e, f) (both_open (λ w q. open_next s t a w x y x' y' e f (h w q)))

module _ {X Y : Type 0} (s : System X) (t : System Y) where
  labels_eq : (x : X) (y : Y) → reading s [] x ≡ reading t [] y → s.label x ≡ t.label y
  labels_eq x y e = (reading_parts s t [] x y e).0

  -- no action: the labels alone
  empty_eq : (x : X) (y : Y) → s.label x ≡ t.label y → reading s [] x ≡ reading t [] y
  unfolding reading written first_barred
  empty_eq x y e = reading_eq (ap (λ (l : ℕ). l ∷ []) e) refl

  alike_out : (x : X) (y : Y) → Alike s t x y → (a : ℕ) → Both (Alike s t) (s.step a x) (t.step a y)
  alike_out x y h a = both_map (λ x' y' r w. r w tt) (both_next (λ w. Unit {0}) s t a x y tt (λ w u. h (a ∷ w)))

  alike_in : (x : X) (y : Y) → s.label x ≡ t.label y → ((a : ℕ) → Both (Alike s t) (s.step a x) (t.step a y)) → Alike s t x y
  alike_in x y e h [] = empty_eq x y e
  alike_in x y e h (a ∷ w) = next_both s t a w x y (alike_in x y e h w) (λ x' y' r. r w) (h a)

  -- The one-step law: equivalent configurations have one label, and each action is barred in both or leads to equivalent ones.
  pub alike_step : (x : X) (y : Y) → Alike s t x y ↔ ((s.label x ≡ t.label y) × ((a : ℕ) → Both (Alike s t) (s.step a x) (t.step a y)))
  alike_step x y = (λ h. (labels_eq x y (h []), alike_out x y h), λ p. alike_in x y p.0 p.1)

  pub alike_label : (x : X) (y : Y) → Alike s t x y → s.label x ≡ t.label y
  alike_label x y h = ((alike_step x y).0 h).0

  pub alike_next : (x : X) (y : Y) → Alike s t x y → (a : ℕ) → Both (Alike s t) (s.step a x) (t.step a y)
  alike_next x y h = ((alike_step x y).0 h).1

  -- to depth 0: the labels alone
  pub alike_to_zero : (x : X) (y : Y) → AlikeTo zero s t x y ↔ (s.label x ≡ t.label y)
  alike_to_zero x y = (λ h. labels_eq x y (h [] (omega arith)), go)
    where
      go : s.label x ≡ t.label y → (w : List ℕ) → length w ≤ zero → reading s w x ≡ reading t w y
      go e [] h = empty_eq x y e
      go e (a ∷ w) h = absurd (not-suc-le-zero h)

  -- to depth k + 1: the labels, and each action to depth k
  pub alike_to_suc : (k : ℕ) (x : X) (y : Y)
      → AlikeTo (suc k) s t x y ↔ ((s.label x ≡ t.label y) × ((a : ℕ) → Both (AlikeTo k s t) (s.step a x) (t.step a y)))
  alike_to_suc k x y = (
    λ h. (labels_eq x y (h [] (omega arith)), λ a. both_next (λ w. length w ≤ k) s t a x y (omega arith) (λ w l. h (a ∷ w) (omega arith))),
    λ p. go p.0 p.1,
  )
    where
      go : s.label x ≡ t.label y → ((a : ℕ) → Both (AlikeTo k s t) (s.step a x) (t.step a y)) → (w : List ℕ) → length w ≤ suc k → reading s w x ≡ reading t w y
      go e h [] l = empty_eq x y e
      go e h (a ∷ w) l = next_both s t a w x y (go e h w (omega arith)) (λ x' y' r. r w (le_of_suc-le-suc l)) (h a)

  -- equivalent configurations are those that are so to every depth
  pub alike_depths : (x : X) (y : Y) → Alike s t x y ↔ ((k : ℕ) → AlikeTo k s t x y)
  alike_depths x y = (λ h k w l. h w, λ h w. h (length w) w (le_refl (length w)))

  -- to a depth, so to each lesser one
  pub alike_to_le : {j k : ℕ} (x : X) (y : Y) → j ≤ k → AlikeTo k s t x y → AlikeTo j s t x y
  alike_to_le x y h r w l = r w (le_trans l h)

  -- equivalence is a bisimulation,
  pub alike_bisimulation : Bisimulation s t (Alike s t)
  alike_bisimulation = record { label = alike_label; next = alike_next }

  -- and contains each
  pub bisimilar_alike : {R : X → Y → Type 0} → Bisimulation s t R → (x : X) (y : Y) → R x y → Alike s t x y
  bisimilar_alike B x y r [] = empty_eq x y (B.label x y r)
  bisimilar_alike B x y r (a ∷ w) = next_both s t a w x y (bisimilar_alike B x y r w) (λ x' y' q. bisimilar_alike B x' y' q w) (B.next x y r a)

-- equivalence within one system and between systems
pub alike_refl : {X : Type 0} (s : System X) (x : X) → Alike s s x x
alike_refl s x w = refl

pub alike_sym : {X Y : Type 0} (s : System X) (t : System Y) (x : X) (y : Y) → Alike s t x y → Alike t s y x
alike_sym s t x y h w = sym (h w)

pub alike_trans : {X Y Z : Type 0} (s : System X) (t : System Y) (u : System Z) (x : X) (y : Y) (z : Z) → Alike s t x y → Alike t u y z → Alike s u x z
alike_trans s t u x y z h g w = h w ∙ g w

pub alike_equivalence : {X : Type 0} (s : System X) → Equivalence (Alike s s)
alike_equivalence s = record { refl = alike_refl s; symm = alike_sym s s; trans = alike_trans s s s }

-- and to a depth
pub alike_to_equivalence : {X : Type 0} (k : ℕ) (s : System X) → Equivalence (AlikeTo k s s)
alike_to_equivalence k s = record { refl = λ x w l. refl; symm = λ x y h w l. sym (h w l); trans = λ x y z h g w l. h w l ∙ g w l }

-- Where both systems bar every action from n on, the sequences of actions below n tell all.
pub alike_below : {X Y : Type 0} (s : System X) (t : System Y) (n : ℕ)
    → ((a : ℕ) → n ≤ a → (x : X) → s.step a x ≡ None) → ((a : ℕ) → n ≤ a → (y : Y) → t.step a y ≡ None)
    → (x : X) (y : Y) → AlikeOn (Below n) s t x y ↔ Alike s t x y
alike_below {X} {Y} s t n hs ht x y = (λ h. bisimilar_alike s t (record { label = label; next = next }) x y h, λ h w b. h w)
  where
    label : (x : X) (y : Y) → AlikeOn (Below n) s t x y → s.label x ≡ t.label y
    label x y h = (reading_parts s t [] x y (h [] below_nil)).0

    next : (x : X) (y : Y) → AlikeOn (Below n) s t x y → (a : ℕ) → Both (AlikeOn (Below n) s t) (s.step a x) (t.step a y)
    next x y h a = go (dec_lt a n)
      where
        go : Dec (a < n) → Both (AlikeOn (Below n) s t) (s.step a x) (t.step a y)
        go (yes l) = both_next (Below n) s t a x y below_nil (λ w b. h (a ∷ w) (below_cons l b))
        go (no l) = rw (hs a (omega arith) x, ht a (omega arith) y) both_barred

-- The same to a depth.
pub alike_to_below : {X Y : Type 0} (s : System X) (t : System Y) (n : ℕ)
    → ((a : ℕ) → n ≤ a → (x : X) → s.step a x ≡ None) → ((a : ℕ) → n ≤ a → (y : Y) → t.step a y ≡ None)
    → (k : ℕ) (x : X) (y : Y) → AlikeOn (λ w. Below n w × (length w ≤ k)) s t x y → AlikeTo k s t x y
alike_to_below s t n hs ht zero x y h = (alike_to_zero s t x y).1 (reading_parts s t [] x y (h [] (below_nil, omega arith))).0
alike_to_below {X} {Y} s t n hs ht (suc k) x y h =
    (alike_to_suc s t k x y).1 ((reading_parts s t [] x y (h [] (below_nil, omega arith))).0, λ a. next (λ x' y'. alike_to_below s t n hs ht k x' y') a (dec_lt a n))
  where
    next : ((x' : X) (y' : Y) → AlikeOn (λ w. Below n w × (length w ≤ k)) s t x' y' → AlikeTo k s t x' y')
        → (a : ℕ) → Dec (a < n) → Both (AlikeTo k s t) (s.step a x) (t.step a y)
    next again a (yes l) =
        both_map again
        (both_next (λ w. Below n w × (length w ≤ k)) s t a x y (below_nil, omega arith) (λ w p. h (a ∷ w) (below_cons l p.0, omega (arith, p.1))))
    next again a (no l) = rw (hs a (omega arith) x, ht a (omega arith) y) both_barred
