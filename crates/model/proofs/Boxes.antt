-- Laws of boxes: membership, exact cuts and preimages, inclusion, and that a box with a member is determined by its members.
use Rattle.std.specs.Prelude.{◌≡◌, refl, ◌↔◌, Bool, true, false, List, [], ◌∷◌, ℕ, zero, suc, ◌≤◌, ◌<◌, T, eqb, length, get_or, set, ℤ, pos, ◌≤ℤ◌}
use Rattle.std.proofs.Common.{sym, ap, subst, ◌∙◌, arith, not-suc-le-zero, le_of_suc-le-suc, eqb→eq, length-set, eqb-true}
use Rattle.std.proofs.Math.Dec.{eqb_refl}
use Rattle.std.proofs.lemmas.Bool.{eqb-false}
use Rattle.integers.proofs.Order.{ints}
use Rattle.integers.specs.declared.Range.{Range}
use Rattle.integers.specs.Range.{contains, meet}
use Rattle.integers.proofs.RangeLaws.{contains_le, meet_contains}
use Rattle.integers.specs.Inverse.{inverse}
use Rattle.integers.proofs.Inverse.{inverse_exact}
use Rattle.systems.proofs.Laws.{both}
use Rattle.model.specs.declared.Rule.{Rule}
use Rattle.model.specs.declared.Rule.TheVariants.{Set, Carry}
use Rattle.model.specs.Sheet.{Configuration, Box, within, in_box, applied, updated, landing, RuleFits, carry_fits, RangeFits, Each, each_none, each_more}
use Rattle.model.specs.Blocks.{empty, emptied, cut, cuts, preimage}
use Rattle.model.specs.Boxes.{Inside, inside_none, inside_more, Ordered}

-- membership by its parts
pub within_cons : (r : Range) (rs : List Range) (x : ℤ) (xs : List ℤ) → T (within (r ∷ rs) (x ∷ xs)) ↔ (T (contains r x) × T (within rs xs))
unfolding within
within_cons r rs x xs = both (contains r x) (within rs xs)

eqb_eq : (m n : ℕ) → T (eqb m n) ↔ (m ≡ n)
eqb_eq m n = (eqb→eq m n, λ e. subst (λ (k : ℕ). T (eqb m k)) e (eqb_refl m))

pub in_box_parts : (b : Box) (x : Configuration) → T (in_box b x) ↔ ((b.state ≡ x.state) × T (within b.ranges x.values))
unfolding in_box
in_box_parts b x =
    let p = both (eqb b.state x.state) (within b.ranges x.values) in
    let q = eqb_eq b.state x.state in
    (λ t. (q.0 (p.0 t).0, (p.0 t).1), λ h. p.1 (q.1 h.0, h.1))

-- there is a value for each range
pub within_length : (rs : List Range) (xs : List ℤ) → T (within rs xs) → length rs ≡ length xs
unfolding within
within_length [] [] t = refl
within_length [] (x ∷ xs) t = absurd t
within_length (r ∷ rs) [] t = absurd t
within_length (r ∷ rs) (x ∷ xs) t = ap suc (within_length rs xs ((within_cons r rs x xs).0 t).1)

-- one range cut by another: the values whose value there is also in the other
pub within_set : (rs : List Range) (xs : List ℤ) (i : ℕ) (q : Range) → i < length rs
    → T (within (set rs i (meet (get_or rs i empty) q)) xs) ↔ (T (within rs xs) × T (contains q (get_or xs i (pos 0))))
unfolding within
within_set [] xs i q h = absurd (not-suc-le-zero h)
within_set (r ∷ rs) [] zero q h = (λ t. absurd t, λ t. t.0)
within_set (r ∷ rs) [] (suc i) q h = (λ t. absurd t, λ t. t.0)
within_set (r ∷ rs) (x ∷ xs) zero q h =
    let a = within_cons (meet r q) rs x xs in
    let b = within_cons r rs x xs in
    let m = meet_contains r q x in
    (λ t. let (c, w) = a.0 t in let (d, e) = m.0 c in (b.1 (d, w), e), λ t. let (d, w) = b.0 t.0 in a.1 (m.1 (d, t.1), w))
within_set (r ∷ rs) (x ∷ xs) (suc i) q h =
    let a = within_cons r (set rs i (meet (get_or rs i empty) q)) x xs in
    let b = within_cons r rs x xs in
    let m = within_set rs xs i q (le_of_suc-le-suc h) in
    (λ t. let (c, w) = a.0 t in let (d, e) = m.0 w in (b.1 (c, d), e), λ t. let (c, w) = b.0 t.0 in a.1 (c, m.1 (w, t.1)))

pub empty_none : (x : ℤ) → T (contains empty x) → ⊥
empty_none x t = let h = (contains_le empty x).0 t in omega ints

pub length_emptied : (rs : List Range) → length (emptied rs) ≡ length rs
unfolding emptied
length_emptied [] = refl
length_emptied (r ∷ rs) = ap suc (length_emptied rs)

-- emptied ranges hold nothing
pub emptied_none : (rs : List Range) (xs : List ℤ) → 1 ≤ length rs → T (within (emptied rs) xs) → ⊥
unfolding emptied within
emptied_none [] xs h t = omega arith
emptied_none (r ∷ rs) [] h t = t
emptied_none (r ∷ rs) (x ∷ xs) h t = empty_none x ((within_cons empty (emptied rs) x xs).0 t).0

pub length_cut : (rule : Rule) (w : Range) (rs : List Range) → length (cut rule w rs) ≡ length rs
unfolding cut
length_cut (Set offset) w rs = go (contains w offset)
  where
    go : (b : Bool) → length {A = Range} (elim b [ true ↦ rs | false ↦ emptied rs ]) ≡ length rs
    go true = refl
    go false = length_emptied rs
length_cut (Carry source factor offset) w rs = length-set rs source (meet (get_or rs source empty) (inverse factor offset w))

pub length_cuts : (rules : List Rule) (wanted rs : List Range) → length (cuts rules wanted rs) ≡ length rs
unfolding cuts
length_cuts [] wanted rs = refl
length_cuts (rule ∷ rules) [] rs = refl
length_cuts (rule ∷ rules) (w ∷ wanted) rs = length_cuts rules wanted (cut rule w rs) ∙ length_cut rule w rs

-- A cut is exact: it keeps the values that the rule takes into the wanted range.
pub cut_exact : {V# : ℕ} (rule : Rule) (w : Range) (rs : List Range) (xs : List ℤ) → RuleFits V# rule → length rs ≡ V# → 1 ≤ V#
    → T (within (cut rule w rs) xs) ↔ (T (within rs xs) × T (contains w (applied rule xs)))
unfolding cut applied
cut_exact (Set offset) w rs xs f e h = go (contains w offset)
  where
    go : (b : Bool) → T (within (elim b [ true ↦ rs | false ↦ emptied rs ]) xs) ↔ (T (within rs xs) × T b)
    go true = (λ t. (t, tt), λ t. t.0)
    go false = (λ t. absurd (emptied_none rs xs (omega arith) t), λ t. absurd t.1)
cut_exact (Carry source factor offset) w rs xs (carry_fits l n p q) e h =
    let m = within_set rs xs source (inverse factor offset w) (omega arith) in
    let i = inverse_exact factor offset w (get_or xs source (pos 0)) n in
    (λ t. let (a, b) = m.0 t in (a, i.0 b), λ t. m.1 (t.0, i.1 t.1))

pub cuts_exact : {V# : ℕ} (rules : List Rule) (wanted rs : List Range) (xs : List ℤ) → Each (RuleFits V#) rules → length rules ≡ length wanted → length rs ≡ V# → 1 ≤ V#
    → T (within (cuts rules wanted rs) xs) ↔ (T (within rs xs) × T (within wanted (updated rules xs)))
unfolding cuts updated within
cuts_exact [] [] rs xs f l e h = (λ t. (t, tt), λ t. t.0)
cuts_exact [] (w ∷ wanted) rs xs f l e h = absurd (omega arith)
cuts_exact (rule ∷ rules) [] rs xs f l e h = absurd (omega arith)
cuts_exact (rule ∷ rules) (w ∷ wanted) rs xs (each_more p f) l e h =
    let c = cut_exact rule w rs xs p e h in
    let d = cuts_exact rules wanted (cut rule w rs) xs f (omega arith) (length_cut rule w rs ∙ e) h in
    let g = within_cons w wanted (applied rule xs) (updated rules xs) in (
      λ t. let (a, b) = d.0 t in let (u, v) = c.0 a in (u, g.1 (v, b)),
      λ t. let (v, b) = g.0 t.1 in d.1 (c.1 (t.0, v), b),
    )

pub length_preimage : (b : Box) (target : ℕ) (rules : List Rule) (wanted : Box) → length (preimage b target rules wanted).ranges ≡ length b.ranges
unfolding preimage
length_preimage b target rules wanted = go (eqb target wanted.state)
  where
    go : (t : Bool) → length {A = Range} (elim t [ true ↦ cuts rules wanted.ranges b.ranges | false ↦ emptied b.ranges ]) ≡ length b.ranges
    go true = length_cuts rules wanted.ranges b.ranges
    go false = length_emptied b.ranges

ranges_exact : {V# : ℕ} (b : Box) (target : ℕ) (rules : List Rule) (wanted : Box) (y : Configuration)
    → Each (RuleFits V#) rules → length rules ≡ length wanted.ranges → length b.ranges ≡ V# → 1 ≤ V#
    → T (within (preimage b target rules wanted).ranges y.values)
    ↔ (T (within b.ranges y.values) × ((wanted.state ≡ target) × T (within wanted.ranges (updated rules y.values))))
unfolding preimage
ranges_exact b target rules wanted y f l e h = go (eqb target wanted.state) refl
  where
    go : (t : Bool) → eqb target wanted.state ≡ t
        → T (within (elim t [ true ↦ cuts rules wanted.ranges b.ranges | false ↦ emptied b.ranges ]) y.values)
        ↔ (T (within b.ranges y.values) × ((wanted.state ≡ target) × T (within wanted.ranges (updated rules y.values))))
    go true t =
        let c = cuts_exact rules wanted.ranges b.ranges y.values f l e h in
        (λ u. let (m, n) = c.0 u in (m, (sym (eqb-true target wanted.state t), n)), λ (m, (k, n)). c.1 (m, n))
    go false t = (
      λ u. absurd (emptied_none b.ranges y.values (omega arith) u),
      λ (m, (k, n)). absurd (eqb-false target wanted.state t (sym k)),
    )

-- A preimage is exact: it holds what is in the box and lands in the wanted box.
pub preimage_exact : {V# : ℕ} (b : Box) (target : ℕ) (rules : List Rule) (wanted : Box) (y : Configuration)
    → Each (RuleFits V#) rules → length rules ≡ length wanted.ranges → length b.ranges ≡ V# → 1 ≤ V#
    → T (in_box (preimage b target rules wanted) y) ↔ (T (in_box b y) × T (in_box wanted (landing target rules y)))
unfolding preimage landing
preimage_exact b target rules wanted y f l e h =
    let p = in_box_parts (preimage b target rules wanted) y in
    let q = in_box_parts b y in
    let r = in_box_parts wanted (landing target rules y) in
    let g = ranges_exact b target rules wanted y f l e h in (
      λ t. let (u, v) = p.0 t in let (m, n) = g.0 v in (q.1 (u, m), r.1 n),
      λ t. let (u, m) = q.0 t.0 in p.1 (u, g.1 (m, r.0 t.1)),
    )

pub inside_length : {qs rs : List Range} → Inside qs rs → length qs ≡ length rs
inside_length inside_none = refl
inside_length (inside_more l u h) = ap suc (inside_length h)

-- what is in the ranges is in those around them
pub inside_within : {qs rs : List Range} → Inside qs rs → (xs : List ℤ) → T (within qs xs) → T (within rs xs)
unfolding within
inside_within inside_none xs t = t
inside_within (inside_more l u h) [] t = t
inside_within (inside_more {q = q} {r = r} {qs = qs} {rs = rs} l u h) (x ∷ xs) t =
    let (c, w) = (within_cons q qs x xs).0 t in
    let (d, e) = (contains_le q x).0 c in
    (within_cons r rs x xs).1 ((contains_le r x).1 (omega ints, omega ints), inside_within h xs w)

-- Ranges with a member, all of whose members are in others, lie inside them.
pub within_inside : (qs rs : List Range) (xs : List ℤ) → T (within qs xs) → ((ys : List ℤ) → T (within qs ys) → T (within rs ys)) → Inside qs rs
unfolding within
within_inside [] [] xs t f = inside_none
within_inside [] (r ∷ rs) xs t f = absurd (f [] tt)
within_inside (q ∷ qs) rs [] t f = absurd t
within_inside (q ∷ qs) [] (x ∷ xs) t f = absurd (f (x ∷ xs) t)
within_inside (q ∷ qs) (r ∷ rs) (x ∷ xs) t f =
    let (c, w) = (within_cons q qs x xs).0 t in
    let (d, e) = (contains_le q x).0 c in
    let head : (z : ℤ) → T (contains q z) → T (contains r z) = λ z h. ((within_cons r rs z xs).0 (f (z ∷ xs) ((within_cons q qs z xs).1 (h, w)))).0 in
    let low = (contains_le r q.low).0 (head q.low ((contains_le q q.low).1 (omega ints, omega ints))) in
    let high = (contains_le r q.high).0 (head q.high ((contains_le q q.high).1 (omega ints, omega ints))) in
    inside_more low.0 high.1 (within_inside qs rs xs w (λ ys h. ((within_cons r rs x ys).0 (f (x ∷ ys) ((within_cons q qs x ys).1 (c, h)))).1))

inside_antisym : {qs rs : List Range} → Inside qs rs → Inside rs qs → qs ≡ rs
inside_antisym inside_none g = refl
inside_antisym (inside_more {q = q} {r = r} l u h) (inside_more m v g) =
    let a : q.low ≡ r.low = omega ints in
    let b : q.high ≡ r.high = omega ints in
    let e : q ≡ r = λ i. record { low = a i; high = b i } in
    let t = inside_antisym h g in
    cc

-- the same for boxes
pub box_inside : (b c : Box) (x : Configuration) → T (in_box b x) → ((y : Configuration) → T (in_box b y) → T (in_box c y))
    → (b.state ≡ c.state) × Inside b.ranges c.ranges
box_inside b c x t f =
    let (e, w) = (in_box_parts b x).0 t in
    let d = ((in_box_parts c x).0 (f x t)).0 in (
      e ∙ sym d,
      within_inside b.ranges c.ranges x.values w (λ ys h. ((in_box_parts c (at ys)).0 (f (at ys) ((in_box_parts b (at ys)).1 (refl, h)))).1),
    )
  where
    at : List ℤ → Configuration
    at ys = record { state = b.state; values = ys }

-- a preimage with a member lies inside the box
pub preimage_inside : {V# : ℕ} (b : Box) (target : ℕ) (rules : List Rule) (wanted : Box) (y : Configuration)
    → Each (RuleFits V#) rules → length rules ≡ length wanted.ranges → length b.ranges ≡ V# → 1 ≤ V#
    → T (in_box (preimage b target rules wanted) y) → Inside (preimage b target rules wanted).ranges b.ranges
preimage_inside b target rules wanted y f l e h t =
    (box_inside (preimage b target rules wanted) b y t (λ z u. ((preimage_exact b target rules wanted z f l e h).0 u).0)).1

-- Two boxes with the same members, of which there is one, are the same.
pub box_ext : (b c : Box) (x : Configuration) → T (in_box b x) → ((y : Configuration) → T (in_box b y) ↔ T (in_box c y)) → b ≡ c
box_ext b c x t f =
    let p = box_inside b c x t (λ y. (f y).0) in
    let q = box_inside c b x ((f x).0 t) (λ y. (f y).1) in
    let r = inside_antisym p.1 q.1 in
    λ i. record { state = p.0 i; ranges = r i }

-- ranges with a member are in order
pub within_ordered : (rs : List Range) (xs : List ℤ) → T (within rs xs) → Each Ordered rs
unfolding within
within_ordered [] xs t = each_none
within_ordered (r ∷ rs) [] t = absurd t
within_ordered (r ∷ rs) (x ∷ xs) t =
    let (c, w) = (within_cons r rs x xs).0 t in
    let (d, e) = (contains_le r x).0 c in
    each_more {a = r} (omega ints) (within_ordered rs xs w)

-- ranges within the limits are in order
pub fits_ordered : {rs : List Range} → Each RangeFits rs → Each Ordered rs
fits_ordered each_none = each_none
fits_ordered (each_more {a = r} f fs) = each_more {a = r} f.ordered (fits_ordered fs)

-- A property that a range in order takes over from a range around it, ranges in order take over from ranges around them.
pub inside_each : {P : Range → Type 0} → ((q r : Range) → r.low ≤ℤ q.low → q.low ≤ℤ q.high → q.high ≤ℤ r.high → P r → P q)
    → {qs rs : List Range} → Inside qs rs → Each Ordered qs → Each P rs → Each P qs
inside_each f inside_none o ps = each_none
inside_each f (inside_more {q = q} {r = r} l u h) (each_more o os) (each_more p ps) = each_more (f q r l o u p) (inside_each f h os ps)

-- to be within the limits is one
pub inside_fits : {qs rs : List Range} → Inside qs rs → Each Ordered qs → Each RangeFits rs → Each RangeFits qs
inside_fits i o f = inside_each (λ q r l p u f. record { ordered = p; low_fits = omega ints; high_fits = omega ints }) i o f
