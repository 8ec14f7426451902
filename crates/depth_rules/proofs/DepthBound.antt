-- The depth at which boxes are exact: if a well-formed sheet has at most n reached classes, then what no sequence of at most depth_bound actions tells
-- apart from a reached configuration is equivalent to it. The bound does not depend on the sheet's ranges, but for how often a number can be doubled in them.
-- The theorem is `depth_exact`, at the end; `depth_class` says it of class boxes.
--
-- The proof. Let y and x run side by side along a distinguishing sequence. At its end some counter v of y is outside its range, and that of x is in it. Along
-- the sequence v's value is a factor times the value of some counter, the source, plus an offset, and at no place is it set, since then y and x would agree.
-- A place on the way has a key: the class of x there, the source there of v's value, the sign of the factor, and how many factors other than 1 and -1 are
-- still to come. There are depth_bound keys. If two places have one key, then the moves between lead the class of x into itself and add a number to the source.
-- A class has ends, so that number is 0, and the sequence without these moves tells y from x as well. So a shortest one has no more moves than there are keys.
use Rattle.std.specs.Prelude.{◌≡◌, ◌↔◌, T, length, drop, ℤ, pos, negsuc, ◌-ℤ◌, ◌*ℤ◌}
use Rattle.std.proofs.Math.Path.{refl, sym, ap, subst}
use Rattle.std.proofs.Common.{subst₂, ◌∙◌, ⊎_elim, arith, not-suc-le-zero, le_of_suc-le-suc, le_refl, pow_pos, length-drop}
use mathlib.Core.List.{List, [], ◌∷◌}
use Prim.Native.Nat.{ℕ, zero, suc, ◌+◌, ◌*◌, ◌^◌, ◌≤◌, ◌<◌}
use Rattle.std.proofs.Math.Decide.{ℕ_discrete, dec_le}
use Rattle.std.proofs.Math.ListN.{get_or}
use Rattle.integers.specs.Order.{up, dn}
use Rattle.integers.proofs.Order.{ints, add_parts, sub_parts, mul_up, mul_dn}
use Rattle.integers.specs.declared.Range.{Range}
use Rattle.integers.specs.Range.{contains, size, Within}
use Rattle.integers.proofs.RangeLaws.{contains_le, size_some, within_size}
use Rattle.integers.specs.Inverse.{carried}
use Rattle.systems.specs.System.{Alike, reading, Reached}
use Rattle.systems.specs.Alike.{AlikeTo}
use Rattle.systems.proofs.Alike.{alike_to_le, alike_depths, alike_label, alike_sym, alike_trans}
use Rattle.systems.proofs.Laws.{told, true_is, not_true}
use Rattle.exploration.proofs.Pigeonhole.{repeated, choose, paired_below, paired_injective}
use Rattle.exploration.specs.Explored.{Few}
use Rattle.model.specs.declared.Rule.{Rule}
use Rattle.model.specs.declared.Rule.TheVariants.{Set, Carry}
use Rattle.model.specs.Sheet.{Configuration, Open, Sheet, within, in_box, region_number, region_of, region_at, Covered, applied, landing}
use Rattle.model.specs.Sheet.{sheet_system, region_system, RuleFits, MoveFits, barred_fits, open_fits, Each, each_none, each_more, WellFormed}
use Rattle.model.specs.Blocks.{empty, class_box, class_of}
use Rattle.model.proofs.Boxes.{within_cons, within_length, in_box_parts, box_ext}
use Rattle.model.proofs.Classes.{each_at, covered_in, region_box, region_fits, traces_readings, traces_alike}
use Rattle.model.proofs.ClassTheorem.{class_depth, class_members, class_holds, reached_covered}
use Rattle.depth_rules.specs.Composition.{updated_by, followed, great, greats, sign, distance, Close, close_none, close_more}
use Rattle.depth_rules.proofs.Composition.{followed_applied, followed_fits, followed_set, greats_split, loop_one, greats_units, greats_few}
use Rattle.depth_rules.specs.Distinguishing.{Beside, beside_here, beside_there, Untold}
use Rattle.depth_rules.proofs.Distinguishing.{untold_alike, alike_untold, untold_after, beside_alike, beside_untold}
use Rattle.depth_rules.specs.Distinguishing.{left_at, right_at, Part}
use Rattle.depth_rules.proofs.Distinguishing.{beside_swap, beside_state, beside_values, beside_reached, beside_covered, left_first, right_first, part, rest}
use Rattle.depth_rules.specs.DepthBound.{UnitMove, unit_barred, unit_open, Doublings, unit_factors, narrow_ranges, depth_bound}

-- the value of a counter
abbrev value_of : Configuration → ℕ → ℤ
value_of x v = get_or x.values v (pos 0)

-- a property of each element and of the default is one of the element at any index
each_anywhere : {A : Type 0} {P : A → Type 0} {l : List A} {d : A} → Each P l → P d → (i : ℕ) → P (get_or l i d)
each_anywhere each_none z i = z
each_anywhere (each_more p e) z zero = p
each_anywhere (each_more p e) z (suc i) = each_anywhere e z i

-- values within ranges, counter by counter
within_at : (rs : List Range) (xs : List ℤ) (v : ℕ) → T (within rs xs) → v < length rs → T (contains (get_or rs v empty) (get_or xs v (pos 0)))
unfolding within
within_at [] xs v t h = absurd (not-suc-le-zero h)
within_at (r ∷ rs) [] v t h = absurd t
within_at (r ∷ rs) (x ∷ xs) zero t h = ((within_cons r rs x xs).0 t).0
within_at (r ∷ rs) (x ∷ xs) (suc v) t h = within_at rs xs v ((within_cons r rs x xs).0 t).1 (le_of_suc-le-suc h)

-- values that are not within ranges are outside one of them
outside : (rs : List Range) (xs : List ℤ) → length rs ≡ length xs → (T (within rs xs) → ⊥)
    → (v : ℕ) × (v < length rs) × (T (contains (get_or rs v empty) (get_or xs v (pos 0))) → ⊥)
unfolding within
outside [] [] e h = absurd (h tt)
outside [] (x ∷ xs) e h = absurd (omega arith)
outside (r ∷ rs) [] e h = absurd (omega arith)
outside (r ∷ rs) (x ∷ xs) e h =
    ⊎_elim
    (λ c.
    let (v, l, o) = outside rs xs (omega arith) (λ w. h ((within_cons r rs x xs).1 (true_is (contains r x) c, w))) in
    (suc v, omega arith, o))
    (λ c. (0, omega arith, not_true (contains r x) c))
    (told (contains r x))

-- two values of one range lie less than its size apart
distance_lt : (r : Range) (x y : ℤ) → T (contains r x) → T (contains r y) → distance x y < size r
unfolding distance
distance_lt r x y t u =
    let (a, b) = (contains_le r x).0 t in
    let (c, d) = (contains_le r y).0 u in
    go (y -ℤ x) (sub_parts y x) (size_some r (omega ints))
  where
    go : (z : ℤ) → up z + (dn y + up x) ≡ dn z + (up y + dn x) → size r + (up r.low + dn r.high) ≡ suc (up r.high + dn r.low) → up z + dn z < size r
    go (pos n) e f =
        let (a, b) = (contains_le r x).0 t in
        let (c, d) = (contains_le r y).0 u in
        omega ints
    go (negsuc n) e f =
        let (a, b) = (contains_le r x).0 t in
        let (c, d) = (contains_le r y).0 u in
        omega ints

-- values within narrow ranges are close
values_close : (m : ℕ) {rs : List Range} → Each (λ r. size r ≤ 2 ^ m) rs → (xs ys : List ℤ) → T (within rs xs) → T (within rs ys) → (u : ℕ)
    → distance (get_or xs u (pos 0)) (get_or ys u (pos 0)) < 2 ^ m
unfolding within distance
values_close m each_none [] [] t w u = pow_pos m
values_close m each_none (x ∷ xs) ys t w u = absurd t
values_close m each_none [] (y ∷ ys) t w u = absurd w
values_close m (each_more n e) [] ys t w u = absurd t
values_close m (each_more n e) (x ∷ xs) [] t w u = absurd w
values_close m (each_more {a = r} {l = rs} n e) (x ∷ xs) (y ∷ ys) t w zero =
    let d = distance_lt r x y ((within_cons r rs x xs).0 t).0 ((within_cons r rs y ys).0 w).0 in
    omega arith
values_close m (each_more {a = r} {l = rs} n e) (x ∷ xs) (y ∷ ys) t w (suc u) = values_close m e xs ys ((within_cons r rs x xs).0 t).1 ((within_cons r rs y ys).0 w).1 u

-- what holds of an open move holds of its rules
open_rules : {V# target : ℕ} {rules : List Rule} → MoveFits V# (Open target rules) → Each (RuleFits V#) rules
open_rules (open_fits l n r) = r

open_units : {target : ℕ} {rules : List Rule} → UnitMove (Open target rules) → Each (λ r. great r ≡ 0) rules
open_units (unit_open r) = r

-- a carry rule with factor 1 and offset 0 leaves its source's value, as no move does
carried_zero : (x : ℤ) → carried (pos 1) (pos 0) x ≡ x
unfolding followed updated_by applied
carried_zero x = followed_applied [] 0 (x ∷ [])

-- one more time c added
once_more : (j : ℕ) (x z z' c : ℤ) → up z + dn x + j * dn c ≡ dn z + up x + j * up c → z' ≡ carried (pos 1) c z
    → up z' + dn x + suc j * dn c ≡ dn z' + up x + suc j * up c
once_more j x z z' c h e =
    let u = ap up e in
    let d = ap dn e in
    omega (arith, add_parts (pos 1 *ℤ z) c, mul_up (pos 1) z, mul_dn (pos 1) z)

-- a number that was added 2,000,001 times within a million of zero is 0
added_nothing : (x z c : ℤ) → Within 1000000 x → Within 1000000 z → up z + dn x + 2000001 * dn c ≡ dn z + up x + 2000001 * up c → c ≡ pos 0
added_nothing x z c p q e = go c (within_size p) (within_size q) e
  where
    go : (c : ℤ) → up x + dn x ≤ 1000000 → up z + dn z ≤ 1000000 → up z + dn x + 2000001 * dn c ≡ dn z + up x + 2000001 * up c → c ≡ pos 0
    go (pos n) a b h = let k : n ≡ 0 = omega arith in ap {B = ℤ} pos k
    go (negsuc n) a b h = absurd (omega arith)

sign_below : (z : ℤ) → sign z < 2
unfolding sign
sign_below (pos n) = omega arith
sign_below (negsuc n) = omega arith

module _ (s : Sheet) (W : WellFormed s) where
  -- a covered configuration's values, counter by counter, are in the ranges of its region
  covered_within : (x : Configuration) → Covered s x → T (within (region_of s x).box.ranges x.values)
  covered_within x h = ((in_box_parts (region_of s x).box x).0 (covered_in s x h)).1

  covered_length : (x : Configuration) → Covered s x → length x.values ≡ s.counters
  covered_length x h = sym (within_length (region_of s x).box.ranges x.values (covered_within x h)) ∙ (region_fits s W x h).ranges_count

  value_fits : (x : Configuration) (v : ℕ) → Covered s x → v < s.counters → Within 1000000 (value_of x v)
  value_fits x v h l =
      let F = region_fits s W x h in
      let c = F.ranges_count in
      let R = each_at F.ranges_fit v empty (omega arith) in
      let (a, b) = (contains_le (get_or (region_of s x).box.ranges v empty) (value_of x v)).0 (within_at (region_of s x).box.ranges x.values v (covered_within x h) (omega arith)) in
      record { above = omega ints; below = omega ints }

  -- the rules along a run fit
  rules_fit : {moves : List (List Rule)} {x y x' y' : Configuration} → Beside s moves x y x' y' → Covered s x → Each (Each (RuleFits s.counters)) moves
  rules_fit beside_here h = each_none
  rules_fit (beside_there {x = x} a e o b) h =
      each_more (open_rules (subst (MoveFits s.counters) o (each_anywhere (region_fits s W x h).moves_fit barred_fits a)))
      (rules_fit b (beside_covered s W (beside_there {x = x} {y = x} a refl o beside_here) h))

  -- their factors, where no rule of a region has one other than 1 and -1
  rules_unit : ((i : ℕ) → i < length s.regions → Each UnitMove (region_at s i).moves)
      → {moves : List (List Rule)} {x y x' y' : Configuration} → Beside s moves x y x' y' → Covered s x → Each (Each (λ r. great r ≡ 0)) moves
  unfolding region_of
  rules_unit U beside_here h = each_none
  rules_unit U (beside_there {x = x} a e o b) h =
      each_more (open_units (subst UnitMove o (each_anywhere (U (region_number s x) h) unit_barred a)))
      (rules_unit U b (beside_covered s W (beside_there {x = x} {y = x} a refl o beside_here) h))

  -- the values along a run, where the ranges are narrow
  values_along : (m : ℕ) → ((i : ℕ) → i < length s.regions → Each (λ r. size r ≤ 2 ^ m) (region_at s i).box.ranges)
      → {moves : List (List Rule)} {x y x' y' : Configuration} → Beside s moves x y x' y' → Covered s x → Close m moves x.values y.values
  unfolding region_of landing
  values_along m N beside_here h = close_none
  values_along m N (beside_there {x = x} {y = y} a e o b) h =
      close_more
      (values_close m (N (region_number s x) h) x.values y.values (covered_within x h) ((in_box_parts (region_of s x).box y).0 ((region_box s W x y h).1 e)).1)
      (values_along m N b (beside_covered s W (beside_there {x = x} {y = x} a refl o beside_here) h))

  -- the value at the end of a run of a counter that is carried, and of one that is set
  run_carries : {moves : List (List Rule)} {x y x' y' : Configuration} {u : ℕ} {F β : ℤ} → Beside s moves x y x' y' → (v : ℕ) → followed moves v ≡ Carry u F β
      → value_of x' v ≡ carried F β (value_of x u)
  unfolding applied
  run_carries {moves} {x} b v e =
      ap (λ (l : List ℤ). get_or l v (pos 0)) (beside_values s b) ∙ sym (followed_applied moves v x.values) ∙ ap (λ (r : Rule). applied r x.values) e

  run_sets : {moves : List (List Rule)} {x y x' y' : Configuration} {o : ℤ} → Beside s moves x y x' y' → (v : ℕ) → followed moves v ≡ Set o → value_of x' v ≡ o
  unfolding applied
  run_sets {moves} {x} b v e =
      ap (λ (l : List ℤ). get_or l v (pos 0)) (beside_values s b) ∙ sym (followed_applied moves v x.values) ∙ ap (λ (r : Rule). applied r x.values) e

  -- Going round: the moves lead x to an equivalent x₁, and add c to counter u each time. So they do again and again.
  around : {moves : List (List Rule)} {x y x₁ y₁ : Configuration} → Beside s moves x y x₁ y₁ → Alike (region_system s) (region_system s) x x₁
      → (u : ℕ) (c : ℤ) → followed moves u ≡ Carry u (pos 1) c → (j : ℕ)
      → (z : Configuration) × Alike (region_system s) (region_system s) x z
      × (up (value_of z u) + dn (value_of x u) + j * dn c ≡ dn (value_of z u) + up (value_of x u) + j * up c)
  around {x} b r u c e zero = (x, λ w. refl, omega arith)
  around {moves} {x} {x₁} b r u c e (suc j) =
      let (z, k, h) = around b r u c e j in
      let (z', d, g) = beside_alike s b z k in
      (z', alike_trans (region_system s) (region_system s) (region_system s) x x₁ z' r g, once_more j (value_of x u) (value_of z u) (value_of z' u) c h (run_carries (beside_swap s d) u e))

  -- Since a range has ends, c is 0.
  around_none : {moves : List (List Rule)} {x y x₁ y₁ : Configuration} → Beside s moves x y x₁ y₁ → Alike (region_system s) (region_system s) x x₁ → Covered s x
      → (u : ℕ) (c : ℤ) → u < s.counters → followed moves u ≡ Carry u (pos 1) c → c ≡ pos 0
  unfolding region_system
  around_none {x} b r h u c l e =
      let (z, k, q) = around b r u c e 2000001 in
      let same = alike_label (region_system s) (region_system s) x z k in
      added_nothing (value_of x u) (value_of z u) c (value_fits x u h l) (value_fits z u (omega arith) l) q

  -- A run that ends in two regions: some counter v of y' is outside its range there, while that of x' and of whatever else is in the region of x' is inside.
  record Exit (x' y' : Configuration) : Type 0 where
    counter : ℕ
    below : counter < s.counters
    differs : (z : Configuration) → region_number s x' ≡ region_number s z → value_of z counter ≡ value_of y' counter → ⊥

  exit : (x' y' : Configuration) → Covered s x' → Covered s y' → x'.state ≡ y'.state → (region_number s x' ≡ region_number s y' → ⊥) → Exit x' y'
  exit x' y' h g e n =
      let c = (region_fits s W x' h).ranges_count in
      let d = covered_length y' g in
      let a = ((in_box_parts (region_of s x').box x').0 (covered_in s x' h)).0 in
      let (v, l, o) = outside (region_of s x').box.ranges y'.values (omega arith)
      (λ w. n ((region_box s W x' y' h).0 ((in_box_parts (region_of s x').box y').1 (a ∙ e, w)))) in
      record {
        counter = v;
        below = omega arith;
        differs =
            λ z q p.
            o (subst (λ (n : ℤ). T (contains (get_or (region_of s x').box.ranges v empty) n)) p
            (within_at (region_of s x').box.ranges z.values v ((in_box_parts (region_of s x').box z).0 ((region_box s W x' z h).1 q)).1 l));
      }

  -- A place on the way of counter v: x is there, and the moves are those from there on. The class of x, the counter that v's value comes from, with the factor
  -- and the offset, and the key: one number for class, source, the factor's sign, and how many factors other than 1 and -1 v meets from there on.
  record Place (n m : ℕ) (N : Few (sheet_system s) s.start n) (v : ℕ) (moves : List (List Rule)) (x : Configuration) (key : ℕ) : Type 0 where
    class : ℕ
    class_below : class < n
    classed : Alike (sheet_system s) (sheet_system s) (N.each class) x
    source : ℕ
    source_below : source < s.counters
    factor : ℤ
    offset : ℤ
    carries : followed moves v ≡ Carry source factor offset
    some_factor : factor ≡ pos 0 → ⊥
    great_below : greats moves v < suc m
    keyed : key ≡ ((class * s.counters + source) * 2 + sign factor) * suc m + greats moves v

  -- keys are below the bound
  key_below : {n m : ℕ} {N : Few (sheet_system s) s.start n} {v : ℕ} {moves : List (List Rule)} {x : Configuration} {key : ℕ} → Place n m N v moves x key
      → key < depth_bound s.counters n m
  unfolding depth_bound
  key_below {n} {m} {moves} P =
      subst (λ (k : ℕ). k < n * s.counters * 2 * suc m) (sym P.keyed)
      (paired_below (paired_below (paired_below P.class_below P.source_below) (sign_below P.factor)) P.great_below)

  -- and places with one key have all in common that it is made of
  record OneKey {n m : ℕ} {N : Few (sheet_system s) s.start n} {v : ℕ} {moves moves' : List (List Rule)} {x x' : Configuration} {key key' : ℕ}
      (P : Place n m N v moves x key) (Q : Place n m N v moves' x' key') : Type 0 where
    one_class : Alike (sheet_system s) (sheet_system s) x x'
    one_source : P.source ≡ Q.source
    one_sign : sign P.factor ≡ sign Q.factor
    one_greats : greats moves v ≡ greats moves' v

  one_key : {n m : ℕ} {N : Few (sheet_system s) s.start n} {v : ℕ} {moves moves' : List (List Rule)} {x x' : Configuration} {key key' : ℕ}
      (P : Place n m N v moves x key) (Q : Place n m N v moves' x' key') → key ≡ key' → OneKey P Q
  one_key {n} {m} {N} {v} {moves} {moves'} {x} {x'} P Q e =
      let (a, g) = paired_injective {k = suc m} ((P.class * s.counters + P.source) * 2 + sign P.factor) (greats moves v)
      ((Q.class * s.counters + Q.source) * 2 + sign Q.factor) (greats moves' v) P.great_below Q.great_below (sym P.keyed ∙ e ∙ Q.keyed) in
      let (b, f) = paired_injective {k = 2} (P.class * s.counters + P.source) (sign P.factor) (Q.class * s.counters + Q.source) (sign Q.factor)
      (sign_below P.factor) (sign_below Q.factor) a in
      let (c, u) = paired_injective {k = s.counters} P.class P.source Q.class Q.source P.source_below Q.source_below b in
      record {
        one_class = λ w. sym (P.classed w) ∙ ap (λ (i : ℕ). reading (sheet_system s) w (N.each i)) c ∙ Q.classed w;
        one_source = u;
        one_sign = f;
        one_greats = g;
      }

  -- The counter by which y leaves is not set on the way,
  exit_carries : {moves : List (List Rule)} {x y x' y' : Configuration} → Beside s moves x y x' y' → (E : Exit x' y')
      → (u : ℕ) × (F : ℤ) × (β : ℤ) × (followed moves E.counter ≡ Carry u F β)
  exit_carries {moves} {x'} b E = go (followed moves E.counter) refl
    where
      go : (r : Rule) → followed moves E.counter ≡ r → (u : ℕ) × (F : ℤ) × (β : ℤ) × (followed moves E.counter ≡ Carry u F β)
      go (Set o) e = absurd (E.differs x' refl (run_sets b E.counter e ∙ sym (run_sets (beside_swap s b) E.counter e)))
      go (Carry u F β) e = (u, F, β, e)

  -- and meets at most m factors other than 1 and -1.
  exit_greats : {m : ℕ} {moves : List (List Rule)} {x y x' y' : Configuration} {u : ℕ} {F β : ℤ} → Doublings s m → Beside s moves x y x' y' → Covered s x
      → (E : Exit x' y') → followed moves E.counter ≡ Carry u F β → greats moves E.counter ≤ m
  exit_greats (unit_factors U) b h E e = omega (arith, greats_units (rules_unit U b h) E.counter)
  exit_greats {m} {x' = x'} {F} {β} (narrow_ranges M) b h E e =
      greats_few E.counter (values_along m M b h) (rules_fit b h) e
      (λ q. E.differs x' refl (run_carries b E.counter e ∙ ap (carried F β) q ∙ sym (run_carries (beside_swap s b) E.counter e)))

  -- the run before a place
  front : {moves : List (List Rule)} {x y x' y' : Configuration} (b : Beside s moves x y x' y') (k : ℕ) (p : Part s b 0 k)
      → Beside s p.middle x y (left_at s b k) (right_at s b k)
  front b k p = subst₂ (λ (x y : Configuration). Beside s p.middle x y (left_at s b k) (right_at s b k)) (left_first s b) (right_first s b) p.runs

  -- so each place on the way has its key
  place : {n m : ℕ} (N : Few (sheet_system s) s.start n) {moves : List (List Rule)} {x y x' y' : Configuration} {u : ℕ} {F β : ℤ} (b : Beside s moves x y x' y') (v : ℕ)
      → Reached (sheet_system s) s.start x → v < s.counters → followed moves v ≡ Carry u F β → greats moves v ≤ m
      → (k : ℕ) → k ≤ length moves → (key : ℕ) × Place n m N v (drop k moves) (left_at s b k) key
  place {n} {m} N {moves} b v r l e g k h = go (followed (drop k moves) v) refl
    where
      p : Part s b 0 k
      p = part s b 0 k (omega arith) h

      reached : Reached (sheet_system s) s.start (left_at s b k)
      reached = beside_reached s (front b k p) r

      go : (q : Rule) → followed (drop k moves) v ≡ q → (key : ℕ) × Place n m N v (drop k moves) (left_at s b k) key
      go (Set o) c =
          let d = ap (λ (l : List (List Rule)). followed l v) p.after ∙ followed_set p.middle (drop k moves) v c in
          let z : ◌≡◌ {A = ℕ} 0 1 = cc in
          absurd (omega arith)
      go (Carry u F β) c =
          let (i, a, w) = N.named (left_at s b k) reached in
          let (t, f) = followed_fits v (rules_fit (rest s b k h) (reached_covered s W (left_at s b k) reached)) l c in
          let d = ap (λ (l : List (List Rule)). greats l v) p.after ∙ greats_split p.middle (drop k moves) v c in (
            ((i * s.counters + u) * 2 + sign F) * suc m + greats (drop k moves) v,
            record {
              class = i;
              class_below = a;
              classed = w;
              source = u;
              source_below = t;
              factor = F;
              offset = β;
              carries = c;
              some_factor = f;
              great_below = omega arith;
              keyed = refl;
            },
          )

  -- moves that lead the class of x into itself and add a number to a counter leave that counter of whatever runs beside x
  around_keeps : {moves : List (List Rule)} {x y x₁ y₁ : Configuration} → Beside s moves x y x₁ y₁ → Alike (region_system s) (region_system s) x x₁ → Covered s x
      → (u : ℕ) (c : ℤ) → u < s.counters → followed moves u ≡ Carry u (pos 1) c → value_of y₁ u ≡ value_of y u
  around_keeps {y} b r h u c l e =
      run_carries (beside_swap s b) u (e ∙ ap (λ (z : ℤ). Carry u (pos 1) z) (around_none b r h u c l e)) ∙ carried_zero (value_of y u)

  -- moves after which counter v of y₁ is outside its range take it there from y too, if y and y₁ have one value in the counter that it comes from
  leaves : {moves : List (List Rule)} {x y x₁ y₁ x' y' x'' y'' : Configuration} {u : ℕ} {F β : ℤ} (E : Exit x' y') → followed moves E.counter ≡ Carry u F β
      → Beside s moves x₁ y₁ x' y' → value_of y₁ u ≡ value_of y u → Beside s moves x y x'' y'' → region_number s x' ≡ region_number s y'' → ⊥
  leaves {y''} {F} {β} E e b q c h =
      E.differs y'' h (run_carries (beside_swap s c) E.counter e ∙ ap (carried F β) (sym q) ∙ sym (run_carries (beside_swap s b) E.counter e))

  -- and x, equivalent to x₁, runs along them through the regions of x₁'s run: so they tell y from x.
  leaves_too : {moves : List (List Rule)} {x₁ y₁ x' y' : Configuration} {u : ℕ} {F β : ℤ} (x y : Configuration) (E : Exit x' y')
      → followed moves E.counter ≡ Carry u F β → Beside s moves x₁ y₁ x' y' → value_of y₁ u ≡ value_of y u → Alike (region_system s) (region_system s) x₁ x
      → Untold s (length moves) x y → ⊥
  unfolding region_system
  leaves_too {moves} {x₁} {x'} x y E e b q r untold =
      let (x'', c, g) = beside_alike s b x r in
      let (y'', d) = beside_untold s c y untold in
      leaves E e b q d (alike_label (region_system s) (region_system s) x' x'' g ∙ untold moves x'' y'' d (le_refl (length moves)))

  -- Two places with one key: without the moves between them the run of y leaves as well, in no more than L moves.
  shorter : {n m L : ℕ} (N : Few (sheet_system s) s.start n) {moves : List (List Rule)} {x y x' y' : Configuration} (b : Beside s moves x y x' y') (E : Exit x' y')
      → Reached (sheet_system s) s.start x → Untold s L x y → length moves ≡ suc L → (k l : ℕ) → k < l → l ≤ length moves → {key key' : ℕ}
      → (P : Place n m N E.counter (drop k moves) (left_at s b k) key) (Q : Place n m N E.counter (drop l moves) (left_at s b l) key') → OneKey P Q → ⊥
  shorter {L} N {moves} b E r untold e k l lt le P Q O =
      leaves_too (left_at s b k) (right_at s b k) E Q.carries (rest s b l le)
      (around_keeps between.runs alike covered Q.source adds.0 Q.source_below adds.1)
      (alike_sym (region_system s) (region_system s) (left_at s b k) (left_at s b l) alike)
      (untold_after s (length (drop l moves)) L (front b k before) (let long = before.long in omega (arith, length-drop l moves)) untold)
    where
      v : ℕ
      v = E.counter

      before : Part s b 0 k
      before = part s b 0 k (omega arith) (omega arith)

      between : Part s b k l
      between = part s b k l (omega arith) le

      covered : Covered s (left_at s b k)
      covered = reached_covered s W (left_at s b k) (beside_reached s (front b k before) r)

      alike : Alike (region_system s) (region_system s) (left_at s b k) (left_at s b l)
      alike = (traces_alike s W (left_at s b k) (left_at s b l) covered (beside_covered s W between.runs covered)).1 O.one_class

      adds : (c : ℤ) × (followed between.middle Q.source ≡ Carry Q.source (pos 1) c)
      adds =
          loop_one between.middle (drop l moves) v Q.carries Q.some_factor
          (ap (λ (m : List (List Rule)). followed m v) (sym between.after) ∙ P.carries ∙ ap (λ (u : ℕ). Carry u P.factor P.offset) O.one_source)
          (ap (λ (m : List (List Rule)). greats m v) (sym between.after) ∙ O.one_greats) (sym O.one_sign)

  -- There are more places than keys, so no run of one move more than L, the bound or above it, ends in two regions where none of at most L does.
  no_exit : {n m L : ℕ} (N : Few (sheet_system s) s.start n) → Doublings s m → depth_bound s.counters n m ≤ L
      → {moves : List (List Rule)} {x y x' y' : Configuration} → Reached (sheet_system s) s.start x → Untold s L x y
      → Beside s moves x y x' y' → length moves ≡ suc L → Exit x' y' → ⊥
  no_exit {n} {m} {L} N G D {moves} {x} r untold b e E =
      let (u, F, β, c) = exit_carries b E in
      let g = exit_greats G b (reached_covered s W x r) E c in
      let (key, P) = choose At (suc L) (λ k h. place N b E.counter r E.below c g k (omega arith)) in
      go key P
    where
      At : ℕ → ℕ → Type 0
      At k key = Place n m N E.counter (drop k moves) (left_at s b k) key

      go : (key : ℕ → ℕ) → ((k : ℕ) → k < suc L → At k (key k)) → ⊥
      go key P =
          let (k, l, lt, le, same) = repeated (suc L) (depth_bound s.counters n m) key (λ k h. key_below (P k h)) (omega arith) in
          twice k l lt le same (P k (omega arith)) (P l le)
        where
          twice : (k l : ℕ) → k < l → l < suc L → key k ≡ key l → At k (key k) → At l (key l) → ⊥
          twice k l lt le same p q = shorter N b E r untold e k l lt (omega arith) p q (one_key p q same)

  -- in one region there is one state
  one_state : (x y : Configuration) → Covered s x → region_number s x ≡ region_number s y → x.state ≡ y.state
  one_state x y h e =
      sym ((in_box_parts (region_of s x).box x).0 (covered_in s x h)).0 ∙ ((in_box_parts (region_of s x).box y).0 ((region_box s W x y h).1 e)).0

  -- So what no run of at most L moves tells apart, L the bound or above it, no run of one move more does,
  untold_next : {n m : ℕ} (L : ℕ) → Few (sheet_system s) s.start n → Doublings s m → depth_bound s.counters n m ≤ L → (x y : Configuration)
      → Reached (sheet_system s) s.start x → Covered s y → Untold s L x y → Untold s (suc L) x y
  untold_next L N G D x y r h u moves x' y' b l = go (dec_le (length moves) L) (ℕ_discrete (region_number s x') (region_number s y'))
    where
      covered : Covered s x
      covered = reached_covered s W x r

      go : Dec (length moves ≤ L) → Dec (region_number s x' ≡ region_number s y') → region_number s x' ≡ region_number s y'
      go d (yes q) = q
      go (yes d) (no q) = u moves x' y' b d
      go (no d) (no q) =
          absurd (no_exit N G D r u b (omega arith)
          (exit x' y' (beside_covered s W b covered) (beside_covered s W (beside_swap s b) h)
          (beside_state s b (one_state x y covered (u [] x y beside_here (omega arith)))) q))

  -- and no run at all.
  untold_ever : {n m : ℕ} (K : ℕ) → Few (sheet_system s) s.start n → Doublings s m → (x y : Configuration) → Reached (sheet_system s) s.start x → Covered s y
      → Untold s (depth_bound s.counters n m) x y → Untold s (K + depth_bound s.counters n m) x y
  untold_ever zero N G x y r h u moves x' y' b l = u moves x' y' b (omega arith)
  untold_ever {n} {m} (suc K) N G x y r h u moves x' y' b l =
      untold_next (K + depth_bound s.counters n m) N G (omega arith) x y r h (untold_ever K N G x y r h u) moves x' y' b (omega arith)

-- The theorem: in a well-formed sheet with at most n reached classes and m doublings, what reads as a reached configuration does on every sequence of at most
-- depth_bound actions is equivalent to it.
pub depth_exact : (s : Sheet) → WellFormed s → (n m : ℕ) → Few (sheet_system s) s.start n → Doublings s m
    → (x y : Configuration) → Reached (sheet_system s) s.start x → Covered s y
    → AlikeTo (depth_bound s.counters n m) (sheet_system s) (sheet_system s) x y → Alike (sheet_system s) (sheet_system s) x y
depth_exact s W n m N G x y r h a = (alike_depths (sheet_system s) (sheet_system s) x y).1 (λ k. (traces_readings s W k x y covered h).0 (at k))
  where
    D : ℕ
    D = depth_bound s.counters n m

    covered : Covered s x
    covered = reached_covered s W x r

    untold : Untold s D x y
    untold = alike_untold s D x y ((traces_readings s W D x y covered h).1 a)

    at : (k : ℕ) → AlikeTo k (region_system s) (region_system s) x y
    at k = untold_alike s k x y (λ moves x' y' b l. untold_ever s W k N G x y r h untold moves x' y' b (omega arith))

-- So a reached configuration's class box of the bound's depth, or a greater one, holds what is covered and equivalent to it,
pub depth_members : (s : Sheet) → WellFormed s → (n m k : ℕ) → Few (sheet_system s) s.start n → Doublings s m → depth_bound s.counters n m ≤ k
    → (x y : Configuration) → Reached (sheet_system s) s.start x → T (in_box (class_box s k x) y) ↔ (Covered s y × Alike (sheet_system s) (sheet_system s) x y)
depth_members s W n m k N G D x y r =
    let c = class_depth s W k x y (reached_covered s W x r) in (
      λ t. let (h, f) = c.0 t in (h, depth_exact s W n m N G x y r h (alike_to_le (sheet_system s) (sheet_system s) x y D f)),
      λ (h, f). c.1 (h, λ w l. f w),
    )

-- and is its class.
pub depth_class : (s : Sheet) → WellFormed s → (n m k : ℕ) → Few (sheet_system s) s.start n → Doublings s m → depth_bound s.counters n m ≤ k
    → (x : Configuration) → Reached (sheet_system s) s.start x → class_box s k x ≡ class_of s x
depth_class s W n m k N G D x r =
    let h = reached_covered s W x r in
    box_ext (class_box s k x) (class_of s x) x (class_holds s W k x h) (λ y.
    let a = depth_members s W n m k N G D x y r in
    let b = class_members s W x y h in
    (λ t. b.1 (a.0 t), λ t. a.1 (b.0 t)))
