-- Bytes that pass the check decode to a well-formed sheet, so the theorems of the model apply to them; bytes that are refused 5 to 8 decode to one that is not.
use Rattle.std.proofs.Math.Path.{◌≡◌, sym, ap, subst}
use Rattle.std.specs.Prelude.{refl, ◌↔◌, Bool, true, false, not, ℕ, zero, suc, ◌+◌, ◌≤◌, ◌<◌, leb, ltb, drop, Option, Some, None, Ok, Err}
use Rattle.std.proofs.Common.{◌∙◌, lit<, leb→le}
use Rattle.std.proofs.Math.Logic.{⊎_elim}
use mathlib.Core.List.Memᴰ
use mathlib.Core.List.{List, [], ◌∷◌, Memᴰ}
use native.Mathlib.Omega.{arith}
use Rattle.std.proofs.Math.Dec.{T, eqb, eqb→eq, eqb_refl}
use Rattle.std.proofs.Math.ListN.{length, get_or, get_or-eq_default}
use borrow.Author.Tests.{ltb-true, ltb-false}
use Rattle.integers.specs.LittleEndian.{Bytes}
use Rattle.systems.specs.Search.{any, run}
use Rattle.systems.proofs.Laws.{told, true_is, both, any_true}
use Rattle.systems.proofs.Lists.{length_each, get_d_each}
use Rattle.answer_rules.specs.declared.Reason.TheVariants.{Header, Count, Length, Field, Label, Overlap, Start, Landing}
use Rattle.answer_rules.specs.declared.Reason.{Reason}
use Rattle.answer_rules.specs.declared.Refusal.{Refusal}
use Rattle.answer_rules.specs.Refusal.{Checked, number_of, at}
use Rattle.answer_rules.specs.Stages.{and_then, demand, each}
use Rattle.answer_rules.proofs.Stages.{then_fine, demand_fine, each_fine, each_all}
use Rattle.model.specs.Sheet as Model
use Rattle.model.specs.Sheet.{Configuration, Box, Move, Barred, Region, RegionFits, Covered, WellFormed, in_box, step, moved, region_of, region_number, nowhere}
use Rattle.model.specs.Listing.{members}
use Rattle.model.proofs.Finite.{members_mem}
use Rattle.model.proofs.Classes.{covered_in, in_covered, number_is}
use Rattle.sheet_rules.specs.Layout.{offset_limit, counters_of, actions_of, regions_of, start_place, region_place, label_at, state_at, low_place, high_place, move_place, move_part, rule_place, kind_of}
use Rattle.sheet_rules.specs.Decode.{listed, range_at, box_at, move_at, region_at, start_of, decode}
use Rattle.sheet_rules.specs.Shape.{Shaped}
use Rattle.sheet_rules.proofs.Shape.{length_le}
use Rattle.sheet_rules.proofs.Listed.{each_listed}
use Rattle.sheet_rules.specs.Form.{from_to, check_header, check_counts, check_length, check_value, check_bound, check_rule, check_zero_rule, check_move, check_fields, check_limits}
use Rattle.sheet_rules.proofs.Fits.{label_fits, moves_fit, range_fits, limits_fields}
use Rattle.sheet_rules.specs.Check.{check_label, check_overlap, covered, check_start, every, lands, check_landing, overlap, sheet_check}
use Rattle.sheet_rules.proofs.Overlap.{overlap_out, regions_apart}
use Rattle.sheet_rules.specs.Accepted.{Stages}

pub demanded : (t : Bool) (why : Refusal) → demand t why ≡ Ok tt → T t
demanded t why e = true_is t (demand_fine t why e)

pub between : (m n x : ℕ) → T (from_to m n x) → (m ≤ x) × (x ≤ n)
between m n x t = let (a, b) = (both (leb m x) (leb x n)).0 t in (leb→le m x a, leb→le x n b)

-- checks 2 and 3 passed
pub shaped : (s : List ℕ) → check_counts s ≡ Ok tt → check_length s ≡ Ok tt → Shaped s
unfolding check_counts check_length
shaped s e l =
    let (a, r) = then_fine (demand (from_to 1 3 (counters_of s)) (at Count 5)) _ e in
    let (b, c) = then_fine (demand (from_to 1 8 (actions_of s)) (at Count 6)) (demand (from_to 1 32 (regions_of s)) (at Count 7)) r in
    let (v, v') = between 1 3 (counters_of s) (demanded _ (at Count 5) a) in
    let (w, w') = between 1 8 (actions_of s) (demanded _ (at Count 6) b) in
    let (u, u') = between 1 32 (regions_of s) (demanded _ (at Count 7) c) in
    record {
      counters_some = v;
      counters_few = v';
      actions_some = w;
      actions_few = w';
      regions_some = u;
      regions_few = u';
      length_right = eqb→eq (length s) (region_place s (regions_of s)) (demanded _ (at Length (length s)) l);
    }

pub stages : (s : List ℕ) → sheet_check s ≡ Ok tt → Stages s
unfolding sheet_check
stages s e =
    let (a, r₁) = then_fine (check_header s) _ e in
    let (b, r₂) = then_fine (check_counts s) _ r₁ in
    let (c, r₃) = then_fine (check_length s) _ r₂ in
    let (d, r₄) = then_fine (check_limits s) _ r₃ in
    let (f, r₅) = then_fine (each (check_label s) (regions_of s)) _ r₄ in
    let (g, r₆) = then_fine (each (check_overlap s) (regions_of s)) _ r₅ in
    let (h, k) = then_fine (check_start s) _ r₆ in
    record { shape = shaped s b c; fields = limits_fields s d; labels = f; apart = g; start = h; landing = k }

-- No longer sheet is accepted: a reader of sheets may stop one byte past that length.
pub accepted_length : (s : List ℕ) → sheet_check s ≡ Ok tt → length s ≤ 6773
accepted_length s e = length_le s (stages s e).shape

-- the decoded regions, by index
module _ (s : List ℕ) where
  pub regions_count : length (decode s).regions ≡ regions_of s
  unfolding decode
  regions_count = length_each (region_at s) (regions_of s)

  pub region_is : (i : ℕ) → i < regions_of s → Model.region_at (decode s) i ≡ region_at s i
  unfolding decode
  region_is i h = get_d_each (region_at s) (regions_of s) nowhere i h

  pub box_is : (i : ℕ) → i < regions_of s → (Model.region_at (decode s) i).box ≡ box_at s i
  unfolding region_at
  box_is i h = ap (λ (r : Region). r.box) (region_is i h)

  -- a configuration is covered just when some region's box has it
  pub covered_is : (x : Configuration) → T (covered s x) ↔ Covered (decode s) x
  covered_is x = (to, from)
    where
      to : T (covered s x) → Covered (decode s) x
      to t =
          let (i, h, m) = (any_true (λ i. in_box (box_at s i) x) (regions_of s)).0 t in
          let n = regions_count in
          in_covered (decode s) i x (omega arith) (subst (λ (b : Box). T (in_box b x)) (sym (box_is i h)) m)

      from : Covered (decode s) x → T (covered s x)
      from c =
          let n = regions_count in
          let i = region_number (decode s) x in
          let h : i < regions_of s = omega arith in
          (any_true (λ i. in_box (box_at s i) x) (regions_of s)).1 (i, h, subst (λ (b : Box). T (in_box b x)) (box_is i h) (in_own c))
        where
          in_own : Covered (decode s) x → T (in_box (Model.region_at (decode s) (region_number (decode s) x)).box x)
          in_own d = unfold region_of in covered_in (decode s) x d

-- an element of a list passes a test that every element passes, and the other way round
every_at : {A : Type 0} (p : A → Bool) (l : List A) (x : A) → T (every p l) → Memᴰ x l → T (p x)
unfolding every
every_at p [] x t m = absurd (Memᴰ.not-nil m)
every_at {A} p (y ∷ l) x t m =
    let (a, b) = (both (p y) (every p l)).0 t in
    ⊎_elim (λ e. subst (λ (z : A). T (p z)) (sym e) a) (λ k. every_at p l x b k) (Memᴰ.cases_cons m)

every_all : {A : Type 0} (p : A → Bool) (l : List A) → ((x : A) → Memᴰ x l → T (p x)) → T (every p l)
unfolding every
every_all p [] h = tt
every_all p (y ∷ l) h = (both (p y) (every p l)).1 (h y (Memᴰ.head refl), every_all p l (λ x m. h x (Memᴰ.tail m)))

-- what an action does in region i, and past the sheet's actions
module _ (s : List ℕ) (x : Configuration) where
  pub step_is : (i a : ℕ) → i < regions_of s → a < actions_of s → region_number (decode s) x ≡ i → step (decode s) a x ≡ moved (move_at s i a) x
  unfolding step region_of region_at
  step_is i a h k e =
      let r : Model.region_at (decode s) (region_number (decode s) x) ≡ region_at s i = ap (Model.region_at (decode s)) e ∙ region_is s i h in
      ap (λ (r : Region). moved (get_or r.moves a Barred) x) r ∙ ap (λ (m : Move). moved m x) (own i a k)
    where
      own : (i a : ℕ) → a < actions_of s → get_or (region_at s i).moves a Barred ≡ move_at s i a
      own i a k = get_d_each (move_at s i) (actions_of s) Barred a k

  pub step_past : (i a : ℕ) → i < regions_of s → actions_of s ≤ a → region_number (decode s) x ≡ i → step (decode s) a x ≡ None
  unfolding step region_of region_at moved
  step_past i a h k e =
      let r : Model.region_at (decode s) (region_number (decode s) x) ≡ region_at s i = ap (Model.region_at (decode s)) e ∙ region_is s i h in
      let l = length_each (move_at s i) (actions_of s) in
      ap (λ (r : Region). moved (get_or r.moves a Barred) x) r ∙ ap (λ (m : Move). moved m x) (get_or-eq_default (listed (move_at s i) (actions_of s)) Barred (omega arith))

-- a test that nothing earlier passes
none_earlier : (p : ℕ → Bool) (j : ℕ) → T (not (any p j)) ↔ ((i : ℕ) → i < j → T (p i) → ⊥)
none_earlier p j = (λ t i h k. clash (any p j) t ((any_true p j).1 (i, h, k)), λ f. fresh (any p j) refl f)
  where
    clash : (b : Bool) → T (not b) → T b → ⊥
    clash true t u = t
    clash false t u = u

    fresh : (b : Bool) → any p j ≡ b → ((i : ℕ) → i < j → T (p i) → ⊥) → T (not b)
    fresh true e f = let (i, h, k) = (any_true p j).0 (true_is (any p j) e) in f i h k
    fresh false e f = tt

-- Accepted bytes are a well-formed sheet.
module _ (s : List ℕ) (B : Bytes s) (e : sheet_check s ≡ Ok tt) where
  S : Stages s
  S = stages s e

  region_fits : (i : ℕ) → i < regions_of s → RegionFits (counters_of s) (actions_of s) (region_at s i)
  unfolding region_at box_at state_at
  region_fits i h =
      record {
        label_fits = label_fits s B S.fields i h;
        state_fits = B (region_place s i + 2);
        ranges_count = length_each (range_at s i) (counters_of s);
        ranges_fit = each_listed (range_at s i) (counters_of s) (λ v k. range_fits s B S.fields i v h k);
        moves_count = length_each (move_at s i) (actions_of s);
        moves_fit = each_listed (move_at s i) (actions_of s) (λ a k. moves_fit s B S.fields i a h k);
      }

  labels_differ : (i j : ℕ) → i < j → j < regions_of s → label_at s i ≡ label_at s j → ⊥
  unfolding check_label
  labels_differ i j h k q =
      (none_earlier (λ i. eqb (label_at s i) (label_at s j)) j).0 (demanded _ (at Label (region_place s j)) (each_fine (check_label s) (regions_of s) S.labels j k)) i h
      (subst (λ (l : ℕ). T (eqb (label_at s i) l)) q (eqb_refl (label_at s i)))

  label_is : (i : ℕ) → i < regions_of s → (Model.region_at (decode s) i).label ≡ label_at s i
  unfolding region_at
  label_is i h = ap (λ (r : Region). r.label) (region_is s i h)

  start_in : Covered (decode s) (start_of s)
  unfolding check_start
  start_in = (covered_is s (start_of s)).0 (demanded (covered s (start_of s)) (at Start 8) S.start)

  -- an open move of region i takes what is in its box into some region
  move_lands : (i a : ℕ) (x y : Configuration) → i < regions_of s → a < actions_of s → T (in_box (box_at s i) x) → moved (move_at s i a) x ≡ Some y → Covered (decode s) y
  unfolding check_landing lands
  move_lands i a x y h k t m =
      let f = each_fine (check_landing s i) (actions_of s) (each_fine (λ i. each (check_landing s i) (actions_of s)) (regions_of s) S.landing i h) a k in
      let g = every_at (λ x. lands s (moved (move_at s i a) x)) (members (box_at s i)) x (demanded _ (at Landing (move_place s i a)) f) ((members_mem (box_at s i) x).1 t) in
      (covered_is s y).0 (subst (λ (o : Option Configuration). T (lands s o)) m g)

  all_land : (x y : Configuration) (a : ℕ) → Covered (decode s) x → step (decode s) a x ≡ Some y → Covered (decode s) y
  unfolding region_of
  all_land x y a c m =
      let n = regions_count s in
      let i = region_number (decode s) x in
      let h : i < regions_of s = omega arith in
      let t = subst (λ (b : Box). T (in_box b x)) (box_is s i h) (covered_in (decode s) x c) in
      ⊎_elim
      (λ q. let k = ltb-true a (actions_of s) q in move_lands i a x y h k t (sym (step_is s x i a h k refl) ∙ m))
      (λ q. none_some (sym (step_past s x i a h (ltb-false a (actions_of s) q) refl) ∙ m))
      (told (ltb a (actions_of s)))
    where
      none_some : None ≡ Some y → Covered (decode s) y
      none_some q = let z : ◌≡◌ {A = ℕ} 0 1 = cc in absurd (omega arith)

  pub accepted : WellFormed (decode s)
  unfolding decode
  accepted =
      let n = regions_count s in
      record {
        counters_some = S.shape.counters_some;
        counters_few = S.shape.counters_few;
        actions_some = S.shape.actions_some;
        actions_few = S.shape.actions_few;
        regions_few = omega (arith, S.shape.regions_few);
        regions_fit = each_listed (region_at s) (regions_of s) region_fits;
        labels_distinct = λ i j h k q.
            let l : j < regions_of s = omega arith in
            labels_differ i j h l (sym (label_is i (omega arith)) ∙ q ∙ label_is j l);
        regions_disjoint = λ i j x h k p q.
            let l : j < regions_of s = omega arith in
            regions_apart s S.apart i j x h l
            (subst (λ (b : Box). T (in_box b x)) (box_is s i (omega arith)) p)
            (subst (λ (b : Box). T (in_box b x)) (box_is s j l) q);
        start_covered = start_in;
        moves_land = all_land;
      }

-- A well-formed sheet passes 5 to 8.
passed_by : (t : Bool) (why : Refusal) → T t → demand t why ≡ Ok tt
unfolding demand
passed_by true why h = refl
passed_by false why h = absurd h

module _ (s : List ℕ) (W : WellFormed (decode s)) where
  labels_pass : each (check_label s) (regions_of s) ≡ Ok tt
  unfolding check_label region_at
  labels_pass =
      let n = regions_count s in
      each_all (check_label s) (regions_of s) (λ j h.
      passed_by _ (at Label (region_place s j)) ((none_earlier (λ i. eqb (label_at s i) (label_at s j)) j).1 (λ i k t.
      let a = ap (λ (r : Region). r.label) (region_is s i (omega arith)) in
      let b = ap (λ (r : Region). r.label) (region_is s j h) in
      W.labels_distinct i j k (omega arith) (a ∙ eqb→eq (label_at s i) (label_at s j) t ∙ sym b))))

  overlap_pass : each (check_overlap s) (regions_of s) ≡ Ok tt
  unfolding check_overlap
  overlap_pass =
      let n = regions_count s in
      each_all (check_overlap s) (regions_of s) (λ j h.
      passed_by _ (at Overlap (region_place s j)) ((none_earlier (λ i. overlap s i j) j).1 (λ i k t.
      let (x, p, q) = overlap_out s i j t in
      W.regions_disjoint i j x k (omega arith)
      (subst (λ (b : Box). T (in_box b x)) (sym (box_is s i (omega arith))) p)
      (subst (λ (b : Box). T (in_box b x)) (sym (box_is s j h)) q))))

  start_pass : check_start s ≡ Ok tt
  unfolding check_start decode
  start_pass = passed_by (covered s (start_of s)) (at Start 8) ((covered_is s (start_of s)).1 W.start_covered)

  landing_pass : each (λ i. each (check_landing s i) (actions_of s)) (regions_of s) ≡ Ok tt
  unfolding check_landing
  landing_pass =
      each_all (λ i. each (check_landing s i) (actions_of s)) (regions_of s) (λ i h.
      each_all (check_landing s i) (actions_of s) (λ a k.
      passed_by _ (at Landing (move_place s i a)) (every_all (λ x. lands s (moved (move_at s i a) x)) (members (box_at s i)) (λ x m. lands_from i a x h k ((members_mem (box_at s i) x).0 m)))))
    where
      lands_from : (i a : ℕ) (x : Configuration) → i < regions_of s → a < actions_of s → T (in_box (box_at s i) x) → T (lands s (moved (move_at s i a) x))
      lands_from i a x h k t =
          let n = regions_count s in
          let b = subst (λ (b : Box). T (in_box b x)) (sym (box_is s i h)) t in
          let l : i < length (decode s).regions = omega arith in
          let c = in_covered (decode s) i x l b in
          go (moved (move_at s i a) x) (step_is s x i a h k (number_is (decode s) W i x l b)) c
        where
          go : (o : Option Configuration) → step (decode s) a x ≡ o → Covered (decode s) x → T (lands s o)
          go None q c = none_lands
            where
              none_lands : T (lands s None)
              none_lands = unfold lands in tt
          go (Some y) q c = unfold lands in (covered_is s y).1 (W.moves_land x y a c q)

-- every refusal of a check has a number below 5
abbrev Early : Checked → Type 0
Early c = (why : Refusal) → c ≡ Err why → number_of why.reason < 5

early_demand : (t : Bool) (r : Reason) (q : ℕ) → number_of r < 5 → Early (demand t (at r q))
unfolding demand
early_demand true r q h why e = absurd cc
early_demand false r q h why e = let z : at r q ≡ why = cc in subst (λ (w : Refusal). number_of w.reason < 5) z h

early_fine : (c : Checked) → c ≡ Ok tt → Early c
early_fine (Ok _) f why e = absurd cc
early_fine (Err w) f why e = absurd cc

early_then : (a b : Checked) → Early a → Early b → Early (and_then a b)
unfolding and_then
early_then (Ok _) b h k = k
early_then (Err why) b h k = h

early_each : (f : ℕ → Checked) (n : ℕ) → ((i : ℕ) → Early (f i)) → Early (each f n)
unfolding run
early_each f zero h = early_fine (Ok tt) refl
early_each f (suc n) h = early_then (each f n) (f n) (early_each f n h) (h n)

early_rule : (V# most : ℕ) (p : List ℕ) (place : ℕ) → Early (check_rule V# most p place)
unfolding check_rule
early_rule V# most p place =
    early_then _ _ (early_demand _ Field place (lit< tt))
    (early_then _ _ (early_demand _ Field (place + 1) (lit< tt)) (early_then _ _ (early_demand _ Field (place + 2) (lit< tt)) (early_demand _ Field (place + 3) (lit< tt))))

early_zero : (p : List ℕ) (place : ℕ) → Early (check_zero_rule p place)
unfolding check_zero_rule
early_zero p place =
    early_then _ _ (early_demand _ Field place (lit< tt))
    (early_then _ _ (early_demand _ Field (place + 1) (lit< tt)) (early_then _ _ (early_demand _ Field (place + 2) (lit< tt)) (early_demand _ Field (place + 3) (lit< tt))))

early_move : (V# most : ℕ) (p : List ℕ) (place : ℕ) → Early (check_move V# most p place)
unfolding check_move
early_move V# most p place = early_then _ _ (early_demand _ Field place (lit< tt)) (go (eqb (kind_of p) 0))
  where
    go : (k : Bool) → Early (elim k [
      | true ↦ and_then (demand (eqb (get_or p 1 0) 0) (at Field (place + 1))) (each (λ v. check_zero_rule (drop (rule_place v) p) (place + rule_place v)) V#)
      | false ↦ each (λ v. check_rule V# most (drop (rule_place v) p) (place + rule_place v)) V#
    ])
    go true = early_then _ _ (early_demand _ Field (place + 1) (lit< tt)) (early_each _ V# (λ v. early_zero (drop (rule_place v) p) (place + rule_place v)))
    go false = early_each _ V# (λ v. early_rule V# most (drop (rule_place v) p) (place + rule_place v))

early_bound : (s : List ℕ) (i v : ℕ) → Early (check_bound s i v)
unfolding check_bound
early_bound s i v =
    early_then _ _ (early_demand _ Field (low_place s i v) (lit< tt))
    (early_then _ _ (early_demand _ Field (high_place s i v) (lit< tt)) (early_demand _ Field (high_place s i v) (lit< tt)))

early_fields : (s : List ℕ) (i : ℕ) → Early (check_fields s i)
unfolding check_fields
early_fields s i =
    early_then _ _ (early_demand _ Field (region_place s i) (lit< tt))
    (early_then _ _ (early_each _ (counters_of s) (early_bound s i))
    (early_each _ (actions_of s) (λ a. early_move (counters_of s) (offset_limit s) (move_part s i a) (move_place s i a))))

early_limits : (s : List ℕ) → Early (check_limits s)
unfolding check_limits check_value
early_limits s =
    early_then _ _ (early_each _ (counters_of s) (λ v. early_demand _ Field (start_place s v) (lit< tt))) (early_each (check_fields s) (regions_of s) (early_fields s))

-- Bytes that are refused 5 to 8 are no well-formed sheet.
pub refused_late : (s : List ℕ) (why : Refusal) → sheet_check s ≡ Err why → 5 ≤ number_of why.reason → WellFormed (decode s) → ⊥
unfolding sheet_check check_header check_counts check_length
refused_late s why e h W =
    let early =
    early_then (check_header s) _ (early_demand _ Header 0 (lit< tt))
    (early_then (check_counts s) _
    (early_then _ _ (early_demand _ Count 5 (lit< tt)) (early_then _ _ (early_demand _ Count 6 (lit< tt)) (early_demand _ Count 7 (lit< tt))))
    (early_then (check_length s) _ (early_demand _ Length (length s) (lit< tt))
    (early_then (check_limits s) _ (early_limits s)
    (early_then _ _ (early_fine _ (labels_pass s W))
    (early_then _ _ (early_fine _ (overlap_pass s W)) (early_then _ _ (early_fine _ (start_pass s W)) (early_fine _ (landing_pass s W)))))))) in
    omega (arith, early why e)
