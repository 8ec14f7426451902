-- The walk of an action sequence on an accepted sheet: the code's configuration, its region, and the entries written.
use Rattle.std.specs.Prelude.{◌≡◌, refl, Bool, true, false, not, unwrap_or, is_some, IfSome, ◌&&◌, ℕ, zero, suc, ◌+◌, ◌≤◌, ◌<◌, length, get_or, set, ℤ, Some, None, Ok, Option}
use Rattle.std.proofs.Math.Path.{sym, ap, subst}
use Rattle.std.proofs.Common.{◌∙◌, arith}
use mathlib.Core.List.{List}
use Rattle.std.proofs.Math.Dec.{T}
use Rattle.std.proofs.Math.IntN.{pos}
use Rattle.integers.proofs.Order.{ints}
use Rattle.integers.specs.LittleEndian.{Bytes}
use Rattle.integers.specs.declared.Range.{Range}
use Rattle.integers.specs.Range.{contains, Within, RangeWithin}
use Rattle.integers.proofs.RangeLaws.{contains_le, within_zero}
use Rattle.systems.proofs.Laws.{both}
use Rattle.answer_rules.proofs.Stages.{then_fine}
use Rattle.answer_rules.specs.Run.{run_checks, noted_at, ran_by, left_by}
use Rattle.answer_rules.specs.Sequence.{Runs}
use Rattle.answer_rules.proofs.Sequence.{sequence_passed}
use Rattle.answer_rules.specs.Walk as AnyWalk
use Rattle.answer_rules.proofs.Walk as WalkLaws
use Rattle.model.specs.declared.Rule.{Rule}
use Rattle.model.specs.Sheet as Model
use Rattle.model.specs.Sheet.{Configuration, Box, Region, Covered, WellFormed, within, in_box, applied, moved, step, region_of, region_number, sheet_system, sheet_reading, RuleFits, Each, MoveFits, open_fits}
use Rattle.model.proofs.Boxes.{in_box_parts}
use Rattle.model.proofs.Classes.{covered_in}
use Rattle.sheet_bytes.specs.declared.Ranges.{Ranges}
use Rattle.sheet_bytes.specs.declared.Values.{Values}
use Rattle.sheet_bytes.specs.declared.Config.{Config}
use Rattle.sheet_bytes.specs.declared.RegionMove.{RegionMove}
use Rattle.sheet_rules.specs.Layout.{counters_of, actions_of, regions_of, start_value, label_at, move_part}
use Rattle.sheet_rules.specs.Decode.{rule_at, move_at, region_at, start_of, decode}
use Rattle.sheet_bytes.specs.Three.{firsts, ranges_meant, values_meant, rules_meant, box_meant, config_meant, move_meant, padded, padded_out, zero_rule, box_three, start_three, move_three, open_read, box_meant_lem, start_meant, move_meant_lem}
use Rattle.sheet_bytes.specs.Space.{RulesSafe, ValuesWithin, all_three, land_three, land_meant, fits_safe}
use Rattle.sheet_bytes.specs.Bounds.{RangesWithin}
use Rattle.sheet_rules.proofs.Fits.{moves_fit}
use Rattle.sheet_form.specs.BoxFits.{box_fits}
use Rattle.sheet.specs.declared.walk.Place.{Place}
use Rattle.sheet_rules.specs.Check.{sheet_check}
use Rattle.sheet_regions.specs.Landing.{Passed}
use Rattle.sheet_regions.specs.Shares.{countable}
use Rattle.sheet_rules.specs.Accepted.{Stages}
use Rattle.sheet_rules.proofs.Accepted.{stages, regions_count, region_is, box_is, step_is, accepted}
use Rattle.sheet_rules.specs.RunSheet.{sheet_run_check}

-- a value in a range lies within its bounds
contained_within : {n : ℕ} (r : Range) (z : ℤ) → RangeWithin n r → T (contains r z) → Within n z
contained_within r z w t =
    let (l, u) = (contains_le r z).0 t in
    let a = w.low_within.above in
    let b = w.high_within.below in
    record { above = omega ints; below = omega ints }

-- the counters that a sheet of n counters lacks have 0
pub record Spare (n : ℕ) (x : Values) : Type 0 where
  pub second_zero : n ≤ 1 → x.second ≡ pos 0
  pub third_zero : n ≤ 2 → x.third ≡ pos 0

zero_within : {z : ℤ} → z ≡ pos 0 → Within 1000000 z
zero_within e = subst (Within 1000000) (sym e) (within_zero 1000000)

values_within : (n : ℕ) (r : Ranges) (x : Values) → 1 ≤ n → n ≤ 3 → RangesWithin 1000000 r → T (within (ranges_meant n r) (values_meant n x)) → Spare n x
    → ValuesWithin 1000000 x
unfolding within firsts
values_within zero r x h l w t p = absurd (omega arith)
values_within (suc zero) r x h l w t p =
    let (a, u) = (both (contains r.first x.first) true).0 t in
    record {
      first_within = contained_within r.first x.first w.first_within a;
      second_within = zero_within (p.second_zero (omega arith));
      third_within = zero_within (p.third_zero (omega arith));
    }
values_within (suc (suc zero)) r x h l w t p =
    let (a, u) = (both (contains r.first x.first) (contains r.second x.second && true)).0 t in
    let (b, v) = (both (contains r.second x.second) true).0 u in
    record {
      first_within = contained_within r.first x.first w.first_within a;
      second_within = contained_within r.second x.second w.second_within b;
      third_within = zero_within (p.third_zero (omega arith));
    }
values_within (suc (suc (suc zero))) r x h l w t p =
    let (a, u) = (both (contains r.first x.first) (contains r.second x.second && (contains r.third x.third && true))).0 t in
    let (b, v) = (both (contains r.second x.second) (contains r.third x.third && true)).0 u in
    let (d, q) = (both (contains r.third x.third) true).0 v in
    record {
      first_within = contained_within r.first x.first w.first_within a;
      second_within = contained_within r.second x.second w.second_within b;
      third_within = contained_within r.third x.third w.third_within d;
    }
values_within (suc (suc (suc (suc n)))) r x h l w t p = absurd (omega arith)

-- Where a walk is: the number of the configuration's region, which is there, and nothing in the counters that the sheet lacks.
pub record At (s : List ℕ) (x : Config) (i : ℕ) : Type 0 where
  pub number : i ≡ region_number (decode s) (config_meant (counters_of s) x)
  pub there : i < regions_of s
  pub spare : Spare (counters_of s) x.values

-- what an action writes: the label where it leads, 65,535 if it is barred
unfoldable pub entry_by : List ℕ → Option Place → ℕ
entry_by s None = 65535
entry_by s (Some to) = label_at s to.region

-- What one action does from a place: where the walk is then, what is written, and whether the action was barred. A barred one leaves the walk where it is.
pub record Acts (s : List ℕ) (from : Place) (a : ℕ) (next : Option Place) : Type 0 where
  pub place : At s (unwrap_or next from).config (unwrap_or next from).region
  pub took : AnyWalk.Took (sheet_system (decode s)) (config_meant (counters_of s) from.config) (step (decode s) a (config_meant (counters_of s) from.config))
      (config_meant (counters_of s) (unwrap_or next from).config) (entry_by s next) (AnyWalk.is_barred next)

-- where it leads is a region of the sheet
pub acts_within : {s : List ℕ} {from : Place} {a n : ℕ} {next : Option Place} → Acts s from a next → n ≡ regions_of s → IfSome next (λ to. to.region < n)
acts_within {s} {from} {n = n} {next = next} k e = go next k.place
  where
    go : (o : Option Place) → At s (unwrap_or o from).config (unwrap_or o from).region → IfSome o (λ to. to.region < n)
    go None p = tt
    go (Some to) p = omega (arith, p.there, e)

-- whether there is none
pub barred_is : {A : Type 0} (o : Option A) {r : Bool} → is_some o ≡ not r → r ≡ AnyWalk.is_barred o
unfolding AnyWalk.is_barred
barred_is None {r = true} e = refl
barred_is None {r = false} e = absurd cc
barred_is (Some x) {r = true} e = absurd cc
barred_is (Some x) {r = false} e = refl

-- a padded rule past the counters sets to 0
spare_rule : (f : ℕ → Rule) (n v : ℕ) (old : List ℤ) → n ≤ v → applied (padded zero_rule f n v) old ≡ pos 0
unfolding applied
spare_rule f n v old h = ap (λ (r : Rule). applied r old) (padded_out zero_rule f n v h)

module _ (s : List ℕ) (B : Bytes s) (e : sheet_check s ≡ Ok tt) where
  S : Stages s
  S = stages s e

  W : WellFormed (decode s)
  W = accepted s B e

  -- the values of a walk's configuration are within bounds
  pub at_within : (x : Config) (i : ℕ) → At s x i → ValuesWithin 1000000 x.values
  unfolding region_of
  at_within x i k =
      let y = config_meant (counters_of s) x in
      let n = regions_count s in
      let c : Covered (decode s) y = omega (arith, k.there, k.number) in
      let t = subst (λ (j : ℕ). T (in_box (Model.region_at (decode s) j).box y)) (sym k.number) (covered_in (decode s) y c) in
      let u = subst (λ (b : Box). T (in_box b y)) (box_is s i k.there ∙ sym (box_meant_lem s S.shape i)) t in
      values_within (counters_of s) (box_three s i).ranges x.values S.shape.counters_some S.shape.counters_few (box_fits s B S.fields i k.there)
      ((in_box_parts (box_meant (counters_of s) (box_three s i)) y).0 u).1 k.spare

  -- the label there
  pub at_label : (x : Config) (i v : ℕ) → At s x i → v ≡ label_at s i → v ≡ (sheet_system (decode s)).label (config_meant (counters_of s) x)
  unfolding sheet_system region_of region_at
  at_label x i v k d = d ∙ sym (ap (λ (r : Region). r.label) (region_is s i k.there)) ∙ ap (λ (j : ℕ). (Model.region_at (decode s) j).label) k.number

  -- the start
  start_number : region_number (decode s) (config_meant (counters_of s) (start_three s)) < regions_of s
  unfolding decode
  start_number =
      let n = regions_count s in
      subst (λ (y : Configuration). region_number (decode s) y < regions_of s) (sym (start_meant s S.shape)) (omega (arith, W.start_covered))

  pub at_start : (x : Config) (i : ℕ) → x ≡ start_three s → i ≡ region_number (decode s) (config_meant (counters_of s) x) → At s x i
  unfolding start_three
  at_start x i d q =
      subst (λ (y : Config). i ≡ region_number (decode s) (config_meant (counters_of s) y) → At s y i) (sym d)
      (λ q.
      record {
        number = q;
        there = omega (arith, start_number);
        spare = record {
          second_zero = λ h. padded_out (pos 0) (start_value s) (counters_of s) 1 h;
          third_zero = λ h. padded_out (pos 0) (start_value s) (counters_of s) 2 h;
        };
      }) q

  module _ (x : Config) (i a : ℕ) (k : At s x i) (h : a < actions_of s) (o : Option RegionMove) (d : o ≡ move_three (counters_of s) (move_part s i a)) where
    P : Passed s
    P = record { fields = S.fields; apart = S.apart }

    -- what the action does there
    does : step (decode s) a (config_meant (counters_of s) x) ≡ moved (move_meant (counters_of s) o) (config_meant (counters_of s) x)
    unfolding move_at
    does =
        let y = config_meant (counters_of s) x in
        step_is s y i a k.there h (sym k.number)
        ∙ ap (λ (t : Model.Move). moved t y) (sym (move_meant_lem (counters_of s) (move_part s i a) S.shape.counters_few) ∙ ap (move_meant (counters_of s)) (sym d))

    -- a barred move gives nothing,
    pub does_nothing : o ≡ None → step (decode s) a (config_meant (counters_of s) x) ≡ None
    unfolding moved move_meant
    does_nothing q = does ∙ ap (λ (t : Option RegionMove). moved (move_meant (counters_of s) t) (config_meant (counters_of s) x)) q

    -- So one action does what its move says: a barred one leaves everything as it is,
    pub acts_barred : o ≡ None → Acts s (record { config = x; region = i }) a None
    unfolding entry_by AnyWalk.is_barred
    acts_barred q = record { place = k; took = WalkLaws.took_barred (sheet_system (decode s)) (config_meant (counters_of s) x) (does_nothing q) }

    module _ {m : RegionMove} (q : o ≡ Some m) where
      -- an open move can be applied,
      pub rules_safe : RulesSafe m.rules
      rules_safe =
          let f = (countable s S.shape B P i a k.there h o d q).rules in
          record { first_safe = fits_safe (omega arith) f.first_fits; second_safe = fits_safe (omega arith) f.second_fits; third_safe = fits_safe (omega arith) f.third_fits }

      -- leads where the code lands,
      rules_meant_lem : Each (RuleFits (counters_of s)) (rules_meant (counters_of s) m.rules)
      unfolding move_at move_meant
      rules_meant_lem =
          go
          (subst (MoveFits (counters_of s))
          (sym (move_meant_lem (counters_of s) (move_part s i a) S.shape.counters_few) ∙ ap (move_meant (counters_of s)) (sym d ∙ q))
          (moves_fit s B S.fields i a k.there h))
        where
          go : {target : ℕ} {rules : List Rule} → MoveFits (counters_of s) (Model.Open target rules) → Each (RuleFits (counters_of s)) rules
          go (open_fits t l f) = f

      pub does_land : step (decode s) a (config_meant (counters_of s) x) ≡ Some (config_meant (counters_of s) (land_three m x))
      unfolding moved move_meant
      does_land =
          does
          ∙ ap (λ (t : Option RegionMove). moved (move_meant (counters_of s) t) (config_meant (counters_of s) x)) q
          ∙ ap Some (sym (land_meant (counters_of s) m x S.shape.counters_few rules_meant_lem))

      -- and a walk can go on from there.
      land_spare : Spare (counters_of s) (land_three m x).values
      unfolding land_three
      land_spare =
          let f = rule_at (move_part s i a) in
          let w = open_read (counters_of s) (move_part s i a) (sym d ∙ q) in
          record {
            second_zero = λ l. subst (λ (m : RegionMove). applied m.rules.second (all_three x.values) ≡ pos 0) (sym w) (spare_rule f (counters_of s) 1 (all_three x.values) l);
            third_zero = λ l. subst (λ (m : RegionMove). applied m.rules.third (all_three x.values) ≡ pos 0) (sym w) (spare_rule f (counters_of s) 2 (all_three x.values) l);
          }

      pub at_land : (y : Config) (j : ℕ) → y ≡ land_three m x → j ≡ region_number (decode s) (config_meant (counters_of s) y) → At s y j
      at_land y j r g =
          let n = regions_count s in
          let c : Covered (decode s) (config_meant (counters_of s) x) = omega (arith, k.there, k.number) in
          let l = W.moves_land (config_meant (counters_of s) x) (config_meant (counters_of s) (land_three m x)) a c does_land in
          let g' : j ≡ region_number (decode s) (config_meant (counters_of s) (land_three m x)) = g ∙ ap (λ (z : Config). region_number (decode s) (config_meant (counters_of s) z)) r in
          record { number = g; there = omega (arith, l, g', n); spare = subst (λ (z : Config). Spare (counters_of s) z.values) (sym r) land_spare }

      -- an open one leads where the code lands.
      pub acts_open : (y : Config) (j : ℕ) → y ≡ land_three m x → j ≡ region_number (decode s) (config_meant (counters_of s) y)
          → Acts s (record { config = x; region = i }) a (Some (record { config = y; region = j }))
      unfolding entry_by AnyWalk.is_barred
      acts_open y j r g =
          let p = at_land y j r g in
          record {
            place = p;
            took =
                WalkLaws.took_open (sheet_system (decode s)) (config_meant (counters_of s) x) (config_meant (counters_of s) y) (label_at s j)
                (does_land ∙ ap (λ (z : Config). Some (config_meant (counters_of s) z)) (sym r)) (at_label y j (label_at s j) p refl);
          }

-- The walk on a sheet that passed its check: where it is, which action was barred first, and what it has written.
pub record Walk (s w old : List ℕ) (n : ℕ) (x : Place) (first : Option ℕ) (ls : List ℕ) : Type 0 where
  pub place : At s x.config x.region
  pub walked : AnyWalk.Walk (sheet_system (decode s)) (start_of s) w old n (config_meant (counters_of s) x.config) first ls

module _ (s w : List ℕ) (B : Bytes s) (e : sheet_check s ≡ Ok tt) where
  pub walk_start : (old : List ℕ) (x : Config) (i v : ℕ) → 0 < length old → x ≡ start_three s
      → i ≡ region_number (decode s) (config_meant (counters_of s) x) → v ≡ label_at s i → Walk s w (set old 0 v) 0 (record { config = x; region = i }) None (set old 0 v)
  walk_start old x i v h d q r =
      let k = at_start s B e x i d q in
      let y : config_meant (counters_of s) x ≡ start_of s = ap (config_meant (counters_of s)) d ∙ start_meant s (stages s e).shape in
      record {
        place = k;
        walked = subst (λ (z : Configuration). AnyWalk.Walk (sheet_system (decode s)) (start_of s) w (set old 0 v) 0 z None (set old 0 v)) (sym y)
            (WalkLaws.walk_start (sheet_system (decode s)) (start_of s) w old v h
            (at_label s B e x i v k r ∙ ap (λ (z : Configuration). (sheet_system (decode s)).label z) y));
      }

  pub walk_old : (old : List ℕ) (v n : ℕ) (x : Place) (first : Option ℕ) (ls : List ℕ) → Walk s w (set old 0 v) n x first ls → Walk s w old n x first ls
  walk_old old v n x first ls k =
      record { place = k.place; walked = WalkLaws.walk_old (sheet_system (decode s)) (start_of s) w old v n (config_meant (counters_of s) x.config) first ls k.walked }

  -- one action
  pub walk_step : (old ls : List ℕ) (n : ℕ) (x y : Place) (first next : Option ℕ) (r : Option Place) (v : ℕ) → Walk s w old n x first ls → n < length w → n + 1 < length ls
      → Acts s x (get_or w n 0) r → y ≡ unwrap_or r x → v ≡ entry_by s r → next ≡ noted_at first n (AnyWalk.is_barred r) → Walk s w old (n + 1) y next (set ls (n + 1) v)
  unfolding sheet_system
  walk_step old ls n x y first next r v k hw hl a b u d =
      subst (λ (z : Place). Walk s w old (n + 1) z next (set ls (n + 1) v)) (sym b)
      (subst (λ (m : ℕ). Walk s w old (n + 1) (unwrap_or r x) next (set ls (n + 1) m)) (sym u)
      (record {
        place = a.place;
        walked =
            subst (λ (f : Option ℕ). AnyWalk.Walk (sheet_system (decode s)) (start_of s) w old (n + 1) (config_meant (counters_of s) (unwrap_or r x).config) f (set ls (n + 1) (entry_by s r))) (sym d)
            (WalkLaws.walk_step (sheet_system (decode s)) (start_of s) w old ls n (entry_by s r) (AnyWalk.is_barred r) (config_meant (counters_of s) x.config)
            (config_meant (counters_of s) (unwrap_or r x).config) first k.walked hw hl a.took);
      }))

  -- The walk ends after the last action.
  pub walk_done : (old ls : List ℕ) (n : ℕ) (x : Place) (first : Option ℕ) → Walk s w old n x first ls → n ≡ length w → n < length ls
      → (Ok (record { entries = length w + 1; barred = first }) ≡ ran_by (Ok tt) (sheet_reading (decode s) w)) × (ls ≡ left_by (Ok tt) (sheet_reading (decode s) w) old)
  unfolding sheet_reading decode
  walk_done old ls n x first k q h = WalkLaws.walk_done (sheet_system (decode s)) (start_of s) w old ls n (config_meant (counters_of s) x.config) first k.walked q h

-- what the passed checks of a run say
pub run_passed : (s w : List ℕ) (room : ℕ) → sheet_run_check s w room ≡ Ok tt → (sheet_check s ≡ Ok tt) × Runs (actions_of s) w room
unfolding sheet_run_check
run_passed s w room e =
    let (p, q) = then_fine (sheet_check s) (run_checks (actions_of s) w room) e in
    (p, sequence_passed (actions_of s) w room q)
