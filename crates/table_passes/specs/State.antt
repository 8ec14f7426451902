-- The state of the refinement in arrays, and what each step of the code does to it.
use Rattle.std.specs.Prelude.{◌≡◌, Bool, List, ℕ, suc, ◌+◌, ◌*◌, ◌≤◌, ◌<◌, length, get_or, set, ℤ, Option, None, Some}
use Rattle.std.proofs.Math.Path.{refl, sym, ap, subst}
use Rattle.std.proofs.Common.{◌∙◌, inl, inr, ⊎_elim, add-one, eq-eqb, get_or-set_same, get_or-set_other}
use Rattle.std.proofs.Math.Bool.{true, false}
use Rattle.std.proofs.Math.Decide.{ℕ_discrete, dec_le}
use native.Mathlib.Omega.{arith}
use Rattle.std.proofs.Math.Dec.{T}
use Rattle.std.proofs.Math.ListN.{length-set}
use Rattle.systems.proofs.Laws.{is_true, true_is, not_true}
use Rattle.model.specs.Sheet as Model
use Rattle.model.specs.Sheet.{Configuration, Box, Move, in_box, landing, region_number, Covered, RuleFits, RangeFits, Each}
use Rattle.model.specs.Blocks.{cuts, emptied, preimage, too_many}
use Rattle.model.proofs.Boxes.{in_box_parts}
use Rattle.model.proofs.Classes.{covered_in}
use Rattle.refinement.specs.Table.{SoundRow}
use Rattle.refinement.specs.Flags.{Elsewhere, Lowered}
use Rattle.refinement.specs.SheetTable.{Row, sheet_frame, Completed, move_at, region_row, cut_row}
use Rattle.refinement.proofs.SheetTable.{step_open, row_fits, open_fits_at}
use Rattle.refinement.specs.Potential.{Falling}
use Rattle.refinement.specs.Depth.{Deep, AllDeep, Reaches}
use Rattle.refinement.specs.Loop.{Advance, Working, rows_potential}
use Rattle.refinement.proofs.Loop.{advance_cut, advance_barred, advance_down, landed, working_first, working_barred, working_same, working_cut, working_append, working_depths, working_target, working_level, working_deeper, working_deep, working_done, working_many}
use Rattle.sheet_bytes.specs.declared.Shape.{Shape}
use Rattle.sheet_bytes.specs.declared.Ranges.{Ranges}
use Rattle.sheet_bytes.specs.declared.Values.{Values}
use Rattle.sheet_bytes.specs.declared.Config.{Config}
use Rattle.sheet_bytes.specs.declared.RegionMove.{RegionMove}
use Rattle.sheet_rules.specs.Layout.{move_part}
use Rattle.sheet_rules.specs.Decode.{decode, rule_at}
use Rattle.sheet_bytes.specs.Three.{ranges_meant, values_meant, rules_meant, box_meant, config_meant, move_meant, open_read, box_three, start_three, start_meant, firsts_padded, zero_rule}
use Rattle.sheet_bytes.specs.Space.{ValuesWithin, land_three, land_meant}
use Rattle.sheet_bytes.specs.Cuts.{cuts_three}
use Rattle.sheet_bytes.specs.Bounds.{RangesWithin, RulesFit, rules_fit}
use Rattle.table_rules.specs.Arrays.{CellsRoom, HomesRoom, TargetsRoom, FlagsRoom, BoundsRoom, values_in, ranges_in, region_in, state_in, config_in, box_in, target_in, flag_in, depth_in, source_in, first_in, put_ranges, put_values}
use Rattle.table_rules.proofs.Arrays.{put_ranges_length, put_values_length, put_home_length, ranges_same, ranges_other, values_kept, values_same, values_other, ranges_kept, region_same, state_same as home_same, region_other, state_other}
use Rattle.table_rules.specs.Marks.{RaisedTo, RowRaised, DownBelow}
use Rattle.table_rules.proofs.Marks.{raised_down}
use Rattle.table_rules.specs.Depths.{Deepened, Levelled}
use Rattle.table_rules.specs.Sources.{Noting, Opening, Begun}
use Rattle.table_rules.specs.Meaning.{Ready, row_in, holds_in, move_in}
use Rattle.table_rules.proofs.Meaning.{move_in_lem, box_in_lem, covered_few}
use Rattle.table_rules.specs.Growth.{new_cells, new_homes}
use Rattle.table_rules.specs.Padding.{PaddedValues, PaddedRanges, PaddedRules}
use Rattle.table_rules.proofs.Padding.{box_padded, start_padded, move_padded, land_padded, padded_same, ranges_within, values_within, cuts_meant, cuts_padded}

-- The arrays hold a state of the refinement loop with n rows. No row below the lowest source of another leads to it by an action whose flag is down, and no
-- row below the first has a flag up.
pub record State (s : List ℕ) (shape : Shape) (c : List ℤ) (h t f d : List ℕ) (n : ℕ) : Type 0 where
  pub cells_room : CellsRoom c
  pub homes_room : HomesRoom h
  pub targets_room : TargetsRoom t
  pub flags_room : FlagsRoom f
  pub bounds_room : BoundsRoom d
  pub working : Working (decode s) n (row_in shape.counters c h) (target_in t) (flag_in f) (depth_in d)
  pub sourced : (k b : ℕ) → k < n → b < shape.actions → flag_in f k b ≡ 0 → target_in t k b < 255 → source_in d (target_in t k b) ≤ k
  pub lowest : (k : ℕ) → k < n → k < first_in d → DownBelow f k shape.actions
  pub located : (k : ℕ) → k < n → region_in h k ≡ region_number (decode s) (config_meant shape.counters (config_in c h k))
  pub values_padded : (k : ℕ) → k < n → PaddedValues shape.counters (values_in c k)
  pub ranges_padded : (k : ℕ) → k < n → PaddedRanges shape.counters (ranges_in c k)

-- what a change of the arrays does to the potential and the flags
abbrev pub Fell : ℕ → List ℤ → List ℕ → List ℕ → ℕ → List ℤ → List ℕ → List ℕ → ℕ → Type 0
Fell V# c h f n c' h' f' n' = Falling (rows_potential n (row_in V# c h)) (rows_potential n' (row_in V# c' h')) (flag_in f) (flag_in f') n n'

-- the move m is open where row i's representative is
pub record OpenAt (s : List ℕ) (shape : Shape) (c : List ℤ) (h : List ℕ) (i a : ℕ) (m : RegionMove) : Type 0 where
  pub meant : move_at (decode s) a (config_meant shape.counters (config_in c h i)) ≡ Model.Open m.target (rules_meant shape.counters m.rules)
  pub fits : RulesFit m.rules
  pub each : Each (RuleFits shape.counters) (rules_meant shape.counters m.rules)
  pub padded : PaddedRules shape.counters m.rules

module _ {s : List ℕ} {shape : Shape} (R : Ready s shape) where
  pub counters_some : 1 ≤ shape.counters
  counters_some = omega (arith, R.read.shaped.counters_some, R.read.counters_are)

  pub counters_few : shape.counters ≤ 3
  counters_few = omega (arith, R.read.shaped.counters_few, R.read.counters_are)

  pub actions_few : shape.actions ≤ 8
  actions_few = omega (arith, R.read.shaped.actions_few, R.read.actions_are)

  pub counters_decoded : shape.counters ≡ (decode s).counters
  unfolding decode
  counters_decoded = R.read.counters_are

  pub actions_decoded : shape.actions ≡ (decode s).actions
  unfolding decode
  actions_decoded = R.read.actions_are

  -- a row of the table is sound
  module _ {c : List ℤ} {h t f d : List ℕ} {n : ℕ} (S : State s shape c h t f d n) where
    row_sound : (k : ℕ) → k < n → SoundRow (sheet_frame (decode s)) (row_in shape.counters c h k)
    row_sound k l = S.working.sound.rows k l

    row_holds : (k : ℕ) → k < n → T (in_box (box_meant shape.counters (box_in c h k)) (config_meant shape.counters (config_in c h k)))
    unfolding row_in
    row_holds k l = (row_sound k l).holds

    pub row_covered : (k : ℕ) → k < n → Covered (decode s) (config_meant shape.counters (config_in c h k))
    unfolding row_in
    row_covered k l = (row_sound k l).covered (config_meant shape.counters (config_in c h k)) (row_holds k l)

    -- its home is a region
    pub region_few : (k : ℕ) → k < n → region_in h k < shape.regions
    region_few k l = omega (arith, S.located k l, covered_few R (config_meant shape.counters (config_in c h k)) (row_covered k l))

    ranges_fit_in : (k : ℕ) → k < n → Each RangeFits (ranges_meant shape.counters (ranges_in c k))
    unfolding row_in
    ranges_fit_in k l = (row_fits (decode s) R.well (row_in shape.counters c h k) (row_sound k l)).ranges_fit

    -- its bounds and values are within 1,000,000 of zero
    pub ranges_bounded : (k : ℕ) → k < n → RangesWithin 1000000 (ranges_in c k)
    ranges_bounded k l = ranges_within shape.counters (ranges_in c k) counters_some counters_few (ranges_fit_in k l) (S.ranges_padded k l)

    pub values_bounded : (k : ℕ) → k < n → ValuesWithin 1000000 (values_in c k)
    values_bounded k l =
        values_within shape.counters (ranges_in c k) (values_in c k) counters_some counters_few (ranges_fit_in k l)
        ((in_box_parts (box_meant shape.counters (box_in c h k)) (config_meant shape.counters (config_in c h k))).0 (row_holds k l)).1 (S.values_padded k l)

    -- the move that was read
    read_meant : {m : Option RegionMove} (k b : ℕ) → k < n → b < shape.actions → m ≡ move_in shape.counters s (region_in h k) b
        → move_at (decode s) b (config_meant shape.counters (config_in c h k)) ≡ move_meant shape.counters m
    read_meant {m} k b l q e =
        sym (move_in_lem R b (config_meant shape.counters (config_in c h k)) (row_covered k l) q)
        ∙ ap (λ (r : ℕ). move_meant shape.counters (move_in shape.counters s r b)) (sym (S.located k l)) ∙ ap (move_meant shape.counters) (sym e)

    pub barred_at : {m : Option RegionMove} (k b : ℕ) → k < n → b < shape.actions → m ≡ move_in shape.counters s (region_in h k) b → m ≡ None
        → move_at (decode s) b (config_meant shape.counters (config_in c h k)) ≡ Model.Barred
    unfolding move_meant
    barred_at k b l q e d = read_meant k b l q e ∙ ap (move_meant shape.counters) d

    pub open_at : {o : Option RegionMove} {m : RegionMove} (k b : ℕ) → k < n → b < shape.actions → o ≡ move_in shape.counters s (region_in h k) b → o ≡ Some m
        → OpenAt s shape c h k b m
    unfolding move_meant move_in
    open_at {m = m} k b l q g d =
        let V# = shape.counters in
        let p = move_part s (region_in h k) b in
        let meant = read_meant k b l q g ∙ ap (move_meant V#) d in
        let e = open_read V# p (sym g ∙ d) in
        let fits = (open_fits_at (decode s) R.well b (config_meant V# (config_in c h k)) (row_covered k l) meant).1 in
        let each = subst (λ (v : ℕ). Each (RuleFits v) (rules_meant V# m.rules)) (sym counters_decoded) fits in
        let listed-fit =
        subst (Each (RuleFits V#)) (ap (λ (r : RegionMove). rules_meant V# r.rules) e ∙ firsts_padded zero_rule (rule_at p) V# counters_few) each in
        record {
          meant = meant;
          fits = subst (λ (r : RegionMove). RulesFit r.rules) (sym e) (rules_fit (rule_at p) V# counters_few listed-fit);
          each = each;
          padded = subst (λ (r : RegionMove). PaddedRules V# r.rules) (sym e) (move_padded V# p);
        }

    -- where an open move leads
    pub landing_meant : {m : RegionMove} (k b : ℕ) → OpenAt s shape c h k b m
        → config_meant shape.counters (land_three m (config_in c h k)) ≡ landing m.target (rules_meant shape.counters m.rules) (config_meant shape.counters (config_in c h k))
    landing_meant {m} k b O = land_meant shape.counters m (config_in c h k) counters_few O.each

    pub landing_covered : {m : RegionMove} (k b : ℕ) → k < n → OpenAt s shape c h k b m → Covered (decode s) (config_meant shape.counters (land_three m (config_in c h k)))
    landing_covered {m} k b l O =
        subst (Covered (decode s)) (sym (landing_meant k b O))
        (R.well.moves_land (config_meant shape.counters (config_in c h k)) (landing m.target (rules_meant shape.counters m.rules) (config_meant shape.counters (config_in c h k))) b
        (row_covered k l) (step_open (decode s) b (config_meant shape.counters (config_in c h k)) O.meant))

-- a target stored: read back, and what it leaves
pub stored_there : (t : List ℕ) (i a v : ℕ) → TargetsRoom t → i < 255 → a < 8 → target_in (set t (255 * a + i) v) i a ≡ v
stored_there t i a v l h g = get_or-set_same t (255 * a + i) v 0 (omega arith)

pub stored_elsewhere : (t : List ℕ) (n actions i a v : ℕ) → n ≤ 255 → i < n → Elsewhere n actions i a (target_in t) (target_in (set t (255 * a + i) v))
stored_elsewhere t n actions i a v h g k b l m q = get_or-set_other t (255 * a + i) (255 * b + k) v 0 (λ e. q (omega arith) (omega arith))

-- a row whose values and home are as they were, and whose ranges were
row_kept : (V# : ℕ) (c c' : List ℤ) (h h' : List ℕ) (k : ℕ) → values_in c' k ≡ values_in c k → ranges_in c' k ≡ ranges_in c k → state_in h' k ≡ state_in h k
    → row_in V# c' h' k ≡ row_in V# c h k
unfolding row_in
row_kept V# c c' h h' k p q e =
    λ t. record {
      representative = config_meant V# (record { state = e t; values = p t });
      box = box_meant V# (record { state = e t; ranges = q t });
    }

-- the flag of action a of row i lowered: it is down, and the others are as they were
pub lowered_there : (f : List ℕ) (i a : ℕ) → FlagsRoom f → i < 255 → a < 8 → flag_in (set f (255 * a + i) 0) i a ≡ 0
lowered_there f i a l h g = get_or-set_same f (255 * a + i) 0 0 (omega arith)

lowered_elsewhere : (f : List ℕ) (i a k b : ℕ) → i < 255 → k < 255 → (k ≡ i → b ≡ a → ⊥) → flag_in (set f (255 * a + i) 0) k b ≡ flag_in f k b
lowered_elsewhere f i a k b h l q = get_or-set_other f (255 * a + i) (255 * b + k) 0 0 (λ e. q (omega arith) (omega arith))

-- no other is raised, none but that lowered
pub lowered_down : (f : List ℕ) (i a k b : ℕ) → FlagsRoom f → i < 255 → a < 8 → k < 255 → flag_in f k b ≡ 0 → flag_in (set f (255 * a + i) 0) k b ≡ 0
lowered_down f i a k b room h g l z = go (ℕ_discrete k i) (ℕ_discrete b a)
  where
    go : Dec (k ≡ i) → Dec (b ≡ a) → flag_in (set f (255 * a + i) 0) k b ≡ 0
    go (yes p) (yes q) = subst (λ (m : ℕ). flag_in (set f (255 * a + i) 0) m b ≡ 0) (sym p) (subst (λ (m : ℕ). flag_in (set f (255 * a + i) 0) i m ≡ 0) (sym q) (lowered_there f i a room h g))
    go (yes p) (no q) = lowered_elsewhere f i a k b h l (λ u v. q v) ∙ z
    go (no p) q = lowered_elsewhere f i a k b h l (λ u v. p u) ∙ z

lowered_up : (f : List ℕ) (n actions i a : ℕ) → n ≤ 255 → i < n → Lowered n actions i a (flag_in f) (flag_in (set f (255 * a + i) 0))
lowered_up f n actions i a few h k b l g q z = sym (lowered_elsewhere f i a k b (omega arith) (omega arith) q) ∙ z

-- what lowering the flag of an action does to the flags, where the potential stays
pub lowered_falling : (f : List ℕ) (n i a p : ℕ) → FlagsRoom f → n ≤ 255 → i < n → a < 8 → Falling p p (flag_in f) (flag_in (set f (255 * a + i) 0)) n n
lowered_falling f n i a p room few h g =
    record { falls = omega arith; rows_stay = λ e. refl; flags_down = λ e k b l c z. lowered_down f i a k b room (omega arith) g (omega arith) z }

module _ {s : List ℕ} {shape : Shape} (R : Ready s shape) where
  module _ {c : List ℤ} {h t f d : List ℕ} {n : ℕ} (S : State s shape c h t f d n) (i a : ℕ) (hi : i < n) where
    -- sources after v was stored as the target and the flag lowered, where row i is noted as a source of v
    stored_sourced : (d' : List ℕ) (v : ℕ) → a < shape.actions → ((k : ℕ) → k < 255 → source_in d' k ≤ source_in d k) → (v < 255 → source_in d' v ≤ i) → (k b : ℕ) → k < n → b < shape.actions
        → flag_in (set f (255 * a + i) 0) k b ≡ 0 → target_in (set t (255 * a + i) v) k b < 255 → source_in d' (target_in (set t (255 * a + i) v) k b) ≤ k
    stored_sourced d' v ha less own k b l w z q = go (ℕ_discrete k i) (ℕ_discrete b a)
      where
        few : n ≤ 255
        few = S.working.few

        other : (k ≡ i → b ≡ a → ⊥) → source_in d' (target_in (set t (255 * a + i) v) k b) ≤ k
        other p =
            let e = stored_elsewhere t n shape.actions i a v few hi k b l w p in
            let u = ap (source_in d') e in
            let x = S.sourced k b l w (sym (lowered_elsewhere f i a k b (omega arith) (omega arith) p) ∙ z) (omega arith) in
            let y = less (target_in t k b) (omega arith) in
            omega arith

        go : Dec (k ≡ i) → Dec (b ≡ a) → source_in d' (target_in (set t (255 * a + i) v) k b) ≤ k
        go (yes p) (yes r) =
            let g = actions_few R in
            let e : target_in (set t (255 * a + i) v) k b ≡ v = ap (λ (m : ℕ). target_in (set t (255 * a + i) v) m b) p ∙ ap (target_in (set t (255 * a + i) v) i) r ∙ stored_there t i a v S.targets_room (omega arith) (omega arith) in
            let u = ap (source_in d') e in
            let x = own (omega arith) in
            omega arith
        go (yes p) (no r) = other (λ u y. r y)
        go (no p) r = other (λ u y. p u)

    lowered_lowest : (k : ℕ) → a < shape.actions → k < n → k < first_in d → DownBelow (set f (255 * a + i) 0) k shape.actions
    lowered_lowest k ha l q b w =
        let few = S.working.few in
        let g = actions_few R in
        lowered_down f i a k b S.flags_room (omega arith) (omega arith) (omega arith) (S.lowest k l q b w)

    -- Action a is barred: 255 is stored, and its flag lowered.
    pub state_barred : a < shape.actions → move_at (decode s) a (config_meant shape.counters (config_in c h i)) ≡ Model.Barred
        → State s shape c h (set t (255 * a + i) 255) (set f (255 * a + i) 0) d n
    unfolding row_in
    state_barred ha e =
        let few = S.working.few in
        let g = actions_few R in
        record {
          cells_room = S.cells_room;
          homes_room = S.homes_room;
          targets_room = length-set t (255 * a + i) 255 ∙ S.targets_room;
          flags_room = length-set f (255 * a + i) 0 ∙ S.flags_room;
          bounds_room = S.bounds_room;
          working =
              working_barred (decode s) R.well {t' = target_in (set t (255 * a + i) 255)} {f' = flag_in (set f (255 * a + i) 0)} i a S.working e
              (stored_there t i a 255 S.targets_room (omega arith) (omega arith)) (stored_elsewhere t n (decode s).actions i a 255 few hi)
              (lowered_up f n (decode s).actions i a few hi);
          sourced = stored_sourced d 255 ha (λ k l. omega arith) (λ l. absurd (omega arith));
          lowest = λ k l q. lowered_lowest k ha l q;
          located = S.located;
          values_padded = S.values_padded;
          ranges_padded = S.ranges_padded;
        }

    pub advance_stopped : move_at (decode s) a (config_meant shape.counters (config_in c h i)) ≡ Model.Barred
        → Advance (decode s) n (row_in shape.counters c h) (row_in shape.counters c h) i a 255
    unfolding row_in
    advance_stopped e = advance_barred (decode s) R.well {row = row_in shape.counters c h} i a S.working hi e

    -- The flag of action a is down.
    pub advance_quiet : a < shape.actions → flag_in f i a ≡ 0 → Advance (decode s) n (row_in shape.counters c h) (row_in shape.counters c h) i a (target_in t i a)
    advance_quiet ha e = advance_down (decode s) R.well {row = row_in shape.counters c h} i a S.working hi (omega (arith, actions_decoded R)) e

    module _ {m : RegionMove} (O : OpenAt s shape c h i a m) where
      -- the landing as the model names it
      in_row : (j : ℕ) → holds_in shape.counters c h (land_three m (config_in c h i)) j ≡ true
          → T (in_box (box_meant shape.counters (box_in c h j)) (landing m.target (rules_meant shape.counters m.rules) (config_meant shape.counters (config_in c h i))))
      in_row j e =
          subst (λ (y : Configuration). T (in_box (box_meant shape.counters (box_in c h j)) y)) (landing_meant R S i a O)
          (true_is (holds_in shape.counters c h (land_three m (config_in c h i)) j) e)

      not_in_row : (j : ℕ) → holds_in shape.counters c h (land_three m (config_in c h i)) j ≡ false
          → T (in_box (box_meant shape.counters (box_in c h j)) (landing m.target (rules_meant shape.counters m.rules) (config_meant shape.counters (config_in c h i)))) → ⊥
      not_in_row j e u =
          not_true (holds_in shape.counters c h (land_three m (config_in c h i)) j) e
          (subst (λ (y : Configuration). T (in_box (box_meant shape.counters (box_in c h j)) y)) (sym (landing_meant R S i a O)) u)

      module _ (j : ℕ) (hj : j < n) (u : holds_in shape.counters c h (land_three m (config_in c h i)) j ≡ true) where
        parts : (state_in h j ≡ m.target) × T (Model.within (ranges_meant shape.counters (ranges_in c j)) (Model.updated (rules_meant shape.counters m.rules) (values_meant shape.counters (values_in c i))))
        unfolding landing
        parts = (in_box_parts (box_meant shape.counters (box_in c h j)) (landing m.target (rules_meant shape.counters m.rules) (config_meant shape.counters (config_in c h i)))).0 (in_row j u)

        -- the ranges that the code cuts row i to, by row j
        abbrev cut_to : Ranges
        cut_to = cuts_three m.rules (ranges_in c j) (ranges_in c i)

        cut_row_lem : (c' : List ℤ) → values_in c' i ≡ values_in c i → ranges_in c' i ≡ cut_to
            → row_in shape.counters c' h i ≡ cut_row (row_in shape.counters c h i) m.target (rules_meant shape.counters m.rules) (row_in shape.counters c h j)
        unfolding row_in cut_row preimage
        cut_row_lem c' p q =
            let V# = shape.counters in
            let rs = ranges_meant V# (ranges_in c i) in
            let cs = cuts (rules_meant V# m.rules) (ranges_meant V# (ranges_in c j)) rs in
            let e =
            ap (ranges_meant V#) q ∙ cuts_meant V# m.rules (ranges_in c j) (ranges_in c i) (counters_some R) (counters_few R) O.each O.padded (S.ranges_padded j hj)
            ∙ ap (λ (b : Bool). elim b [ true ↦ cs | false ↦ emptied rs ]) (sym (eq-eqb m.target (state_in h j) (sym parts.0))) in
            λ z. record { representative = config_meant V# (record { state = state_in h i; values = p z }); box = record { state = state_in h i; ranges = e z } }

        pub cut_padded_in : PaddedRanges shape.counters cut_to
        cut_padded_in =
            cuts_padded shape.counters m.rules (ranges_in c j) (ranges_in c i) (values_meant shape.counters (values_in c i)) (counters_some R) (counters_few R) O.each O.padded
            (S.ranges_padded j hj) parts.1 (S.ranges_padded i hi)

        -- The cut leaves row i as it is: j is stored, and the flag lowered.
        pub state_same : (d' : List ℕ) → a < shape.actions → length d' ≡ length d → Noting d d' i j → cut_to ≡ ranges_in c i
            → State s shape c h (set t (255 * a + i) j) (set f (255 * a + i) 0) d' n
        unfolding row_in
        state_same d' ha ld N e =
            let few = S.working.few in
            let g = actions_few R in
            record {
              cells_room = S.cells_room;
              homes_room = S.homes_room;
              targets_room = length-set t (255 * a + i) j ∙ S.targets_room;
              flags_room = length-set f (255 * a + i) 0 ∙ S.flags_room;
              bounds_room = ld ∙ S.bounds_room;
              working =
                  working_depths (decode s) R.well
                  (working_same (decode s) R.well {t' = target_in (set t (255 * a + i) j)} {f' = flag_in (set f (255 * a + i) 0)} i a j S.working hi hj O.meant
                  (sym (cut_row_lem c refl (sym e))) (stored_there t i a j S.targets_room (omega arith) (omega arith)) (stored_elsewhere t n (decode s).actions i a j few hi)
                  (lowered_up f n (decode s).actions i a few hi))
                  (λ k l. N.depths k (omega arith));
              sourced = stored_sourced d' j ha N.sources (λ l. N.noted);
              lowest = λ k l q. let z = N.first in lowered_lowest k ha l (omega arith);
              located = S.located;
              values_padded = S.values_padded;
              ranges_padded = S.ranges_padded;
            }

        -- The cut changes row i: it is stored, j too, and all actions with a target i have their flags up. The potential falls.
        pub state_cut : (f' d' : List ℕ) → a < shape.actions → length d' ≡ length d → Opening d d' i j → (cut_to ≡ ranges_in c i → ⊥)
            → RaisedTo (set t (255 * a + i) j) i (source_in d' i) n (set f (255 * a + i) 0) f' shape.actions
            → State s shape (put_ranges c i cut_to) h (set t (255 * a + i) j) f' d' n
            × (rows_potential n (row_in shape.counters (put_ranges c i cut_to) h) < rows_potential n (row_in shape.counters c h))
        unfolding row_in
        state_cut f' d' ha ld P ne U =
            let few = S.working.few in
            let room = S.cells_room in
            let g = actions_few R in
            let same = ranges_same c i cut_to (omega arith) in
            let differ : row_in shape.counters (put_ranges c i cut_to) h i ≡ row_in shape.counters c h i → ⊥ =
            λ d. ne (padded_same shape.counters cut_to (ranges_in c i) (counters_some R) (counters_few R) cut_padded_in (S.ranges_padded i hi)
            (ap (ranges_meant shape.counters) (sym same) ∙ ap (λ (r : Row). r.box.ranges) d)) in
            let (Q, p) =
            working_cut (decode s) R.well {row' = row_in shape.counters (put_ranges c i cut_to) h} {t' = target_in (set t (255 * a + i) j)} {f' = flag_in f'} i a j S.working hi hj
            O.meant (in_row j u) (cut_row_lem (put_ranges c i cut_to) (values_kept c i cut_to i) same)
            (λ k l d. row_kept shape.counters c (put_ranges c i cut_to) h h k (values_kept c i cut_to k) (ranges_other c i cut_to k d) refl) differ
            (stored_there t i a j S.targets_room (omega arith) (omega arith)) (stored_elsewhere t n (decode s).actions i a j few hi)
            (λ k b l w q z. lowered_up f n (decode s).actions i a few hi k b l w q (down k b l (omega (arith, actions_decoded R)) z).0)
            (λ k b l w z. (down k b l (omega (arith, actions_decoded R)) z).1) in (
              record {
                cells_room = put_ranges_length c i cut_to ∙ room;
                homes_room = S.homes_room;
                targets_room = length-set t (255 * a + i) j ∙ S.targets_room;
                flags_room = U.same_length ∙ length-set f (255 * a + i) 0 ∙ S.flags_room;
                bounds_room = ld ∙ S.bounds_room;
                working = working_depths (decode s) R.well Q (λ k l. P.notes.depths k (omega arith));
                sourced = λ k b l w z. stored_sourced d' j ha P.notes.sources (λ q. P.notes.noted) k b l w (down k b l w z).0;
                lowest = λ k l q b w.
                    let x = P.notes.first in
                    let y = P.first_from in
                    U.below k b (omega arith) l ∙ lowered_lowest k ha l (omega arith) b w;
                located = λ k l. S.located k l ∙ ap (λ (x : Values). region_number (decode s) (config_meant shape.counters (record { state = state_in h k; values = x }))) (sym (values_kept c i cut_to k));
                values_padded = λ k l. subst (PaddedValues shape.counters) (sym (values_kept c i cut_to k)) (S.values_padded k l);
                ranges_padded = λ k l. padded_at k l (ℕ_discrete k i) same;
              },
              p,
            )
          where
            down : (k b : ℕ) → k < n → b < shape.actions → flag_in f' k b ≡ 0 → (flag_in (set f (255 * a + i) 0) k b ≡ 0) × (target_in (set t (255 * a + i) j) k b ≡ i → ⊥)
            down k b l w z = at (dec_le (source_in d' i) k)
              where
                at : Dec (source_in d' i ≤ k) → (flag_in (set f (255 * a + i) 0) k b ≡ 0) × (target_in (set t (255 * a + i) j) k b ≡ i → ⊥)
                at (yes q) = raised_down (target_in (set t (255 * a + i) j) k b) i (flag_in (set f (255 * a + i) 0) k b) (sym (U.pairs k b q l w) ∙ z)
                at (no q) =
                    let e = sym (U.below k b (omega arith) l) ∙ z in (
                      e,
                      λ y.
                          let few = S.working.few in
                          let v = stored_sourced d' j ha P.notes.sources (λ q. P.notes.noted) k b l w e (omega arith) in
                          let u = ap (source_in d') y in
                          omega arith,
                    )

            padded_at : (k : ℕ) → k < n → Dec (k ≡ i) → ranges_in (put_ranges c i cut_to) i ≡ cut_to → PaddedRanges shape.counters (ranges_in (put_ranges c i cut_to) k)
            padded_at k l (yes e) q = subst (λ (v : ℕ). PaddedRanges shape.counters (ranges_in (put_ranges c i cut_to) v)) (sym e) (subst (PaddedRanges shape.counters) (sym q) cut_padded_in)
            padded_at k l (no d) q = subst (PaddedRanges shape.counters) (sym (ranges_other c i cut_to k d)) (S.ranges_padded k l)

        -- What either does to the rows.
        pub advance_same : cut_to ≡ ranges_in c i → Advance (decode s) n (row_in shape.counters c h) (row_in shape.counters c h) i a j
        unfolding row_in
        advance_same e =
            advance_cut (decode s) R.well {row' = row_in shape.counters c h} i a j S.working hi hj O.meant (in_row j u) (cut_row_lem c refl (sym e)) (λ k l d. refl)

        pub advance_changed : Advance (decode s) n (row_in shape.counters c h) (row_in shape.counters (put_ranges c i cut_to) h) i a j
        unfolding row_in
        advance_changed =
            let few = S.working.few in
            let room = S.cells_room in
            advance_cut (decode s) R.well {row' = row_in shape.counters (put_ranges c i cut_to) h} i a j S.working hi hj O.meant (in_row j u)
            (cut_row_lem (put_ranges c i cut_to) (values_kept c i cut_to i) (ranges_same c i cut_to (omega arith)))
            (λ k l d. row_kept shape.counters c (put_ranges c i cut_to) h h k (values_kept c i cut_to k) (ranges_other c i cut_to k d) refl)

-- A new row: it has the configuration and the box of its region, and the other rows are as they were.
module _ {s : List ℕ} {shape : Shape} (R : Ready s shape) (c : List ℤ) (h : List ℕ) (n : ℕ) (x : Config) where
  abbrev cells' : List ℤ
  cells' = new_cells shape.counters s c n x

  abbrev homes' : List ℕ
  homes' = new_homes shape.counters s h n x

  abbrev region' : ℕ
  region' = region_number (decode s) (config_meant shape.counters x)

  new_values_other : (k : ℕ) → (k ≡ n → ⊥) → values_in cells' k ≡ values_in c k
  unfolding new_cells
  new_values_other k d = values_kept (put_values c n x.values) n (box_three s region').ranges k ∙ values_other c n x.values k d

  new_ranges_other : (k : ℕ) → (k ≡ n → ⊥) → ranges_in cells' k ≡ ranges_in c k
  unfolding new_cells
  new_ranges_other k d = ranges_other (put_values c n x.values) n (box_three s region').ranges k d ∙ ranges_kept c n x.values k

  new_state_other : (k : ℕ) → (k ≡ n → ⊥) → state_in homes' k ≡ state_in h k
  unfolding new_homes
  new_state_other k d = state_other h n region' x.state k d

  new_region_other : (k : ℕ) → (k ≡ n → ⊥) → region_in homes' k ≡ region_in h k
  unfolding new_homes
  new_region_other k d = region_other h n region' x.state k d

  new_cells_room : CellsRoom c → CellsRoom cells'
  unfolding new_cells
  new_cells_room r = put_ranges_length (put_values c n x.values) n (box_three s region').ranges ∙ put_values_length c n x.values ∙ r

  new_homes_room : HomesRoom h → HomesRoom homes'
  unfolding new_homes
  new_homes_room r = put_home_length h n region' x.state ∙ r

  pub new_other : (k : ℕ) → (k ≡ n → ⊥) → row_in shape.counters cells' homes' k ≡ row_in shape.counters c h k
  new_other k d = row_kept shape.counters c cells' h homes' k (new_values_other k d) (new_ranges_other k d) (new_state_other k d)

  pub new_config_other : (k : ℕ) → (k ≡ n → ⊥) → config_in cells' homes' k ≡ config_in c h k
  new_config_other k d = let p = new_values_other k d in let q = new_state_other k d in λ t. record { state = q t; values = p t }

  module _ (rc : CellsRoom c) (rh : HomesRoom h) (hn : n < 255) where
    new_values : values_in cells' n ≡ x.values
    unfolding new_cells
    new_values = values_kept (put_values c n x.values) n (box_three s region').ranges n ∙ values_same c n x.values (omega arith)

    new_ranges : ranges_in cells' n ≡ (box_three s region').ranges
    unfolding new_cells
    new_ranges = ranges_same (put_values c n x.values) n (box_three s region').ranges (omega (arith, put_values_length c n x.values))

    new_state : state_in homes' n ≡ x.state
    unfolding new_homes
    new_state = home_same h n region' x.state (omega arith)

    new_region : region_in homes' n ≡ region'
    unfolding new_homes
    new_region = region_same h n region' x.state (omega arith)

    new_config : config_in cells' homes' n ≡ x
    new_config = let p = new_values in let q = new_state in λ t. record { state = q t; values = p t }

    new_row : Covered (decode s) (config_meant shape.counters x) → row_in shape.counters cells' homes' n ≡ region_row (decode s) (config_meant shape.counters x)
    unfolding row_in region_row
    new_row cov =
        let V# = shape.counters in
        let e = box_in_lem R (config_meant V# x) cov in
        let i = subst (λ (b : Box). T (in_box b (config_meant V# x))) (sym e) (covered_in (decode s) (config_meant V# x) cov) in
        let q = new_state ∙ sym ((in_box_parts (box_meant V# (box_three s region')) (config_meant V# x)).0 i).0 in
        let p = new_config in
        let r = new_ranges in
        let b : box_meant V# (box_in cells' homes' n) ≡ box_meant V# (box_three s region') = λ t. box_meant V# (record { state = q t; ranges = r t }) in
        let b' = b ∙ e in
        λ t. record { representative = config_meant V# (p t); box = b' t }

    new_located : region_in homes' n ≡ region_number (decode s) (config_meant shape.counters (config_in cells' homes' n))
    new_located = new_region ∙ ap (λ (y : Config). region_number (decode s) (config_meant shape.counters y)) (sym new_config)

    new_values_padded : PaddedValues shape.counters x.values → PaddedValues shape.counters (values_in cells' n)
    new_values_padded P = subst (PaddedValues shape.counters) (sym new_values) P

    new_ranges_padded : PaddedRanges shape.counters (ranges_in cells' n)
    new_ranges_padded =
        subst (PaddedRanges shape.counters) (sym new_ranges) (subst (λ (v : ℕ). PaddedRanges v (box_three s region').ranges) (sym R.read.counters_are) (box_padded s region'))

    -- what is true of the old rows and of the new one is true of all
    grown : {P : ℕ → Type 0} → ((k : ℕ) → k < n → (k ≡ n → ⊥) → P k) → P n → (k : ℕ) → k < suc n → P k
    grown {P} old new k l = go (ℕ_discrete k n)
      where
        go : Dec (k ≡ n) → P k
        go (yes e) = subst P (sym e) new
        go (no d) = old k (omega arith) d

    -- the arrays with the new row hold a state, where its table does
    new_arrays : (t f f' d d' : List ℕ) → TargetsRoom t → FlagsRoom f' → BoundsRoom d' → RowRaised f f' n → Begun d d' n → PaddedValues shape.counters x.values
        → ((k b : ℕ) → k < n → b < shape.actions → flag_in f k b ≡ 0 → target_in t k b < 255 → (target_in t k b < n) × (source_in d (target_in t k b) ≤ k))
        → ((k : ℕ) → k < n → k < first_in d → DownBelow f k shape.actions)
        → ((k : ℕ) → k < n → region_in h k ≡ region_number (decode s) (config_meant shape.counters (config_in c h k)))
        → ((k : ℕ) → k < n → PaddedValues shape.counters (values_in c k)) → ((k : ℕ) → k < n → PaddedRanges shape.counters (ranges_in c k))
        → Working (decode s) (suc n) (row_in shape.counters cells' homes') (target_in t) (flag_in f') (depth_in d') → State s shape cells' homes' t f' d' (n + 1)
    new_arrays t f f' d d' rt rf rd U B P sources first located values ranges Q =
        let g = actions_few R in
        subst (State s shape cells' homes' t f' d') (sym (add-one n))
        (record {
          cells_room = new_cells_room rc;
          homes_room = new_homes_room rh;
          targets_room = rt;
          flags_room = rf;
          bounds_room = rd;
          working = Q;
          sourced = λ m b l.
              grown {P = λ k. (b : ℕ) → b < shape.actions → flag_in f' k b ≡ 0 → target_in t k b < 255 → source_in d' (target_in t k b) ≤ k}
              (λ k l q b w z v.
              let (y, u) = sources k b l w (sym (U.others k b (omega arith) q) ∙ z) v in
              let e = B.sources (target_in t k b) y in
              omega arith)
              (λ b w z. let o = U.own b (omega arith) in absurd (omega arith)) m l b;
          lowest =
              grown {P = λ k. k < first_in d' → DownBelow f' k shape.actions}
              (λ k l q v b w. let u = B.first in U.others k b (omega arith) q ∙ first k l (omega arith) b w) (λ v. let u = B.first_own in absurd (omega arith));
          located =
              grown {P = λ k. region_in homes' k ≡ region_number (decode s) (config_meant shape.counters (config_in cells' homes' k))}
              (λ k l d. new_region_other k d ∙ located k l ∙ ap (λ (y : Config). region_number (decode s) (config_meant shape.counters y)) (sym (new_config_other k d))) new_located;
          values_padded =
              grown {P = λ k. PaddedValues shape.counters (values_in cells' k)} (λ k l d. subst (PaddedValues shape.counters) (sym (new_values_other k d)) (values k l))
              (new_values_padded P);
          ranges_padded =
              grown {P = λ k. PaddedRanges shape.counters (ranges_in cells' k)} (λ k l d. subst (PaddedRanges shape.counters) (sym (new_ranges_other k d)) (ranges k l))
              new_ranges_padded;
        })

module _ {s : List ℕ} {shape : Shape} (R : Ready s shape) where
  -- The landing is in no row: it comes as a new one. The potential falls, and the landing is in it.
  module _ {c : List ℤ} {h t f d : List ℕ} {n : ℕ} (S : State s shape c h t f d n) (i a : ℕ) (hi : i < n) {m : RegionMove} (O : OpenAt s shape c h i a m)
      (u : (k : ℕ) → k < n → holds_in shape.counters c h (land_three m (config_in c h i)) k ≡ false) where
    abbrev next : Config
    next = land_three m (config_in c h i)

    module _ (hn : n < 255) where
      row_new : row_in shape.counters (cells' R c h n next) (homes' R c h n next) n
          ≡ region_row (decode s) (landing m.target (rules_meant shape.counters m.rules) (config_meant shape.counters (config_in c h i)))
      row_new = new_row R c h n next S.cells_room S.homes_room hn (landing_covered R S i a hi O) ∙ ap (region_row (decode s)) (landing_meant R S i a O)

      pub state_append : (f' d' : List ℕ) → length f' ≡ length f → RowRaised f f' n → length d' ≡ length d → Begun d d' n
          → State s shape (new_cells shape.counters s c n next) (new_homes shape.counters s h n next) t f' d' (n + 1)
          × (rows_potential (suc n) (row_in shape.counters (new_cells shape.counters s c n next) (new_homes shape.counters s h n next)) < rows_potential n (row_in shape.counters c h))
      unfolding row_in
      state_append f' d' lf U ld B =
          let g = actions_few R in
          let (Q, p) =
          working_append (decode s) R.well {row' = row_in shape.counters (cells' R c h n next) (homes' R c h n next)} {t' = target_in t} {f' = flag_in f'} {d' = depth_in d'} i a
          S.working hi hn O.meant (λ k l. not_in_row R S i a hi O k (u k l)) row_new (λ k l. new_other R c h n next k (λ e. omega arith)) (λ k b l q. refl)
          (λ k b l w. U.others k b (omega arith) (λ e. omega arith))
          (λ b w. let e = U.own b (omega (arith, actions_decoded R)) in omega arith)
          B.depths B.own in (
            new_arrays R c h n next S.cells_room S.homes_room hn t f f' d d' S.targets_room (lf ∙ S.flags_room) (ld ∙ S.bounds_room) U B
                (land_padded shape.counters m (config_in c h i) O.padded)
                (λ k b l w z q. (working_target (decode s) R.well k b S.working l (omega (arith, actions_decoded R)) z q, S.sourced k b l w z q)) S.lowest S.located S.values_padded S.ranges_padded Q,
            p,
          )

      -- in the new arrays too the move is open, and its landing is in the new row
      pub open_new : OpenAt s shape (new_cells shape.counters s c n next) (new_homes shape.counters s h n next) i a m
      open_new =
          let e = new_config_other R c h n next i (λ q. omega arith) in
          record {
            meant = ap (λ (y : Config). move_at (decode s) a (config_meant shape.counters y)) e ∙ O.meant;
            fits = O.fits;
            each = O.each;
            padded = O.padded;
          }

      pub landed_new : holds_in shape.counters (new_cells shape.counters s c n next) (new_homes shape.counters s h n next)
          (land_three m (config_in (new_cells shape.counters s c n next) (new_homes shape.counters s h n next) i)) n ≡ true
      unfolding row_in
      landed_new =
          let V# = shape.counters in
          let e = new_config_other R c h n next i (λ q. omega arith) in
          let l = landed (decode s) R.well (row_in V# (cells' R c h n next) (homes' R c h n next)) i a S.working hi O.meant row_new in
          ap (λ (y : Config). holds_in V# (cells' R c h n next) (homes' R c h n next) (land_three m y) n) e
          ∙ is_true (holds_in V# (cells' R c h n next) (homes' R c h n next) next n)
          (subst (λ (y : Configuration). T (in_box (box_meant V# (box_in (cells' R c h n next) (homes' R c h n next) n)) y)) (sym (landing_meant R S i a O)) l)

    -- With 255 rows there are too many blocks.
    pub state_many : n ≡ 255 → too_many (decode s) ≡ true
    unfolding row_in
    state_many e = working_many (decode s) R.well i a S.working hi e O.meant (λ k l. not_in_row R S i a hi O k (u k l))

    -- And so there are where all rows are 255 deep.
    pub state_deep : AllDeep (sheet_frame (decode s)) n (row_in shape.counters c h) (λ k. 255) → too_many (decode s) ≡ true
    unfolding row_in
    state_deep D = working_deep (decode s) R.well {row = row_in shape.counters c h} i a S.working hi O.meant (λ k l. not_in_row R S i a hi O k (u k l)) D

  -- The first state: the start with its region, its flag up.
  start_config : config_meant shape.counters (start_three s) ≡ (decode s).start
  unfolding decode
  start_config = ap (λ (v : ℕ). config_meant v (start_three s)) R.read.counters_are ∙ start_meant s R.read.shaped

  pub start_covered : Covered (decode s) (config_meant shape.counters (start_three s))
  start_covered = subst (Covered (decode s)) (sym start_config) R.well.start_covered

  pub state_first : (c : List ℤ) (h t f f' d d' : List ℕ) → CellsRoom c → HomesRoom h → TargetsRoom t → FlagsRoom f' → BoundsRoom d' → RowRaised f f' 0 → Begun d d' 0
      → State s shape (new_cells shape.counters s c 0 (start_three s)) (new_homes shape.counters s h 0 (start_three s)) t f' d' 1
  state_first c h t f f' d d' rc rh rt rf rd U B =
      let g = actions_few R in
      new_arrays R c h 0 (start_three s) rc rh (omega arith) t f f' d d' rt rf rd U B
      (subst (λ (v : ℕ). PaddedValues v (start_three s).values) (sym R.read.counters_are) (start_padded s))
      (λ k b l. absurd (omega arith)) (λ k l. absurd (omega arith)) (λ k l. absurd (omega arith)) (λ k l. absurd (omega arith)) (λ k l. absurd (omega arith))
      (working_first (decode s) R.well {row = row_in shape.counters (cells' R c h 0 (start_three s)) (homes' R c h 0 (start_three s))} {t = target_in t} {f = flag_in f'} {d = depth_in d'}
      (new_row R c h 0 (start_three s) rc rh (omega arith) start_covered ∙ ap (region_row (decode s)) start_config)
      (λ b w. let e = U.own b (omega (arith, actions_decoded R)) in omega arith) B.own)

  module _ {c : List ℤ} {h t f d : List ℕ} {n : ℕ} (S : State s shape c h t f d n) where
    -- the first of the rows said to be as deep as they are
    pub state_level : (d' : List ℕ) (k e : ℕ) → k ≤ 255 → ((j : ℕ) → j < k → Deep (sheet_frame (decode s)) n (row_in shape.counters c h) e j) → Levelled d d' k e → State s shape c h t f d' n
    state_level d' k e few E L =
        record {
          cells_room = S.cells_room;
          homes_room = S.homes_room;
          targets_room = S.targets_room;
          flags_room = S.flags_room;
          bounds_room = L.same_length ∙ S.bounds_room;
          working = working_level (decode s) R.well {d' = depth_in d'} e S.working (λ j. ⊎_elim (λ z. inl z) (λ z. inr (z.1, E j z.0)) (L.each j));
          sourced = λ m b l w z q. let e = behind (255 + target_in t m b) (omega arith) in let y = S.sourced m b l w z q in omega arith;
          lowest = λ m l q. let e = behind 510 (omega arith) in S.lowest m l (omega arith);
          located = S.located;
          values_padded = S.values_padded;
          ranges_padded = S.ranges_padded;
        }
      where
        behind : (j : ℕ) → 255 ≤ j → get_or d' j 0 ≡ get_or d j 0
        behind j b = ⊎_elim (λ z. z) (λ z. absurd (omega (arith, z.0))) (L.each j)

    -- rows said to be deeper
    pub state_deeper : (d' : List ℕ) (i : ℕ) → i < n → length d' ≡ length d
        → ((b : ℕ) → b < shape.actions → Reaches (sheet_frame (decode s)) n (row_in shape.counters c h) (depth_in d) (row_in shape.counters c h i) b (target_in t i b))
        → Deepened t d d' shape.actions i → State s shape c h t f d' n
    state_deeper d' i hi l N D =
        record {
          cells_room = S.cells_room;
          homes_room = S.homes_room;
          targets_room = S.targets_room;
          flags_room = S.flags_room;
          bounds_room = l ∙ S.bounds_room;
          working =
              working_deeper (decode s) R.well {d' = depth_in d'} i D.reach S.working hi (λ b w. N b (omega (arith, actions_decoded R)))
              (λ b w. D.reached b (omega (arith, actions_decoded R))) D.own (λ j q. D.others j);
          sourced = λ m b w v z q.
              let few = S.working.few in
              let e = D.others (255 + target_in t m b) (λ u. omega arith) in
              let y = S.sourced m b w v z q in
              omega arith;
          lowest = λ m w q. let few = S.working.few in let e = D.others 510 (λ u. omega arith) in S.lowest m w (omega arith);
          located = S.located;
          values_padded = S.values_padded;
          ranges_padded = S.ranges_padded;
        }

    -- the bounds of a pass: what it raised begins anew, and at its end no flag is up below that
    pub state_fresh : (v : ℕ) → State s shape c h t f (set d 511 v) n
    state_fresh v =
        let few = S.working.few in
        record {
          cells_room = S.cells_room;
          homes_room = S.homes_room;
          targets_room = S.targets_room;
          flags_room = S.flags_room;
          bounds_room = length-set d 511 v ∙ S.bounds_room;
          working = working_depths (decode s) R.well S.working (λ k l. get_or-set_other d 511 k v 0 (λ e. omega arith));
          sourced = λ k b l w z q. let e = get_or-set_other d 511 (255 + target_in t k b) v 0 (λ e. omega arith) in let y = S.sourced k b l w z q in omega arith;
          lowest = λ k l q. let e = get_or-set_other d 511 510 v 0 (λ e. omega arith) in S.lowest k l (omega arith);
          located = S.located;
          values_padded = S.values_padded;
          ranges_padded = S.ranges_padded;
        }

    pub state_swept : (v : ℕ) → ((k : ℕ) → k < n → k < v → DownBelow f k shape.actions) → State s shape c h t f (set d 510 v) n
    state_swept v down =
        let few = S.working.few in
        record {
          cells_room = S.cells_room;
          homes_room = S.homes_room;
          targets_room = S.targets_room;
          flags_room = S.flags_room;
          bounds_room = length-set d 510 v ∙ S.bounds_room;
          working = working_depths (decode s) R.well S.working (λ k l. get_or-set_other d 510 k v 0 (λ e. omega arith));
          sourced = λ k b l w z q. let e = get_or-set_other d 510 (255 + target_in t k b) v 0 (λ e. omega arith) in let y = S.sourced k b l w z q in omega arith;
          lowest = λ k l q. let e = get_or-set_same d 510 v 0 (omega (arith, S.bounds_room)) in down k l (omega arith);
          located = S.located;
          values_padded = S.values_padded;
          ranges_padded = S.ranges_padded;
        }

    -- no flag is up: the table is completed
    pub state_done : ((k : ℕ) → k < n → DownBelow f k shape.actions) → Completed (decode s) n (row_in shape.counters c h) (target_in t)
    state_done z = working_done (decode s) R.well S.working (λ k b l w. z k l b (omega (arith, actions_decoded R)))
