-- What a step for one action, a turn of a row and the whole refinement give.
use Rattle.std.specs.Prelude.{◌≡◌, refl, true, false, List, ℕ, ◌+◌, ◌*◌, ◌≤◌, ◌<◌, T, length, set, ℤ, Option, None, Some}
use Rattle.std.proofs.Common.{sym, ap, subst, ◌∙◌, inr, add-one, arith}
use Rattle.std.proofs.Math.Decide.{dec_le, ℕ_discrete}
use Rattle.model.specs.Sheet.{in_box, region_number, Covered}
use Rattle.model.specs.Blocks.{too_many}
use Rattle.refinement.specs.Depth.{Shrunk, Deep, AllDeep, Near, Reaches}
use Rattle.refinement.proofs.Depth.{shrunk_refl, shrunk_trans, shrunk_first, deep_shrunk, reaches_kept}
use Rattle.refinement.specs.SheetTable.{Row, sheet_frame, Completed}
use Rattle.refinement.specs.Potential.{measure}
use Rattle.refinement.proofs.Potential.{falling_refl, falling_less, falling_trans}
use Rattle.refinement.specs.Loop.{Advance, rows_potential}
use Rattle.sheet_bytes.specs.declared.Shape.{Shape}
use Rattle.sheet_bytes.specs.declared.Config.{Config}
use Rattle.sheet_bytes.specs.declared.RegionMove.{RegionMove}
use Rattle.sheet_rules.specs.Decode.{decode}
use Rattle.sheet_bytes.specs.Three.{config_meant, start_three}
use Rattle.sheet_bytes.specs.Space.{ValuesWithin, land_three}
use Rattle.sheet_bytes.specs.Bounds.{RangesWithin}
use Rattle.table_rules.specs.Arrays.{CellsRoom, HomesRoom, TargetsRoom, FlagsRoom, BoundsRoom, config_in, ranges_in, region_in, target_in, flag_in, depth_in, fresh_in}
use Rattle.table_rules.specs.Marks.{RowRaised, DownBelow, LastRaised}
use Rattle.table_rules.specs.Depths.{Deepened}
use Rattle.table_rules.specs.Sources.{Begun}
use Rattle.table_rules.specs.Meaning.{Ready, row_in, holds_in, NoneHolds, move_in}
use Rattle.table_rules.specs.Growth.{new_cells, new_homes, RowFor, row_there, row_new, row_none, RowsWith}
use Rattle.table_rules.specs.Cutting.{Cuttable, Settled}
use Rattle.table_passes.specs.State.{State, Fell, OpenAt, actions_few, ranges_bounded, values_bounded, landing_covered, barred_at, stored_there, stored_elsewhere, lowered_there, lowered_falling, state_barred, advance_stopped, advance_quiet, new_other, state_append, open_new, landed_new, state_many, state_deep, state_deeper, state_done, state_first, start_covered}
use Rattle.table_passes.specs.Settling.{Bounded, lowered_bounded, state_settled, advance_settled}

-- the rows of the arrays are each as deep as e says
abbrev pub AllDeepIn : List ℕ → Shape → List ℤ → List ℕ → ℕ → (ℕ → ℕ) → Type 0
AllDeepIn s shape c h n e = AllDeep (sheet_frame (decode s)) n (row_in shape.counters c h) e

-- all rows are k deep
abbrev pub DeepIn : List ℕ → Shape → List ℤ → List ℕ → ℕ → ℕ → Type 0
DeepIn s shape c h n k = AllDeepIn s shape c h n (λ j. k)

-- action b of row i reaches as far as its target t is deep
abbrev pub ReachesIn : List ℕ → Shape → List ℤ → List ℕ → ℕ → (ℕ → ℕ) → ℕ → ℕ → ℕ → Type 0
ReachesIn s shape c h n e i b t = Reaches (sheet_frame (decode s)) n (row_in shape.counters c h) e (row_in shape.counters c h i) b t

-- the potential of the arrays
abbrev pub potential_in : Shape → List ℤ → List ℕ → ℕ → ℕ
potential_in shape c h n = rows_potential n (row_in shape.counters c h)

-- What a change of the arrays does to the rows: those that were there shrink, and a new one where all were 255 deep means too many blocks.
pub record Changed (s : List ℕ) (shape : Shape) (c : List ℤ) (h : List ℕ) (n : ℕ) (c' : List ℤ) (h' : List ℕ) (r : ℕ) : Type 0 where
  pub shrunk : Shrunk (sheet_frame (decode s)) n (row_in shape.counters c h) (row_in shape.counters c' h')
  pub grown : n < r → DeepIn s shape c h n 255 → too_many (decode s) ≡ true

pub changed_none : {s : List ℕ} {shape : Shape} {c : List ℤ} {h : List ℕ} {n : ℕ} → Changed s shape c h n c h n
changed_none {s} = record { shrunk = shrunk_refl (sheet_frame (decode s)); grown = λ l. absurd (omega arith) }

pub changed_trans : {s : List ℕ} {shape : Shape} {c c' c'' : List ℤ} {h h' h'' : List ℕ} {n r q : ℕ} → n ≤ r → r ≤ q → Changed s shape c h n c' h' r
    → Changed s shape c' h' r c'' h'' q → Changed s shape c h n c'' h'' q
changed_trans {s} {shape} {c} {c'} {c''} {h} {h'} {h''} {n} {r} {q} x y A B =
    record {
      shrunk = shrunk_trans (sheet_frame (decode s)) A.shrunk (shrunk_first (sheet_frame (decode s)) x B.shrunk);
      grown = λ l D. go (dec_le r n) l D;
    }
  where
    go : Dec (r ≤ n) → n < q → DeepIn s shape c h n 255 → too_many (decode s) ≡ true
    go (no g) l D = A.grown (omega arith) D
    go (yes g) l D =
        let d : r ≡ n = omega arith in
        B.grown (omega arith) (subst (λ (k : ℕ). DeepIn s shape c' h' k 255) (sym d) (deep_shrunk (sheet_frame (decode s)) A.shrunk D))

-- From one state to another with at least as many rows, by action a of row i. While none is new, the action reaches as far as its target was deep; where the
-- potential stays, its flag is down.
pub record Going (s : List ℕ) (shape : Shape) (c : List ℤ) (h t f d : List ℕ) (n : ℕ) (c' : List ℤ) (h' t' f' d' : List ℕ) (i a r : ℕ) : Type 0 where
  pub more : n ≤ r
  pub state : State s shape c' h' t' f' d' r
  pub fell : Fell shape.counters c h f n c' h' f' r
  pub changed : Changed s shape c h n c' h' r
  pub reaches : r ≡ n → (e : ℕ → ℕ) → AllDeepIn s shape c h n e → ReachesIn s shape c' h' n e i a (target_in t' i a)
  pub kept : (b : ℕ) → b < shape.actions → (b ≡ a → ⊥) → target_in t' i b ≡ target_in t i b
  pub depths_kept : r ≡ n → (k : ℕ) → k < 255 → depth_in d' k ≡ depth_in d k
  pub bounded : r ≡ n → Bounded shape f d n f' d' i a
  pub lowered : potential_in shape c' h' r ≡ potential_in shape c h n → flag_in f' i a ≡ 0

-- A number of rows of which P holds; or none, where they would be more than 255: then the sheet has too many blocks.
pub record OrTooMany (s : List ℕ) (P : ℕ → Type 0) (r : Option ℕ) : Type 0 where
  pub many : r ≡ None → too_many (decode s) ≡ true
  pub rows : (q : ℕ) → r ≡ Some q → P q

pub rows_are : {s : List ℕ} {P : ℕ → Type 0} {q : ℕ} → P q → OrTooMany s P (Some q)
rows_are {P = P} {q = q} p = record { many = λ e. cc; rows = λ k e. let z : q ≡ k = cc in subst P z p }

pub too_many_lem : {s : List ℕ} {P : ℕ → Type 0} → too_many (decode s) ≡ true → OrTooMany s P None
too_many_lem e = record { many = λ k. e; rows = λ q k. cc }

abbrev pub Outcome : List ℕ → Shape → List ℤ → List ℕ → List ℕ → List ℕ → List ℕ → ℕ → List ℤ → List ℕ → List ℕ → List ℕ → List ℕ → ℕ → ℕ → Option ℕ → Type 0
Outcome s shape c h t f d n c' h' t' f' d' i a = OrTooMany s (Going s shape c h t f d n c' h' t' f' d' i a)

-- an action of row i while no row is new
advanced : {s : List ℕ} {shape : Shape} {c c' : List ℤ} {h t f d t' f' d' : List ℕ} {n i a k : ℕ} → State s shape c' h t' f' d' n
    → ((k : ℕ) → k < 255 → depth_in d' k ≡ depth_in d k) → Bounded shape f d n f' d' i a → Fell shape.counters c h f n c' h f' n
    → (potential_in shape c' h n ≡ potential_in shape c h n → flag_in f' i a ≡ 0) → Advance (decode s) n (row_in shape.counters c h) (row_in shape.counters c' h) i a k
    → target_in t' i a ≡ k → ((b : ℕ) → b < shape.actions → (b ≡ a → ⊥) → target_in t' i b ≡ target_in t i b) → Outcome s shape c h t f d n c' h t' f' d' i a (Some n)
advanced {s} {shape} {c} {c'} {h} {d = d} {n = n} {i = i} {a = a} S y B p q A z w =
    rows_are
    (record {
      more = omega arith;
      state = S;
      fell = p;
      changed = record { shrunk = A.shrunk; grown = λ l. absurd (omega arith) };
      reaches = λ g e E. subst (ReachesIn s shape c' h n e i a) (sym z) (A.reaches e E);
      kept = w;
      depths_kept = λ g. y;
      bounded = λ g. B;
      lowered = q;
    })

-- the flag of the action is down: nothing is done
pub quiet_step : {s : List ℕ} {shape : Shape} (R : Ready s shape) {c : List ℤ} {h t f d : List ℕ} {n : ℕ} (i a : ℕ) → State s shape c h t f d n → i < n → a < shape.actions
    → flag_in f i a ≡ 0 → Outcome s shape c h t f d n c h t f d i a (Some n)
quiet_step {s} {shape} R {c} {h} {t} {f} {d} {n} i a S hi ha e =
    advanced S (λ k l. refl) (record { less = omega arith; kept = λ k b l w q z. z; own = λ q. e }) (falling_refl (potential_in shape c h n) (flag_in f) n) (λ q. e) (advance_quiet R S i a hi ha e) refl (λ b w q. refl)

-- the step of a barred action
pub barred_step : {s : List ℕ} {shape : Shape} (R : Ready s shape) {c : List ℤ} {h t f d : List ℕ} {n : ℕ} (i a : ℕ) (S : State s shape c h t f d n) → i < n → a < shape.actions
    → {m : Option RegionMove} → m ≡ move_in shape.counters s (region_in h i) a → m ≡ None
    → Outcome s shape c h t f d n c h (set t (255 * a + i) 255) (set f (255 * a + i) 0) d i a (Some n)
barred_step {s} {shape} R {c} {h} {t} {f} {d} {n} i a S hi ha {m} e q =
    let few = S.working.few in
    let g = actions_few R in
    let o = barred_at R S i a hi ha e q in
    advanced (state_barred R S i a hi ha o) (λ k l. refl) (lowered_bounded R S i a hi ha d (omega arith)) (lowered_falling f n i a (potential_in shape c h n) S.flags_room few hi (omega arith))
    (λ z. lowered_there f i a S.flags_room (omega arith) (omega arith)) (advance_stopped R S i a hi o)
    (stored_there t i a 255 S.targets_room (omega arith) (omega arith)) (λ b w z. stored_elsewhere t n shape.actions i a 255 few hi i b hi w (λ u. z))

-- What a cut of row i by row j asks: the move is open where row i is.
cuttable_by : {s : List ℕ} {shape : Shape} (R : Ready s shape) {c : List ℤ} {h t f d : List ℕ} {n i a : ℕ} → State s shape c h t f d n → {m : RegionMove} → OpenAt s shape c h i a m → (j : ℕ)
    → j < n → Cuttable shape.counters m.rules (ranges_in c j)
cuttable_by R S O j l = record { fits = O.fits; bounded = ranges_bounded R S j l; rules_padded = O.padded; wanted_padded = S.ranges_padded j l }

-- A new row: the state with it, in which its landing is in it.
pub record Appended (s : List ℕ) (shape : Shape) (c : List ℤ) (h t f d : List ℕ) (n i a : ℕ) (m : RegionMove) (c' : List ℤ) (h' f' d' : List ℕ) : Type 0 where
  pub state : State s shape c' h' t f' d' (n + 1)
  pub opens : OpenAt s shape c' h' i a m
  pub lands : holds_in shape.counters c' h' (land_three m (config_in c' h' i)) n ≡ true
  pub less : potential_in shape c' h' (n + 1) < potential_in shape c h n
  pub same : (k : ℕ) → k < n → row_in shape.counters c' h' k ≡ row_in shape.counters c h k
  pub deep : DeepIn s shape c h n 255 → too_many (decode s) ≡ true

-- Row j has where action a leads from row i: a state of r rows with it, and what cutting row i by it will give.
pub record Placed (s : List ℕ) (shape : Shape) (c : List ℤ) (h t f d : List ℕ) (n i a : ℕ) (m : RegionMove) (c' : List ℤ) (h' f' d' : List ℕ) (j r : ℕ) : Type 0 where
  pub state : State s shape c' h' t f' d' r
  pub below : j < r
  pub own_below : i < r
  pub cuttable : Cuttable shape.counters m.rules (ranges_in c' j)
  pub settled : (c'' : List ℤ) (t'' f'' d'' : List ℕ) → t'' ≡ set t (255 * a + i) j → length d'' ≡ length d'
      → Settled m.rules shape.actions c' t'' (set f' (255 * a + i) 0) d' r i j c'' f'' d'' → Outcome s shape c h t f d n c'' h' t'' f'' d'' i a (Some r)

module _ {s : List ℕ} {shape : Shape} (R : Ready s shape) {c c₁ : List ℤ} {h t f d h₁ f₁ d₁ : List ℕ} {n : ℕ} {m : RegionMove} (i a : ℕ) (hi : i < n) (ha : a < shape.actions)
    (A : Appended s shape c h t f d n i a m c₁ h₁ f₁ d₁) where
  -- the rows that were there are as they were
  same_shrunk : Shrunk (sheet_frame (decode s)) n (row_in shape.counters c h) (row_in shape.counters c₁ h₁)
  same_shrunk =
      record {
        represents = λ k b. ap (λ (r : Row). r.representative) (A.same k b);
        inside = λ k b y. subst (λ (r : Row). T (in_box r.box y)) (A.same k b);
      }

  led_new : (c' : List ℤ) (t' f' d' : List ℕ) → t' ≡ set t (255 * a + i) n → length d' ≡ length d₁
      → Settled m.rules shape.actions c₁ t' (set f₁ (255 * a + i) 0) d₁ (n + 1) i n c' f' d' → Outcome s shape c h t f d n c' h₁ t' f' d' i a (Some (n + 1))
  led_new c' t' f' d' et ld E =
      let few = A.state.working.few in
      let Q = state_settled R A.state i a (omega arith) ha A.opens n (omega arith) A.lands c' t' f' d' et ld E in
      let N = advance_settled R A.state i a (omega arith) ha A.opens n (omega arith) A.lands c' t' f' d' E in
      let l = A.less in
      let p = Q.fell.falls in
      rows_are
      (record {
        more = omega arith;
        state = Q.state;
        fell = falling_less (omega arith);
        changed = record {
          shrunk = shrunk_trans (sheet_frame (decode s)) same_shrunk (shrunk_first (sheet_frame (decode s)) (omega arith) N.shrunk);
          grown = λ b D. A.deep D;
        };
        reaches = λ e. absurd (omega arith);
        kept = λ b w z. ap (λ (v : List ℕ). target_in v i b) et ∙ stored_elsewhere t n shape.actions i a n (omega arith) hi i b hi w (λ u. z);
        depths_kept = λ e. absurd (omega arith);
        bounded = λ e. absurd (omega arith);
        lowered = λ e. absurd (omega arith);
      })

  placed_new : Placed s shape c h t f d n i a m c₁ h₁ f₁ d₁ n (n + 1)
  placed_new =
      record { state = A.state; below = omega arith; own_below = omega arith; cuttable = cuttable_by R A.state A.opens n (omega arith); settled = led_new }

module _ {s : List ℕ} {shape : Shape} (R : Ready s shape) {c : List ℤ} {h t f d : List ℕ} {n : ℕ} (S : State s shape c h t f d n) (i a : ℕ) (hi : i < n) (ha : a < shape.actions)
    {m : RegionMove} (O : OpenAt s shape c h i a m) (x y : Config) (ex : x ≡ land_three m y) (ey : y ≡ config_in c h i) where
  next_is : x ≡ land_three m (config_in c h i)
  next_is = ex ∙ ap (land_three m) ey

  pub next_covered : Covered (decode s) (config_meant shape.counters x)
  next_covered = subst (λ (z : Config). Covered (decode s) (config_meant shape.counters z)) (sym next_is) (landing_covered R S i a hi O)

  -- the values of the row's representative are within bounds
  pub values_known : ValuesWithin 1000000 y.values
  values_known = subst (λ (z : Config). ValuesWithin 1000000 z.values) (sym ey) (values_bounded R S i hi)

  -- no row has the landing
  landing_in_none : NoneHolds shape.counters c h x n → (k : ℕ) → k < n → holds_in shape.counters c h (land_three m (config_in c h i)) k ≡ false
  landing_in_none N k q = ap (λ (z : Config). holds_in shape.counters c h z k) (sym next_is) ∙ N k q

  -- it is in row j
  placed_there : (j : ℕ) → j < n → holds_in shape.counters c h x j ≡ true → Placed s shape c h t f d n i a m c h f d j n
  placed_there j l u =
      let few = S.working.few in
      let g = actions_few R in
      let v = ap (λ (z : Config). holds_in shape.counters c h z j) (sym next_is) ∙ u in
      record {
        state = S;
        below = l;
        own_below = hi;
        cuttable = cuttable_by R S O j l;
        settled = λ c' t' f' d' et ld E.
            let Q = state_settled R S i a hi ha O j l v c' t' f' d' et ld E in
            advanced Q.state Q.depths Q.bounded Q.fell Q.lowered (advance_settled R S i a hi ha O j l v c' t' f' d' E)
            (ap (λ (w : List ℕ). target_in w i a) et ∙ stored_there t i a j S.targets_room (omega arith) (omega arith))
            (λ b w z. ap (λ (q : List ℕ). target_in q i b) et ∙ stored_elsewhere t n shape.actions i a j few hi i b hi w (λ k. z));
      }

  -- it was in none, and came as a new row
  appended : (c' : List ℤ) (h' f' d' : List ℕ) → NoneHolds shape.counters c h x n → n < 255 → c' ≡ new_cells shape.counters s c n x → h' ≡ new_homes shape.counters s h n x
      → length f' ≡ length f → RowRaised f f' n → length d' ≡ length d → Begun d d' n → Appended s shape c h t f d n i a m c' h' f' d'
  appended c' h' f' d' N hn ec eh lf U ld B =
      subst (λ (v : List ℤ). Appended s shape c h t f d n i a m v h' f' d') (sym ec)
      (subst (λ (v : List ℕ). Appended s shape c h t f d n i a m (new_cells shape.counters s c n x) v f' d') (sym eh)
      (subst (λ (z : Config). Appended s shape c h t f d n i a m (new_cells shape.counters s c n z) (new_homes shape.counters s h n z) f' d') (sym next_is) base))
    where
      base : Appended s shape c h t f d n i a m (new_cells shape.counters s c n (land_three m (config_in c h i))) (new_homes shape.counters s h n (land_three m (config_in c h i))) f' d'
      base =
          let (Q, p) = state_append R S i a hi O (landing_in_none N) hn f' d' lf U ld B in
          record {
            state = Q;
            opens = open_new R S i a hi O (landing_in_none N) hn;
            lands = landed_new R S i a hi O (landing_in_none N) hn;
            less =
                subst
                (λ (k : ℕ). potential_in shape (new_cells shape.counters s c n (land_three m (config_in c h i))) (new_homes shape.counters s h n (land_three m (config_in c h i))) k < potential_in shape c h n)
                (sym (add-one n)) p;
            same = λ k b. new_other R c h n (land_three m (config_in c h i)) k (λ e. omega arith);
            deep = state_deep R S i a hi O (landing_in_none N);
          }

  -- the row for the landing, among r rows
  pub placed : {c' : List ℤ} {h' f' d' : List ℕ} {o : Option ℕ} {j r : ℕ} → RowFor shape.counters s c h f d n x c' h' f' d' o → o ≡ Some j → length f' ≡ length f → length d' ≡ length d
      → RowsWith n j r → Placed s shape c h t f d n i a m c' h' f' d' j r
  placed {j = j} {r = r} (row_there k l u) q lf ld W =
      let z : k ≡ j = cc in
      let w : n ≡ r = sym (W.old (omega arith)) in
      subst (λ (v : ℕ). Placed s shape c h t f d n i a m c h f d v r) z (subst (Placed s shape c h t f d n i a m c h f d k) w (placed_there k l u))
  placed {c'} {h'} {f'} {d'} {j = j} {r = r} (row_new l N ec eh U B) q lf ld W =
      let z : n ≡ j = cc in
      let w : n + 1 ≡ r = omega (arith, W.one_more (omega arith)) in
      subst (λ (v : ℕ). Placed s shape c h t f d n i a m c' h' f' d' v r) z
      (subst (Placed s shape c h t f d n i a m c' h' f' d' n) w (placed_new R i a hi ha (appended c' h' f' d' N l ec eh lf U ld B)))
  placed (row_none e N) q lf ld W = cc

  -- there is none
  pub led_many : {c' c'' : List ℤ} {h' f' d' h'' t'' f'' d'' : List ℕ} {o : Option ℕ} → RowFor shape.counters s c h f d n x c' h' f' d' o → o ≡ None
      → Outcome s shape c h t f d n c'' h'' t'' f'' d'' i a None
  led_many (row_there j l u) e = cc
  led_many (row_new l N ec eh U B) e = cc
  led_many (row_none q N) e = too_many_lem (state_many R S i a hi O (landing_in_none N) q)

-- What the actions of row i below a do to the flags.
pub record BoundedTo (shape : Shape) (f d : List ℕ) (n : ℕ) (f' d' : List ℕ) (i a : ℕ) : Type 0 where
  pub less : fresh_in d' ≤ fresh_in d
  pub kept : (k b : ℕ) → k < n → b < shape.actions → k < fresh_in d' → flag_in f k b ≡ 0 → flag_in f' k b ≡ 0
  pub own : i < fresh_in d' → DownBelow f' i a

bounded_more : {shape : Shape} {f d f' d' f'' d'' : List ℕ} {n i a : ℕ} → i < n → a < shape.actions → BoundedTo shape f d n f' d' i a → Bounded shape f' d' n f'' d'' i a → BoundedTo shape f d n f'' d'' i (a + 1)
bounded_more {shape} {f} {d} {f'} {d'} {f''} {d''} {n} {i} {a} hi ha A B =
    let x = A.less in
    let y = B.less in
    record {
      less = omega arith;
      kept = λ k b h w q z. B.kept k b h w q (A.kept k b h w (omega arith) z);
      own = λ q b l. go b l (omega arith) q (ℕ_discrete b a);
    }
  where
    go : (b : ℕ) → b < a + 1 → i < fresh_in d' → i < fresh_in d'' → Dec (b ≡ a) → flag_in f'' i b ≡ 0
    go b l p q (yes z) = ap (flag_in f'' i) z ∙ B.own q
    go b l p q (no z) = B.kept i b hi (omega arith) q (A.own p b (omega arith))

-- The turn of row i with the actions below a behind it.
pub record Turning (s : List ℕ) (shape : Shape) (c : List ℤ) (h t f d : List ℕ) (n : ℕ) (c' : List ℤ) (h' t' f' d' : List ℕ) (i a r : ℕ) : Type 0 where
  pub more : n ≤ r
  pub state : State s shape c' h' t' f' d' r
  pub fell : Fell shape.counters c h f n c' h' f' r
  pub changed : Changed s shape c h n c' h' r
  pub reaches : r ≡ n → (e : ℕ → ℕ) → AllDeepIn s shape c h n e → (b : ℕ) → b < a → ReachesIn s shape c' h' n e i b (target_in t' i b)
  pub depths_kept : r ≡ n → (k : ℕ) → k < 255 → depth_in d' k ≡ depth_in d k
  pub bounded : r ≡ n → BoundedTo shape f d n f' d' i a
  pub lowered : potential_in shape c' h' r ≡ potential_in shape c h n → (b : ℕ) → b < a → flag_in f' i b ≡ 0

pub turning_begin : {s : List ℕ} {shape : Shape} {c : List ℤ} {h t f d : List ℕ} {n i : ℕ} → State s shape c h t f d n → Turning s shape c h t f d n c h t f d i 0 n
turning_begin {shape = shape} {c = c} {h = h} {f = f} {n = n} S =
    record {
      more = omega arith;
      state = S;
      fell = falling_refl (potential_in shape c h n) (flag_in f) n;
      changed = changed_none;
      reaches = λ g e E b l. absurd (omega arith);
      depths_kept = λ g k l. refl;
      bounded = λ g. record { less = omega arith; kept = λ k b l w q z. z; own = λ q b l. absurd (omega arith) };
      lowered = λ g b l. absurd (omega arith);
    }

pub turning_on : {s : List ℕ} {shape : Shape} {c c' c'' : List ℤ} {h t f d h' t' f' d' h'' t'' f'' d'' : List ℕ} {n i a r q : ℕ} → i < n → a < shape.actions → shape.actions ≤ 8
    → Turning s shape c h t f d n c' h' t' f' d' i a r → Going s shape c' h' t' f' d' r c'' h'' t'' f'' d'' i a q → Turning s shape c h t f d n c'' h'' t'' f'' d'' i (a + 1) q
turning_on {s} {shape} {c} {c'} {c''} {h} {t} {f} {d} {h'} {t'} {f'} {d'} {h''} {t''} {f''} {d''} {n} {i} {a} {r} {q} hi ha few T G =
    let x = T.more in
    let y = G.more in
    let u = T.fell.falls in
    let v = G.fell.falls in
    record {
      more = omega arith;
      state = G.state;
      fell = falling_trans T.fell G.fell;
      changed = changed_trans x y T.changed G.changed;
      reaches = λ g e E b w. reach G (omega arith) (omega arith) e E b w (ℕ_discrete b a);
      depths_kept = λ g k w. G.depths_kept (omega arith) k w ∙ T.depths_kept (omega arith) k w;
      bounded = λ g. bounded_more hi ha (T.bounded (omega arith)) (subst (λ (k : ℕ). Bounded shape f' d' k f'' d'' i a) (omega arith) (G.bounded (omega arith)));
      lowered = λ g b w. down G (omega arith) (omega arith) x b w (ℕ_discrete b a);
    }
  where
    reach : Going s shape c' h' t' f' d' r c'' h'' t'' f'' d'' i a q → r ≡ n → q ≡ n → (e : ℕ → ℕ) → AllDeepIn s shape c h n e → (b : ℕ) → b < a + 1 → Dec (b ≡ a)
        → ReachesIn s shape c'' h'' n e i b (target_in t'' i b)
    reach G g g' e E b w (yes z) =
        let D = subst (λ (k : ℕ). AllDeepIn s shape c' h' k e) (sym g) (deep_shrunk (sheet_frame (decode s)) T.changed.shrunk E) in
        subst (λ (k : ℕ). ReachesIn s shape c'' h'' n e i k (target_in t'' i k)) (sym z) (subst (λ (k : ℕ). ReachesIn s shape c'' h'' k e i a (target_in t'' i a)) g (G.reaches (omega arith) e D))
    reach G g g' e E b w (no z) =
        let S = subst (λ (k : ℕ). Shrunk (sheet_frame (decode s)) k (row_in shape.counters c' h') (row_in shape.counters c'' h'')) g G.changed.shrunk in
        subst (ReachesIn s shape c'' h'' n e i b) (sym (G.kept b (omega arith) z))
        (reaches_kept (sheet_frame (decode s)) {row = row_in shape.counters c' h'} {row' = row_in shape.counters c'' h''} i hi S (T.reaches g e E b (omega arith)))

    down : Going s shape c' h' t' f' d' r c'' h'' t'' f'' d'' i a q → potential_in shape c'' h'' q ≡ potential_in shape c' h' r → potential_in shape c' h' r ≡ potential_in shape c h n → n ≤ r
        → (b : ℕ) → b < a + 1 → Dec (b ≡ a) → flag_in f'' i b ≡ 0
    down G g g' x b w (yes z) = ap (flag_in f'' i) z ∙ G.lowered g
    down G g g' x b w (no z) = G.fell.flags_down g i b (omega arith) (omega arith) (T.lowered g' b (omega arith))

-- the same while no row is new
pub turning_same : {s : List ℕ} {shape : Shape} {c c' c'' : List ℤ} {h t f d h' t' f' d' h'' t'' f'' d'' : List ℕ} {n i a q : ℕ} → i < n → a < shape.actions → shape.actions ≤ 8
    → Turning s shape c h t f d n c' h' t' f' d' i a n → Going s shape c' h' t' f' d' n c'' h'' t'' f'' d'' i a q → q ≤ n → Turning s shape c h t f d n c'' h'' t'' f'' d'' i (a + 1) n
turning_same {s} {shape} {c} {c'' = c''} {h = h} {t = t} {f = f} {d = d} {h'' = h''} {t'' = t''} {f'' = f''} {d'' = d''} {n = n} {i = i} {a = a} hi ha few T G l =
    let x = G.more in
    subst (Turning s shape c h t f d n c'' h'' t'' f'' d'' i (a + 1)) (omega arith) (turning_on hi ha few T G)

-- What a turn of row i gives: a state in which its flags are down where the potential stays, and, while no row is new, what it reaches.
pub record Turn (s : List ℕ) (shape : Shape) (c : List ℤ) (h f d : List ℕ) (n : ℕ) (c' : List ℤ) (h' t' f' d' : List ℕ) (i r : ℕ) : Type 0 where
  pub more : n ≤ r
  pub state : State s shape c' h' t' f' d' r
  pub fell : Fell shape.counters c h f n c' h' f' r
  pub changed : Changed s shape c h n c' h' r
  pub lowered : potential_in shape c' h' r ≡ potential_in shape c h n → DownBelow f' i shape.actions
  pub bounded : r ≡ n → BoundedTo shape f d n f' d' i shape.actions
  pub near : r ≡ n → (k : ℕ) → DeepIn s shape c h n k → (b : ℕ) → b < shape.actions
      → Near (sheet_frame (decode s)) n (row_in shape.counters c' h') k (row_in shape.counters c' h' i) b

-- That, or too many blocks.
abbrev pub Turned : List ℕ → Shape → List ℤ → List ℕ → List ℕ → List ℕ → ℕ → List ℤ → List ℕ → List ℕ → List ℕ → List ℕ → ℕ → Option ℕ → Type 0
Turned s shape c h f d n c' h' t' f' d' i = OrTooMany s (Turn s shape c h f d n c' h' t' f' d' i)

-- A row is new.
pub turned_new : {s : List ℕ} {shape : Shape} {c c' c'' : List ℤ} {h t f d h' t' f' d' h'' t'' f'' d'' : List ℕ} {n i a q : ℕ} → Turning s shape c h t f d n c' h' t' f' d' i a n
    → Going s shape c' h' t' f' d' n c'' h'' t'' f'' d'' i a q → n < q → Turned s shape c h f d n c'' h'' t'' f'' d'' i (Some q)
turned_new T G l =
    rows_are
    (record {
      more = omega arith;
      state = G.state;
      fell = falling_trans T.fell G.fell;
      changed = changed_trans (omega arith) G.more T.changed G.changed;
      lowered = λ g. let u = T.fell.falls in let w = G.fell.falls in let x = G.fell.rows_stay (omega arith) in absurd (omega arith);
      bounded = λ e. absurd (omega arith);
      near = λ e. absurd (omega arith);
    })

module _ {s : List ℕ} {shape : Shape} (R : Ready s shape) {c c' : List ℤ} {h t f d h' t' f' d' : List ℕ} {n i a r : ℕ} (T : Turning s shape c h t f d n c' h' t' f' d' i a r)
    (e : a ≡ shape.actions) where
  turned_with : (d'' : List ℕ) → fresh_in d'' ≡ fresh_in d' → State s shape c' h' t' f' d'' r → Turned s shape c h f d n c' h' t' f' d'' i (Some r)
  turned_with d'' v S =
      rows_are
      (record {
        more = T.more;
        state = S;
        fell = T.fell;
        changed = T.changed;
        lowered = λ g b w. T.lowered g b (omega arith);
        bounded = λ g.
            let B = T.bounded g in
            let x = B.less in
            record { less = omega arith; kept = λ k b l w q. B.kept k b l w (omega arith); own = λ q b w. B.own (omega arith) b (omega arith) };
        near = λ g k D b w. (T.reaches g (λ j. k) D b (omega arith)).near k (inr (omega arith));
      })

  -- all its actions are done, and it may be said to be deeper
  pub turned : (d'' : List ℕ) → State s shape c h t f d n → i < n → r ≡ n → length d'' ≡ length d' → Deepened t' d' d'' shape.actions i → Turned s shape c h f d n c' h' t' f' d'' i (Some r)
  turned d'' S hi g l D =
      let few = S.working.few in
      turned_with d'' (D.others 511 (λ e. omega arith))
      (state_deeper R T.state d'' i (omega arith) l
      (λ b w.
      subst (λ (k : ℕ). ReachesIn s shape c' h' k (depth_in d') i b (target_in t' i b)) (sym g)
      (T.reaches g (depth_in d')
      (λ k q. subst (λ (v : ℕ). Deep (sheet_frame (decode s)) n (row_in shape.counters c h) v k) (sym (T.depths_kept g k (omega arith))) (S.working.deep k q)) b (omega arith))) D)

-- the measure of the arrays
unfoldable pub measure_in : Shape → List ℤ → List ℕ → List ℕ → ℕ → ℕ
measure_in shape c h f n = measure (potential_in shape c h n) (flag_in f) shape.actions n

-- A state of r rows with no flag up.
pub record Quiet (s : List ℕ) (shape : Shape) (c : List ℤ) (h t f d : List ℕ) (r : ℕ) : Type 0 where
  pub state : State s shape c h t f d r
  pub quiet : (k : ℕ) → k < r → DownBelow f k shape.actions

-- What the refinement gives: that, or too many blocks.
abbrev pub Stable : List ℕ → Shape → List ℤ → List ℕ → List ℕ → List ℕ → List ℕ → Option ℕ → Type 0
Stable s shape c h t f d = OrTooMany s (Quiet s shape c h t f d)

pub stable_many : {s : List ℕ} {shape : Shape} {c : List ℤ} {h t f d : List ℕ} → too_many (decode s) ≡ true → Stable s shape c h t f d None
stable_many e = too_many_lem e

pub stable_now : {s : List ℕ} {shape : Shape} {c : List ℤ} {h t f d : List ℕ} {n : ℕ} {k : Option ℕ} → State s shape c h t f d n → LastRaised f shape.actions n k → k ≡ None
    → Stable s shape c h t f d (Some n)
stable_now S L e = rows_are (record { state = S; quiet = L.none e })

-- The table of a completed refinement: completed, each row with the number of its region, and all bounds within 1,000,000 of zero.
pub record Table (s : List ℕ) (shape : Shape) (c : List ℤ) (h t : List ℕ) (n : ℕ) : Type 0 where
  pub completed : Completed (decode s) n (row_in shape.counters c h) (target_in t)
  pub located : (k : ℕ) → k < n → region_in h k ≡ region_number (decode s) (config_meant shape.counters (config_in c h k))
  pub bounded : (k : ℕ) → k < n → RangesWithin 1000000 (ranges_in c k)

-- What the refinement answers.
abbrev pub Answered : List ℕ → Shape → List ℤ → List ℕ → List ℕ → Option ℕ → Type 0
Answered s shape c h t = OrTooMany s (Table s shape c h t)

pub answer_done : {s : List ℕ} {shape : Shape} (R : Ready s shape) {c : List ℤ} {h t f d : List ℕ} {r : Option ℕ} → Stable s shape c h t f d r → Answered s shape c h t r
answer_done R S =
    record {
      many = S.many;
      rows = λ q e.
          let Q = S.rows q e in
          record { completed = state_done R Q.state Q.quiet; located = Q.state.located; bounded = λ k b. ranges_bounded R Q.state k b };
    }

-- the first state, as the code makes it
pub started_covered : {s : List ℕ} {shape : Shape} (R : Ready s shape) (x : Config) → x ≡ start_three s → Covered (decode s) (config_meant shape.counters x)
started_covered {s} {shape} R x e = subst (λ (y : Config). Covered (decode s) (config_meant shape.counters y)) (sym e) (start_covered R)

pub started : {s : List ℕ} {shape : Shape} (R : Ready s shape) (x : Config) (c : List ℤ) (h t f d : List ℕ) (c' : List ℤ) (h' f' d' : List ℕ) → CellsRoom c → HomesRoom h → TargetsRoom t
    → FlagsRoom f' → BoundsRoom d' → x ≡ start_three s → c' ≡ new_cells shape.counters s c 0 x → h' ≡ new_homes shape.counters s h 0 x → RowRaised f f' 0 → Begun d d' 0
    → State s shape c' h' t f' d' 1
started {s} {shape} R x c h t f d c' h' f' d' rc rh rt rf rd e ec eh U B =
    subst (λ (l : List ℤ). State s shape l h' t f' d' 1) (sym (ec ∙ ap (new_cells shape.counters s c 0) e))
    (subst (λ (l : List ℕ). State s shape (new_cells shape.counters s c 0 (start_three s)) l t f' d' 1) (sym (eh ∙ ap (new_homes shape.counters s h 0) e))
    (state_first R c h t f f' d d' rc rh rt rf rd U B))
