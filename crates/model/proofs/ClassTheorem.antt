-- The class theorem: the class box of a configuration holds what is covered and equivalent to it, for sequences of whatever length.
use Rattle.std.specs.Prelude.{◌≡◌, refl, ◌↔◌, ℕ, ◌≤◌, length, get_or, None}
use Rattle.std.proofs.Common.{sym, ap, ◌∙◌, arith}
use Rattle.std.proofs.Math.Path.{subst}
use Rattle.std.proofs.Math.Decide.{dec_lt}
use Rattle.std.proofs.Math.Dec.{T}
use Rattle.std.proofs.Math.ListN.{get_or-eq_default}
use Rattle.systems.specs.System.{Alike, Reached, at_start, by_step}
use Rattle.systems.specs.Alike.{AlikeTo}
use Rattle.systems.proofs.Alike.{alike_to_zero, alike_to_le, alike_depths, alike_refl, alike_sym, alike_trans}
use Rattle.exploration.specs.Explored.{Explorable, Representatives}
use Rattle.exploration.proofs.Explored.{explore_representatives}
use Rattle.exploration.specs.Moore.{Tested}
use Rattle.exploration.proofs.Moore.{alike_length}
use Rattle.model.specs.Sheet.{Configuration, Box, Sheet, in_box, region_of, nowhere, Move, Barred, moved, step, Region, region_number, Covered, sheet_system, region_system, WellFormed}
use Rattle.model.specs.Blocks.{class_box, configurations, class_of, same_class, blocks}
use Rattle.model.proofs.Boxes.{in_box_parts, inside_length, inside_fits, within_ordered, box_inside, box_ext}
use Rattle.model.proofs.Classes.{region_box, region_fits, class_exact, traces_readings, traces_alike}
use Rattle.model.specs.Listing.{listing}
use Rattle.model.proofs.Finite.{listing_mem, length_listing}
use Rattle.model.specs.ClassTheorem.{ClassFits}

-- an action past the sheet's number is barred
pub step_bounded : (s : Sheet) → WellFormed s → (a : ℕ) → s.actions ≤ a → (x : Configuration) → step s a x ≡ None
unfolding step region_of moved
step_bounded s W a h x = go (dec_lt (region_number s x) (length s.regions))
  where
    go : Dec (Covered s x) → moved (get_or (region_of s x).moves a Barred) x ≡ None
    go (yes c) = let R = region_fits s W x c in ap (λ (m : Move). moved m x) (get_or-eq_default (region_of s x).moves Barred (omega arith))
    go (no c) = ap (λ (r : Region). moved (get_or r.moves a Barred) x) (get_or-eq_default s.regions nowhere (omega arith))

module _ (s : Sheet) (W : WellFormed s) where
  -- the class boxes test equivalence to each depth on the sheet's configurations, which no step leaves
  pub classes_tested : Tested (region_system s) (listing s) (λ k x y. in_box (class_box s k x) y)
  unfolding region_system
  classes_tested =
      record {
        closed = λ a x y m e. (listing_mem s y).1 (W.moves_land x y a ((listing_mem s x).0 m) e);
        tells =
            λ k x y m n.
            let c = class_exact s W k x y ((listing_mem s x).0 m) in
            (λ t. (c.0 t).1, λ t. c.1 ((listing_mem s y).0 n, t));
      }

  -- The class box of depth k holds what is covered and reads the same for every sequence of at most k actions.
  pub class_depth : (k : ℕ) (x y : Configuration) → Covered s x
      → T (in_box (class_box s k x) y) ↔ (Covered s y × AlikeTo k (sheet_system s) (sheet_system s) x y)
  class_depth k x y h =
      let c = class_exact s W k x y h in (
        λ t. let (d, f) = c.0 t in (d, (traces_readings s W k x y h d).0 f),
        λ (d, f). c.1 (d, (traces_readings s W k x y h d).1 f),
      )

  -- The class theorem: the class of x holds what is covered and equivalent to x.
  pub class_members : (x y : Configuration) → Covered s x → T (in_box (class_of s x) y) ↔ (Covered s y × Alike (sheet_system s) (sheet_system s) x y)
  unfolding class_of
  class_members x y h =
      let c = class_exact s W (configurations s) x y h in (
        λ t.
            let (d, f) = c.0 t in
            let g = subst (λ (n : ℕ). AlikeTo n (region_system s) (region_system s) x y) (sym (length_listing s)) f in (
              d,
              (traces_alike s W x y h d).0
                  (alike_length (region_system s) (listing s) (λ k x y. in_box (class_box s k x) y) classes_tested x y ((listing_mem s x).1 h) ((listing_mem s y).1 d) g),
            ),
        λ (d, f). c.1 (d, (alike_depths (region_system s) (region_system s) x y).0 ((traces_alike s W x y h d).1 f) (configurations s)),
      )

  -- The same as a test: covered configurations are of one class exactly where they are equivalent.
  pub class_alike : (x y : Configuration) → Covered s x → Covered s y → T (same_class s x y) ↔ Alike (sheet_system s) (sheet_system s) x y
  unfolding same_class
  class_alike x y h d = let c = class_members x y h in (λ t. (c.0 t).1, λ f. c.1 (d, f))

  -- a configuration is in its class
  pub class_self : (x : Configuration) → Covered s x → T (in_box (class_of s x) x)
  class_self x h = (class_members x x h).1 (h, alike_refl (sheet_system s) x)

  -- Equivalent configurations have one class box, and only those have.
  pub class_eq : (x y : Configuration) → Covered s x → Covered s y → T (same_class s x y) ↔ (class_of s x ≡ class_of s y)
  unfolding same_class
  class_eq x y h d = (to, λ e. subst (λ (b : Box). T (in_box b y)) (sym e) (class_self y d))
    where
      to : T (in_box (class_of s x) y) → class_of s x ≡ class_of s y
      to t =
          let S = sheet_system s in
          let f = ((class_members x y h).0 t).1 in
          box_ext (class_of s x) (class_of s y) x (class_self x h) (λ z. (
            λ u. let (c, g) = (class_members x z h).0 u in (class_members y z d).1 (c, alike_trans S S S y x z (alike_sym S S x y f) g),
            λ u. let (c, g) = (class_members y z d).0 u in (class_members x z h).1 (c, alike_trans S S S x y z f g),
          ))

  -- What is in the class box of x, of whatever depth, is in the box of its region,
  pub class_region : (k : ℕ) (x y : Configuration) → Covered s x → T (in_box (class_box s k x) y) → T (in_box (region_of s x).box y)
  unfolding region_system
  class_region k x y h t =
      let S = region_system s in
      (region_box s W x y h).1 ((alike_to_zero S S x y).0 (alike_to_le S S x y (omega arith) ((class_exact s W k x y h).0 t).1))

  -- x is in it,
  pub class_holds : (k : ℕ) (x : Configuration) → Covered s x → T (in_box (class_box s k x) x)
  class_holds k x h = (class_depth k x x h).1 (h, λ w l. refl)

  -- and as a box it is within the limits.
  pub depth_fits : (k : ℕ) (x : Configuration) → Covered s x → ClassFits s x (class_box s k x)
  depth_fits k x h =
      let t = class_holds k x h in
      let (e, w) = (in_box_parts (class_box s k x) x).0 t in
      let (d, i) = box_inside (class_box s k x) (region_of s x).box x t (λ y. class_region k x y h) in
      let R = region_fits s W x h in
      record {
        state_own = e;
        ranges_count = inside_length i ∙ R.ranges_count;
        ranges_fit = inside_fits i (within_ordered (class_box s k x).ranges x.values w) R.ranges_fit;
        ranges_inside = i;
      }

  pub class_fits : (x : Configuration) → Covered s x → ClassFits s x (class_of s x)
  unfolding class_of
  class_fits x h = depth_fits (configurations s) x h

  -- So a sheet's blocks can be explored by their class boxes.
  pub sheet_explorable : Explorable (sheet_system s) (same_class s) s.actions s.start (Covered s)
  unfolding sheet_system
  sheet_explorable = record { starts = W.start_covered; closed = λ a x y. W.moves_land x y a; tells = class_alike; bounded = step_bounded s W }

  -- A reached configuration is covered.
  pub reached_covered : (x : Configuration) → Reached (sheet_system s) s.start x → Covered s x
  reached_covered x at_start = sheet_explorable.starts
  reached_covered x (by_step {x = y} a r e) = sheet_explorable.closed a y x (reached_covered y r) e

  -- The blocks are representatives: reached, no two of them equivalent, and the start is the first.
  pub blocks_representatives : Representatives (sheet_system s) s.start (Covered s) (blocks s)
  unfolding blocks
  blocks_representatives = explore_representatives (sheet_system s) (same_class s) s.actions s.start (Covered s) sheet_explorable 255
