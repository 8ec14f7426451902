-- What the arrays stand for: the rows of a table of the model.
use Rattle.std.specs.Prelude.{◌≡◌, Bool, true, false, List, ℕ, ◌+◌, ◌-◌, ◌≤◌, ◌<◌, length, take, drop, ℤ, Option, None, Some}
use Rattle.std.proofs.Math.Path.{sym, ap}
use Rattle.std.proofs.Common.{◌∙◌, arith}
use Rattle.std.proofs.Math.Decide.{ℕ_discrete}
use Rattle.std.proofs.Math.ListN.{get_or}
use Rattle.systems.proofs.Lists.{get_d_each, length_each}
use Rattle.model.specs.Sheet.{Configuration, Region, Barred, in_box, nowhere, region_number, region_of, Covered}
use Rattle.refinement.specs.SheetTable.{move_at}
use Rattle.sheet_bytes.specs.declared.Shape.{Shape}
use Rattle.sheet_bytes.specs.declared.RegionBox.{RegionBox}
use Rattle.sheet_bytes.specs.declared.Config.{Config}
use Rattle.sheet_bytes.specs.declared.RegionMove.{RegionMove}
use Rattle.sheet_rules.specs.Layout.{actions_of, regions_of, move_place, move_part}
use Rattle.sheet_rules.specs.Decode as Decode
use Rattle.sheet_rules.specs.Decode.{decode, move_of}
use Rattle.sheet_bytes.specs.Fields.{rest}
use Rattle.sheet_bytes.specs.Three.{box_meant, config_meant, move_meant, move_three, box_three, box_meant_lem, move_meant_lem}
use Rattle.table_rules.specs.Arrays.{box_in}
use Rattle.table_rules.specs.Meaning.{Ready, holds_in, Found, NoneHolds, move_in}

pub none_holds_more : (V# : ℕ) (c : List ℤ) (h : List ℕ) (x : Config) (n : ℕ) → NoneHolds V# c h x n → holds_in V# c h x n ≡ false → NoneHolds V# c h x (n + 1)
none_holds_more V# c h x n N e k l = go (ℕ_discrete k n)
  where
    go : Dec (k ≡ n) → holds_in V# c h x k ≡ false
    go (yes q) = ap (holds_in V# c h x) q ∙ e
    go (no q) = N k (omega arith)

pub found_here : {V# : ℕ} {c : List ℤ} {h : List ℕ} {x : Config} (n r : ℕ) → r < n → holds_in V# c h x r ≡ true → Found V# c h x n (Some r)
found_here {V#} {c} {h} {x} n r l e =
    record {
      few = λ k q. let z : r ≡ k = cc in omega arith;
      inside = λ k q. let z : k ≡ r = cc in ap (holds_in V# c h x) z ∙ e;
      none = λ q. cc;
    }

pub found_none : {V# : ℕ} {c : List ℤ} {h : List ℕ} {x : Config} (n k : ℕ) → n ≤ k → NoneHolds V# c h x k → Found V# c h x n None
found_none n k l N = record { few = λ k q. cc; inside = λ k q. cc; none = λ e j h. N j (omega arith) }

module _ {s : List ℕ} {shape : Shape} (R : Ready s shape) where
  -- the region of a covered configuration, as the bytes list it
  pub region_listed : (x : Configuration) → Covered (decode s) x → region_of (decode s) x ≡ Decode.region_at s (region_number (decode s) x)
  unfolding region_of decode
  region_listed x c = get_d_each (Decode.region_at s) (regions_of s) nowhere (region_number (decode s) x) (omega (arith, length_each (Decode.region_at s) (regions_of s)))

  pub move_in_lem : (a : ℕ) (x : Configuration) → Covered (decode s) x → a < shape.actions
      → move_meant shape.counters (move_in shape.counters s (region_number (decode s) x) a) ≡ move_at (decode s) a x
  unfolding move_in Decode.region_at Decode.move_at
  move_in_lem a x c h =
      let r = region_number (decode s) x in
      let V# = R.read.counters_are in
      let e = move_meant_lem shape.counters (move_part s r a) (omega (arith, R.read.shaped.counters_few, V#)) in
      e
      ∙ ap (λ (n : ℕ). move_of n (move_part s r a)) V#
      ∙ sym (get_d_each (Decode.move_at s r) (actions_of s) Barred a (omega (arith, R.read.actions_are)))
      ∙ ap (λ (q : Region). get_or q.moves a Barred) (sym (region_listed x c))

  -- the box of a covered configuration's region, as the code reads it
  pub box_in_lem : (x : Configuration) → Covered (decode s) x → box_meant shape.counters (box_three s (region_number (decode s) x)) ≡ (region_of (decode s) x).box
  unfolding Decode.region_at
  box_in_lem x c =
      ap (λ (n : ℕ). box_meant n (box_three s (region_number (decode s) x))) R.read.counters_are ∙ box_meant_lem s R.read.shaped (region_number (decode s) x)
      ∙ ap (λ (q : Region). q.box) (sym (region_listed x c))

  pub covered_few : (x : Configuration) → Covered (decode s) x → region_number (decode s) x < shape.regions
  unfolding decode
  covered_few x c = omega (arith, length_each (Decode.region_at s) (regions_of s), R.read.regions_are)

-- what the code reads
pub holds_read : (V# : ℕ) (c : List ℤ) (h : List ℕ) (x : Config) (k : ℕ) (b : RegionBox) (r : Bool) → b ≡ box_in c h k
    → r ≡ in_box (box_meant V# b) (config_meant V# x) → r ≡ holds_in V# c h x k
holds_read V# c h x k b r e f = f ∙ ap (λ (d : RegionBox). in_box (box_meant V# d) (config_meant V# x)) e

pub move_part_lem : (V# : ℕ) (s : List ℕ) (region a at : ℕ) (m : Option RegionMove) → at ≡ move_place s region a → m ≡ move_three V# (take (length s - at) (drop at s)) → m ≡ move_in V# s region a
unfolding move_in
move_part_lem V# s region a at m e f = f ∙ ap (move_three V#) (rest at s ∙ ap (λ (k : ℕ). drop k s) e)
