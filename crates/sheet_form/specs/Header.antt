-- How the code's tests of a header meet the checks 1 to 3.
use Rattle.std.specs.Prelude.{◌≡◌, refl, Bool, true, false, ◌&&◌, List, [], ◌∷◌, ℕ, ◌≤◌, ◌<◌, eqb, leb, length, take, nat_eq, Err}
use Rattle.std.specs.List.{starts_with}
use Rattle.std.proofs.Common.{sym, subst, ap, le-leb, ◌∙◌}
use Rattle.std.proofs.lemmas.Bool.{lt-leb}
use Rattle.std.proofs.lemmas.Cmp.{nat_list_eq_equiv}
use lib.Pointwise.{pointwise}
use Rattle.answer_rules.specs.declared.Reason.TheVariants.{Header, Length}
use Rattle.answer_rules.specs.Refusal.{Checked, at}
use Rattle.answer_rules.specs.Stages.{and_then, demand}
use Rattle.answer_rules.proofs.Loops.{demand_no}
use Rattle.sheet_bytes.specs.declared.Shape.{Shape}
use Rattle.sheet_rules.specs.Layout.{sheet_mark, version_of, counters_of, actions_of, regions_of, bound_size, place_by, region_place}
use Rattle.sheet_rules.proofs.Shape.{two_or_four, width_few}
use Rattle.sheet_bytes.specs.Three.{shape_of}
use Rattle.sheet_bytes.specs.Fields.{Small}
use Rattle.sheet_rules.specs.Form.{same_bytes, from_to, check_header, check_length}

-- the mark, by std's comparison of bytes
pointwise_bytes : (k l : List ℕ) → pointwise nat_eq k l ≡ same_bytes k l
unfolding same_bytes
pointwise_bytes [] [] = refl
pointwise_bytes [] (b ∷ l) = refl
pointwise_bytes (a ∷ k) [] = refl
pointwise_bytes (a ∷ k) (b ∷ l) = ap (λ (t : Bool). eqb a b && t) (pointwise_bytes k l)

pub marked : (s : List ℕ) → starts_with nat_eq s sheet_mark ≡ same_bytes (take 3 s) sheet_mark
marked s = nat_list_eq_equiv.symm sheet_mark (take 3 s) ∙ pointwise_bytes (take 3 s) sheet_mark

-- two stages with the same refusal
both_demanded : {E : Type 0} (a b : Bool) (e : E) → and_then (demand a e) (demand b e) ≡ demand (a && b) e
unfolding and_then demand
both_demanded true b e = refl
both_demanded false b e = refl

-- the length, the mark and the version one by one
pub header_stages : (s : List ℕ) {r : Checked}
    → r ≡ and_then (demand (leb 9 (length s)) (at Header 0)) (and_then (demand (same_bytes (take 3 s) sheet_mark) (at Header 0)) (demand (from_to 1 2 (version_of s)) (at Header 0)))
    → r ≡ check_header s
unfolding check_header
header_stages s h =
    h
    ∙ ap (and_then (demand (leb 9 (length s)) (at Header 0))) (both_demanded (same_bytes (take 3 s) sheet_mark) (from_to 1 2 (version_of s)) (at Header 0))
    ∙ both_demanded (leb 9 (length s)) (same_bytes (take 3 s) sheet_mark && from_to 1 2 (version_of s)) (at Header 0)

pub header_short : (s : List ℕ) → length s < 9 → Err (at Header 0) ≡ check_header s
unfolding check_header
header_short s h = demand_no (ap (λ (t : Bool). t && (same_bytes (take 3 s) sheet_mark && from_to 1 2 (version_of s))) (lt-leb 9 (length s) h))

-- a count against its two limits
pub from_low : (m n x : ℕ) → m ≤ x → leb x n ≡ from_to m n x
from_low m n x h = rw (le-leb m x h) refl

pub from_below : (m n x : ℕ) → x < m → false ≡ from_to m n x
from_below m n x h = rw (lt-leb m x h) refl

-- the length that the shape gives
pub length_read : (s : List ℕ) {shape : Shape} (k : ℕ) {r : Checked} → shape ≡ shape_of s → k ≡ place_by shape.width shape.counters shape.actions shape.regions
    → r ≡ demand (eqb (length s) k) (at Length (length s)) → r ≡ check_length s
unfolding check_length region_place
length_read s k e d h =
    h ∙ ap (λ (n : ℕ). demand (eqb (length s) n) (at Length (length s))) (d ∙ ap (λ (x : Shape). place_by x.width x.counters x.actions x.regions) e)

-- counts within limits give a shape of small places
pub shape_small : (s : List ℕ) {shape : Shape} → shape ≡ shape_of s → (counters_of s ≤ 3) × (actions_of s ≤ 8) × (regions_of s ≤ 32) → Small shape
shape_small s e (v, a, r) =
    subst Small (sym e)
    (record { counters_small = v; actions_small = a; regions_small = r; width_small = (width_few (bound_size s) (two_or_four s)).1 })
