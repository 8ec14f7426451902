-- Refusal 8 by counting: an open move takes every configuration of its region into some region exactly when the volumes of the
-- preimages of all regions within it add up to its own.
use Rattle.std.specs.Prelude.{◌≡◌, refl, ◌↔◌, Bool, true, List, [], ◌∷◌, ℕ, ◌+◌, ◌≤◌, ◌<◌, T, eqb, length, ℤ, Ok}
use Rattle.std.proofs.Common.{sym, ap, subst, ◌∙◌, arith}
use Rattle.integers.specs.LittleEndian.{Bytes}
use Rattle.systems.proofs.Laws.{same_test, run_ext}
use Rattle.systems.proofs.Lists.{length_each}
use Rattle.answer_rules.specs.declared.Reason.TheVariants.{Landing}
use Rattle.answer_rules.specs.Refusal.{at}
use Rattle.answer_rules.specs.Stages.{each, demand}
use Rattle.model.specs.declared.Rule.{Rule}
use Rattle.model.specs.Sheet.{Box, Move, Barred, Open, within, in_box, landing, moved, RuleFits, Each, MoveFits, open_fits}
use Rattle.model.specs.Blocks.{volume, preimage}
use Rattle.model.proofs.Boxes.{in_box_parts, preimage_exact}
use Rattle.model.specs.Listing.{values_in, configuration, members}
use Rattle.model.proofs.Finite.{values_in_mem, length_members}
use Rattle.sheet_rules.specs.Layout.{counters_of, actions_of, regions_of, move_place}
use Rattle.sheet_rules.specs.Decode.{range_at, box_at, move_at}
use Rattle.sheet_rules.specs.Shape.{Shaped}
use Rattle.sheet_rules.specs.Form.{check_fields}
use Rattle.sheet_rules.proofs.Fits.{moves_fit}
use Rattle.sheet_rules.specs.Check.{every, lands, covered, check_overlap, check_landing}
use Rattle.sheet_regions.specs.Counting.{count, sum, count_le, count_map, count_ext, count_any, count_within, every_count}
use Rattle.sheet_rules.proofs.Overlap.{regions_apart}

-- how many configurations of a box an open move takes into a wanted box
unfoldable pub share : Box → ℕ → List Rule → Box → ℕ
share b target rules wanted = volume (preimage b target rules wanted).ranges

pub share_count : {V# : ℕ} (b : Box) (target : ℕ) (rules : List Rule) (wanted : Box)
    → Each (RuleFits V#) rules → length rules ≡ length wanted.ranges → length b.ranges ≡ V# → 1 ≤ V#
    → count (λ x. in_box wanted (landing target rules x)) (members b) ≡ share b target rules wanted
unfolding share members preimage
share_count b target rules wanted f l e h =
    count_map (λ x. in_box wanted (landing target rules x)) (configuration b.state) (values_in b.ranges)
    ∙ count_ext (λ ys. in_box wanted (landing target rules (configuration b.state ys))) (within (preimage b target rules wanted).ranges) (values_in b.ranges)
    (λ ys m.
    same_test (in_box wanted (landing target rules (configuration b.state ys))) (within (preimage b target rules wanted).ranges ys) (
      λ t. ((in_box_parts (preimage b target rules wanted) (configuration b.state ys)).0
          ((exact ys).1 ((in_box_parts b (configuration b.state ys)).1 (refl, (values_in_mem b.ranges ys).0 m), t))).1,
      λ t. ((exact ys).0 ((in_box_parts (preimage b target rules wanted) (configuration b.state ys)).1 (refl, t))).1,
    ))
    ∙ count_within (preimage b target rules wanted).ranges b.ranges
    (λ ys t.
    ((in_box_parts b (configuration b.state ys)).0
    ((exact ys).0 ((in_box_parts (preimage b target rules wanted) (configuration b.state ys)).1 (refl, t))).0).1)
  where
    exact : (ys : List ℤ) → T (in_box (preimage b target rules wanted) (configuration b.state ys))
        ↔ (T (in_box b (configuration b.state ys)) × T (in_box wanted (landing target rules (configuration b.state ys))))
    exact ys = preimage_exact b target rules wanted (configuration b.state ys) f l e h

-- the shares of the regions below n
abbrev pub shares : List ℕ → ℕ → ℕ → List Rule → ℕ → ℕ
shares s i target rules n = sum (λ j. share (box_at s i) target rules (box_at s j)) n

-- a sheet that passed checks 4 and 6
pub record Passed (s : List ℕ) : Type 0 where
  pub fields : each (check_fields s) (regions_of s) ≡ Ok tt
  pub apart : each (check_overlap s) (regions_of s) ≡ Ok tt

length_box : (s : List ℕ) (i : ℕ) → length (box_at s i).ranges ≡ counters_of s
unfolding box_at
length_box s i = length_each (range_at s i) (counters_of s)

module _ (s : List ℕ) (S : Shaped s) (P : Passed s) where
  -- the landing configurations of a region, counted region by region
  landing_count : (i target : ℕ) (rules : List Rule) → Each (RuleFits (counters_of s)) rules → length rules ≡ counters_of s
      → count (λ x. covered s (landing target rules x)) (members (box_at s i)) ≡ shares s i target rules (regions_of s)
  landing_count i target rules f l =
      count_any (λ j x. in_box (box_at s j) (landing target rules x)) (regions_of s) (members (box_at s i))
      (λ j k x h m. regions_apart s P.apart j k (landing target rules x) h m)
      ∙ run_ext 0 ◌+◌ (λ j. count (λ x. in_box (box_at s j) (landing target rules x)) (members (box_at s i)))
      (λ j. share (box_at s i) target rules (box_at s j)) (regions_of s)
      (λ j h. share_count (box_at s i) target rules (box_at s j) f (l ∙ sym (length_box s j)) (length_box s i) S.counters_some)

  -- the shares of the regions add up to no more than the region's volume,
  pub shares_le : (i target : ℕ) (rules : List Rule) → Each (RuleFits (counters_of s)) rules → length rules ≡ counters_of s
      → shares s i target rules (regions_of s) ≤ volume (box_at s i).ranges
  shares_le i target rules f l =
      omega
      (arith, landing_count i target rules f l, length_members (box_at s i), count_le (λ x. covered s (landing target rules x)) (members (box_at s i)))

  -- and to the whole exactly when every configuration lands.
  pub landing_every : (i target : ℕ) (rules : List Rule) → Each (RuleFits (counters_of s)) rules → length rules ≡ counters_of s
      → every (λ x. lands s (moved (Open target rules) x)) (members (box_at s i)) ≡ eqb (shares s i target rules (regions_of s)) (volume (box_at s i).ranges)
  unfolding lands moved
  landing_every i target rules f l =
      let e = every_count (λ x. covered s (landing target rules x)) (members (box_at s i)) in
      let a = landing_count i target rules f l in
      let b = length_members (box_at s i) in
      cc

pub every_true : {A : Type 0} (l : List A) → every (λ x. true) l ≡ true
unfolding every
every_true [] = refl
every_true (x ∷ l) = every_true l

-- action a takes every configuration of region i into some region, or is barred there
abbrev pub lands_all : List ℕ → ℕ → ℕ → Bool
lands_all s i a = every (λ x. lands s (moved (move_at s i a) x)) (members (box_at s i))

pub lands_check : (s : List ℕ) (i a : ℕ) → check_landing s i a ≡ demand (lands_all s i a) (at Landing (move_place s i a))
unfolding check_landing
lands_check s i a = refl

-- a barred move passes
pub barred_lands : (s : List ℕ) (i a : ℕ) → move_at s i a ≡ Barred → lands_all s i a ≡ true
unfolding lands moved
barred_lands s i a e = ap (λ (m : Move). every (λ x. lands s (moved m x)) (members (box_at s i))) e ∙ every_true (members (box_at s i))

-- Refusal 8 of an open move, by counting.
pub open_lands : (s : List ℕ) → Shaped s → Bytes s → Passed s → (i a target : ℕ) (rules : List Rule) → i < regions_of s → a < actions_of s
    → move_at s i a ≡ Open target rules
    → lands_all s i a ≡ eqb (shares s i target rules (regions_of s)) (volume (box_at s i).ranges)
open_lands s S b P i a target rules h k e =
    ap (λ (m : Move). every (λ x. lands s (moved m x)) (members (box_at s i))) e
    ∙ go (subst (MoveFits (counters_of s)) e (moves_fit s b P.fields i a h k))
  where
    go : MoveFits (counters_of s) (Open target rules)
        → every (λ x. lands s (moved (Open target rules) x)) (members (box_at s i)) ≡ eqb (shares s i target rules (regions_of s)) (volume (box_at s i).ranges)
    go (open_fits t l f) = landing_every s S P i target rules f l
