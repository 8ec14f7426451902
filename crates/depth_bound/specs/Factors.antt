-- Laws by which the code tells whether a sheet has no factor other than 1 and -1.
use Rattle.std.specs.Prelude.{◌≡◌, refl, ◌↔◌, Bool, true, false, List, [], ◌∷◌, ℕ, zero, suc, ◌+◌, ◌≤◌, ◌<◌, eqb, length, get_or, ℤ, pos, negsuc, Option, None, Some}
use Rattle.std.proofs.Common.{sym, subst, ◌∙◌, ⊎_elim, arith, SFits, of_z, to_z, eqb-true}
use Rattle.std.proofs.Math.Path.{ap}
use Rattle.std.specs.Int.{w64}
use Rattle.std.proofs.lemmas.Int.{to_z-of_z}
use Rattle.std.proofs.lemmas.Bool.{eqb-false}
use Rattle.systems.specs.Lists.{collect}
use Rattle.systems.proofs.Lists.{get_d_each, length_each}
use Rattle.systems.proofs.Laws.{below_suc}
use Rattle.model.specs.declared.Rule.{Rule}
use Rattle.model.specs.declared.Rule.TheVariants.{Set, Carry}
use Rattle.model.specs.Sheet.{Barred, Open, Region, nowhere, region_at, Each, each_none, each_more}
use Rattle.model.proofs.Classes.{each_at}
use Rattle.depth_rules.specs.Composition.{great, great_factor}
use Rattle.depth_rules.specs.DepthBound.{UnitMove, unit_barred, unit_open}
use Rattle.sheet_bytes.specs.declared.Shape.{Shape}
use Rattle.sheet_bytes.specs.declared.Rules.{Rules}
use Rattle.sheet_bytes.specs.declared.RegionMove.{RegionMove}
use Rattle.sheet_rules.specs.Layout.{counters_of, actions_of, regions_of, kind_of, move_part}
use Rattle.sheet_rules.specs.Decode as Decode
use Rattle.sheet_rules.specs.Decode.{decode, listed, rule_at, move_of}
use Rattle.sheet_bytes.specs.Three.{Read, firsts, padded, rules_meant, move_meant, rules_three, open_three, move_three}
use Rattle.sheet_rules.proofs.Listed.{each_listed}
use Rattle.depth_bound.specs.Depth.{Tells, UnitRegion, UnitFactors}

-- what an answer tells
pub tells_yes : {P : Type 0} → P → Tells P true
tells_yes p = record { yes = λ e. p; no = λ e. let z : ◌≡◌ {A = ℕ} 0 1 = cc in absurd (omega arith) }

pub tells_no : {P : Type 0} → (P → ⊥) → Tells P false
tells_no n = record { yes = λ e. let z : ◌≡◌ {A = ℕ} 0 1 = cc in absurd (omega arith); no = λ e. n }

tells_as : {P Q : Type 0} {t : Bool} → P ↔ Q → Tells P t → Tells Q t
tells_as e T = record { yes = λ q. e.0 (T.yes q); no = λ q p. T.no q (e.1 p) }

-- what holds below n and at n holds below n + 1
pub below_more : {P : ℕ → Type 0} (n : ℕ) → ((k : ℕ) → k < n → P k) → P n → (k : ℕ) → k < n + 1 → P k
below_more {P} n b h k l = ⊎_elim (λ e. subst P (sym e) h) (λ m. b k m) (below_suc (omega arith))

-- signed numbers of the same bits are the same
bits_same : (x y : ℤ) → SFits w64 x → SFits w64 y → of_z w64 x ≡ of_z w64 y → x ≡ y
bits_same x y p q e = sym (to_z-of_z w64 x p) ∙ ap (to_z w64) e ∙ to_z-of_z w64 y q

-- a rule
abbrev pub UnitRule : Rule → Type 0
UnitRule r = great r ≡ 0

pub set_unit : {rule : Rule} {offset : ℤ} → rule ≡ Set offset → Tells (UnitRule rule) true
unfolding great
set_unit e = tells_yes (ap great e)

pub one_unit : {rule : Rule} {source : ℕ} {factor offset : ℤ} → rule ≡ Carry source factor offset → SFits w64 factor → of_z w64 factor ≡ of_z w64 (pos 1)
    → Tells (UnitRule rule) true
unfolding great great_factor
one_unit {factor} e F b = tells_yes (ap great e ∙ ap great_factor (bits_same factor (pos 1) F (record { sfits = omega arith }) b))

other_great : (f : ℤ) → (f ≡ pos 1 → ⊥) → (f ≡ negsuc 0 → ⊥) → great_factor f ≡ 0 → ⊥
unfolding great_factor
other_great (pos zero) p q e = absurd (omega arith)
other_great (pos (suc zero)) p q e = p refl
other_great (pos (suc (suc n))) p q e = absurd (omega arith)
other_great (negsuc zero) p q e = q refl
other_great (negsuc (suc n)) p q e = absurd (omega arith)

pub minus_tells : {rule : Rule} {source : ℕ} {factor offset : ℤ} → rule ≡ Carry source factor offset → SFits w64 factor → (of_z w64 factor ≡ of_z w64 (pos 1) → ⊥)
    → Tells (UnitRule rule) (eqb (of_z w64 factor) (of_z w64 (negsuc 0)))
unfolding great great_factor
minus_tells {factor} e F n =
    record {
      yes = λ q. ap great e ∙ ap great_factor (bits_same factor (negsuc 0) F (record { sfits = omega arith }) (eqb-true (of_z w64 factor) (of_z w64 (negsuc 0)) q));
      no = λ q h.
          other_great factor (λ g. n (ap (of_z w64) g)) (λ g. eqb-false (of_z w64 factor) (of_z w64 (negsuc 0)) q (ap (of_z w64) g)) (sym (ap great e) ∙ h);
    }

-- three rules
each_three : {A : Type 0} {P : A → Type 0} (x y z : A) → Each P (firsts 3 x y z) ↔ (P x × (P y × P z))
unfolding firsts
each_three {A} {P} x y z = (to, λ h. each_more h.0 (each_more h.1.0 (each_more h.1.1 each_none)))
  where
    to : Each P (x ∷ y ∷ z ∷ []) → P x × (P y × P z)
    to (each_more p (each_more q (each_more r each_none))) = (p, (q, r))

module _ (q : Rules) where
  pub first_not : {t : Bool} → Tells (UnitRule q.first) t → t ≡ false → Tells (Each UnitRule (rules_meant 3 q)) false
  first_not T e = tells_no (λ h. T.no e ((each_three q.first q.second q.third).0 h).0)

  pub second_not : {t : Bool} → Tells (UnitRule q.second) t → t ≡ false → Tells (Each UnitRule (rules_meant 3 q)) false
  second_not T e = tells_no (λ h. T.no e ((each_three q.first q.second q.third).0 h).1.0)

  pub third_tells : {a b t : Bool} → Tells (UnitRule q.first) a → a ≡ true → Tells (UnitRule q.second) b → b ≡ true → Tells (UnitRule q.third) t
      → Tells (Each UnitRule (rules_meant 3 q)) t
  third_tells A e B f T =
      let w = each_three {P = UnitRule} q.first q.second q.third in
      record { yes = λ g. w.1 (A.yes e, (B.yes f, T.yes g)); no = λ g h. T.no g (w.0 h).1.1 }

-- a move
units_open : {target : ℕ} {rules : List Rule} → Each UnitRule rules ↔ UnitMove (Open target rules)
units_open = (unit_open, back)
  where
    back : {target : ℕ} {rules : List Rule} → UnitMove (Open target rules) → Each UnitRule rules
    back (unit_open e) = e

pub barred_tells : {m : Option RegionMove} → m ≡ None → Tells (UnitMove (move_meant 3 m)) true
unfolding move_meant
barred_tells e = subst (λ (m : Option RegionMove). Tells (UnitMove (move_meant 3 m)) true) (sym e) (tells_yes unit_barred)

pub open_tells : {m : Option RegionMove} {q : RegionMove} {t : Bool} → m ≡ Some q → Tells (Each UnitRule (rules_meant 3 q.rules)) t → Tells (UnitMove (move_meant 3 m)) t
unfolding move_meant
open_tells {t = t} e T = subst (λ (m : Option RegionMove). Tells (UnitMove (move_meant 3 m)) t) (sym e) (tells_as units_open T)

-- the rules of counters that the sheet lacks have no factor
padded_units : (f : ℕ → Rule) (n : ℕ) → n ≤ 3 → Each UnitRule (rules_meant 3 (rules_three f n)) ↔ Each UnitRule (listed f n)
unfolding firsts padded collect great
padded_units f zero h = (λ e. each_none, λ e. each_more refl (each_more refl (each_more refl each_none)))
padded_units f (suc zero) h = (
  λ e. each_more (each_at e 0 (Set (pos 0)) (omega arith)) each_none,
  λ e. each_more (each_at e 0 (Set (pos 0)) (omega arith)) (each_more refl (each_more refl each_none)),
)
padded_units f (suc (suc zero)) h = (
  λ e. each_more (each_at e 0 (Set (pos 0)) (omega arith)) (each_more (each_at e 1 (Set (pos 0)) (omega arith)) each_none),
  λ e. each_more (each_at e 0 (Set (pos 0)) (omega arith)) (each_more (each_at e 1 (Set (pos 0)) (omega arith)) (each_more refl each_none)),
)
padded_units f (suc (suc (suc zero))) h = (λ e. e, λ e. e)
padded_units f (suc (suc (suc (suc n)))) h = absurd (omega arith)

move_units : (n : ℕ) (p : List ℕ) → n ≤ 3 → UnitMove (move_meant 3 (move_three n p)) ↔ UnitMove (move_of n p)
unfolding move_meant move_three move_of
move_units n p h = go (eqb (kind_of p) 0)
  where
    go : (b : Bool) → UnitMove (move_meant 3 (elim b [ true ↦ None | false ↦ Some (open_three n p) ]))
        ↔ UnitMove (elim b [ true ↦ Barred | false ↦ Open (get_or p 1 0) (listed (rule_at p) n) ])
    go true = (λ u. u, λ u. u)
    go false =
        let w = padded_units (rule_at p) n h in
        (λ u. units_open.0 (w.0 (units_open.1 u)), λ u. units_open.0 (w.1 (units_open.1 u)))

-- the moves of region i, and the regions
module _ {s : List ℕ} {shape : Shape} (R : Read s shape) where
  pub region_is : (i : ℕ) → i < regions_of s → region_at (decode s) i ≡ Decode.region_at s i
  unfolding decode
  region_is i h = get_d_each (Decode.region_at s) (regions_of s) nowhere i h

  pub regions_count : length (decode s).regions ≡ shape.regions
  unfolding decode
  regions_count = omega (arith, length_each (Decode.region_at s) (regions_of s), R.regions_are)

  moves_are : (i : ℕ) → i < regions_of s → (region_at (decode s) i).moves ≡ listed (Decode.move_at s i) (actions_of s)
  unfolding Decode.region_at
  moves_are i h = ap (λ (r : Region). r.moves) (region_is i h)

  -- what the code tells of the move that it reads
  pub move_tells : (i a : ℕ) {m : Option RegionMove} {t : Bool} → m ≡ move_three (counters_of s) (move_part s i a) → Tells (UnitMove (move_meant 3 m)) t
      → Tells (UnitMove (Decode.move_at s i a)) t
  unfolding Decode.move_at
  move_tells i a {m} {t} e T =
      tells_as (move_units (counters_of s) (move_part s i a) R.shaped.counters_few) (subst (λ (k : Option RegionMove). Tells (UnitMove (move_meant 3 k)) t) e T)

  pub region_not : (i a : ℕ) {t : Bool} → i < regions_of s → a < shape.actions → Tells (UnitMove (Decode.move_at s i a)) t → t ≡ false
      → Tells (UnitRegion (decode s) i) false
  region_not i a h k T e =
      let l : a < actions_of s = omega (arith, R.actions_are) in
      tells_no
      (λ u.
      T.no e
      (subst UnitMove (get_d_each (Decode.move_at s i) (actions_of s) Barred a l)
      (each_at (subst (Each UnitMove) (moves_are i h) u) a Barred (omega (arith, length_each (Decode.move_at s i) (actions_of s))))))

  pub region_unit : (i n : ℕ) → i < regions_of s → shape.actions ≤ n → ((a : ℕ) → a < n → UnitMove (Decode.move_at s i a)) → Tells (UnitRegion (decode s) i) true
  region_unit i n h k u =
      tells_yes (subst (Each UnitMove) (sym (moves_are i h)) (each_listed (Decode.move_at s i) (actions_of s) (λ a l. u a (omega (arith, R.actions_are)))))

  pub factors_not : (i : ℕ) {t : Bool} → i < regions_of s → Tells (UnitRegion (decode s) i) t → t ≡ false → Tells (UnitFactors (decode s)) false
  factors_not i h T e = tells_no (λ u. T.no e (u i (omega (arith, regions_count, R.regions_are))))

  pub factors_unit : (n : ℕ) → shape.regions ≤ n → ((i : ℕ) → i < n → UnitRegion (decode s) i) → Tells (UnitFactors (decode s)) true
  factors_unit n h u = tells_yes (λ i l. u i (omega (arith, regions_count)))
