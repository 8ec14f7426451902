-- How the code's structs of three counters stand for the model's lists: the first V of the three count, and a counter that the sheet
-- lacks has the value 0, the range 0..0 and the rule "set to 0".
use Rattle.std.specs.Prelude.{◌≡◌, refl, Bool, true, false, cond, List, [], ◌∷◌, ℕ, zero, suc, ◌≤◌, ◌<◌, eqb, ltb, get_or, take, ℤ, pos, Option, None, Some}
use Rattle.std.proofs.Common.{ap, arith, lt-ltb, le-ltb}
use Rattle.integers.specs.declared.Range.{Range}
use Rattle.integers.specs.LittleEndian.{Bytes}
use Rattle.systems.specs.Lists.{collect}
use Rattle.model.specs.declared.Rule.{Rule}
use Rattle.model.specs.declared.Rule.TheVariants.{Set}
use Rattle.model.specs.Sheet.{Configuration, Box, Move, Barred, Open}
use Rattle.sheet_bytes.specs.declared.Shape.{Shape}
use Rattle.sheet_bytes.specs.declared.Ranges.{Ranges}
use Rattle.sheet_bytes.specs.declared.RegionBox.{RegionBox}
use Rattle.sheet_bytes.specs.declared.Values.{Values}
use Rattle.sheet_bytes.specs.declared.Config.{Config}
use Rattle.sheet_bytes.specs.declared.Rules.{Rules}
use Rattle.sheet_bytes.specs.declared.RegionMove.{RegionMove}
use Rattle.sheet_rules.specs.Layout.{counters_of, actions_of, regions_of, bound_size, start_state, start_value, state_at, kind_of}
use Rattle.sheet_rules.specs.Decode.{listed, range_at, box_at, rule_at, move_of, start_of}
use Rattle.sheet_rules.specs.Shape.{Shaped}

-- the counts of a sheet and the width of its bounds, in the code's struct
abbrev pub shape_of : List ℕ → Shape
shape_of s = record { counters = counters_of s; actions = actions_of s; regions = regions_of s; width = bound_size s }

-- what readers of a sheet's fields are given: a sheet that passed checks 1 to 3, and its shape
pub record Read (s : List ℕ) (shape : Shape) : Type 0 where
  pub shaped : Shaped s
  pub counters_are : shape.counters ≡ counters_of s
  pub actions_are : shape.actions ≡ actions_of s
  pub regions_are : shape.regions ≡ regions_of s
  pub width_is : shape.width ≡ bound_size s

-- what is known of a sheet whose shape is kept beside its bytes
pub record Known (s : List ℕ) (shape : Shape) : Type 0 where
  pub read : Read s shape
  pub bytes : Bytes s

pub read_of : {s : List ℕ} → Shaped s → Read s (shape_of s)
read_of S = record { shaped = S; counters_are = refl; actions_are = refl; regions_are = refl; width_is = refl }

pub shape_is : {s : List ℕ} {shape : Shape} → Read s shape → shape ≡ shape_of s
shape_is R = λ j. record { counters = R.counters_are j; actions = R.actions_are j; regions = R.regions_are j; width = R.width_is j }

-- the first n of three
unfoldable pub firsts : {A : Type 0} → ℕ → A → A → A → List A
firsts n x y z = take n (x ∷ y ∷ z ∷ [])

-- what the structs stand for, in a sheet of n counters
abbrev pub ranges_meant : ℕ → Ranges → List Range
ranges_meant n r = firsts n r.first r.second r.third

abbrev pub values_meant : ℕ → Values → List ℤ
values_meant n x = firsts n x.first x.second x.third

abbrev pub rules_meant : ℕ → Rules → List Rule
rules_meant n r = firsts n r.first r.second r.third

abbrev pub box_meant : ℕ → RegionBox → Box
box_meant n b = record { state = b.state; ranges = ranges_meant n b.ranges }

abbrev pub config_meant : ℕ → Config → Configuration
config_meant n x = record { state = x.state; values = values_meant n x.values }

unfoldable pub move_meant : ℕ → Option RegionMove → Move
move_meant n None = Barred
move_meant n (Some m) = Open m.target (rules_meant n m.rules)

-- f v for a counter v of the n, else d
unfoldable pub padded : {A : Type 0} → A → (ℕ → A) → ℕ → ℕ → A
padded d f n v = cond (ltb v n) (f v) d

pub padded_in : {A : Type 0} (d : A) (f : ℕ → A) (n v : ℕ) → v < n → padded d f n v ≡ f v
unfolding padded
padded_in d f n v h = rw (lt-ltb v n h) refl

pub padded_out : {A : Type 0} (d : A) (f : ℕ → A) (n v : ℕ) → n ≤ v → padded d f n v ≡ d
unfolding padded
padded_out d f n v h = rw (le-ltb v n h) refl

abbrev pub zero_range : Range
zero_range = record { low = pos 0; high = pos 0 }

abbrev pub zero_rule : Rule
zero_rule = Set (pos 0)

-- the fields of a sheet in the code's structs
abbrev pub ranges_three : (ℕ → Range) → ℕ → Ranges
ranges_three f n = record { first = padded zero_range f n 0; second = padded zero_range f n 1; third = padded zero_range f n 2 }

unfoldable pub box_three : List ℕ → ℕ → RegionBox
box_three s i = record { state = state_at s i; ranges = ranges_three (range_at s i) (counters_of s) }

abbrev pub start_padded : List ℕ → ℕ → ℤ
start_padded s v = padded (pos 0) (start_value s) (counters_of s) v

unfoldable pub start_three : List ℕ → Config
start_three s = record { state = start_state s; values = record { first = start_padded s 0; second = start_padded s 1; third = start_padded s 2 } }

abbrev pub rules_three : (ℕ → Rule) → ℕ → Rules
rules_three f n = record { first = padded zero_rule f n 0; second = padded zero_rule f n 1; third = padded zero_rule f n 2 }

abbrev pub open_three : ℕ → List ℕ → RegionMove
open_three n p = record { target = get_or p 1 0; rules = rules_three (rule_at p) n }

-- kind 0 is barred, 1 is open
unfoldable pub move_three : ℕ → List ℕ → Option RegionMove
move_three n p = elim (eqb (kind_of p) 0) [ true ↦ None | false ↦ Some (open_three n p) ]

-- the first n of three that were padded are the list of all n
pub firsts_padded : {A : Type 0} (d : A) (f : ℕ → A) (n : ℕ) → n ≤ 3 → firsts n (padded d f n 0) (padded d f n 1) (padded d f n 2) ≡ listed f n
unfolding firsts padded collect
firsts_padded d f zero h = refl
firsts_padded d f (suc zero) h = refl
firsts_padded d f (suc (suc zero)) h = refl
firsts_padded d f (suc (suc (suc zero))) h = refl
firsts_padded d f (suc (suc (suc (suc n)))) h = absurd (omega arith)

-- The structs that the readers give stand for the fields of the model's sheet.
module _ (s : List ℕ) (S : Shaped s) where
  pub box_meant_lem : (i : ℕ) → box_meant (counters_of s) (box_three s i) ≡ box_at s i
  unfolding box_three box_at
  box_meant_lem i = let e = firsts_padded zero_range (range_at s i) (counters_of s) S.counters_few in λ j. record { state = state_at s i; ranges = e j }

  pub start_meant : config_meant (counters_of s) (start_three s) ≡ start_of s
  unfolding start_three start_of
  start_meant = let e = firsts_padded (pos 0) (start_value s) (counters_of s) S.counters_few in λ j. record { state = start_state s; values = e j }

pub move_meant_lem : (n : ℕ) (p : List ℕ) → n ≤ 3 → move_meant n (move_three n p) ≡ move_of n p
unfolding move_meant move_three move_of
move_meant_lem n p h = go (eqb (kind_of p) 0)
  where
    go : (b : Bool) → ◌≡◌ {A = Move} (move_meant n (elim b [ true ↦ None | false ↦ Some (open_three n p) ]))
        (elim b [ true ↦ Barred | false ↦ Open (get_or p 1 0) (listed (rule_at p) n) ])
    go true = refl
    go false = ap (Open (get_or p 1 0)) (firsts_padded zero_rule (rule_at p) n h)

-- an open move is what its record says
pub open_read : (n : ℕ) (p : List ℕ) {m : RegionMove} → move_three n p ≡ Some m → m ≡ open_three n p
unfolding move_three
open_read n p {m} e = go (eqb (kind_of p) 0) e
  where
    go : (b : Bool) → ◌≡◌ {A = Option RegionMove} (elim b [ true ↦ None | false ↦ Some (open_three n p) ]) (Some m) → m ≡ open_three n p
    go true q = cc
    go false q = cc
