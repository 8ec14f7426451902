-- What a sheet means (document 01, "What a sheet means"). Definitions only.
use Rattle.std.specs.Prelude.{◌≡◌, Bool, true, false, ◌&&◌, List, [], ◌∷◌, ℕ, zero, suc, ◌≤◌, ◌<◌, T, eqb, length, get_or, ℤ, pos, ◌≤ℤ◌, Option, Some, None}
use Rattle.integers.specs.declared.Range.{Range}
use Rattle.integers.specs.Range.{contains, Within}
use Rattle.integers.specs.Inverse.{carried}
use Rattle.systems.specs.System.{System, Reading, reading}
use Rattle.model.specs.declared.Rule.{Rule}
use Rattle.model.specs.declared.Rule.TheVariants.{Set, Carry}

-- A configuration: a control state and a value for each counter.
pub record Configuration : Type 0 where
  pub state : ℕ
  pub values : List ℤ

-- A box: one control state and a range for each counter.
pub record Box : Type 0 where
  pub state : ℕ
  pub ranges : List Range

-- A move, what an action does in a region: barred, or open, with the target state and a rule for each counter.
pub data Move : Type 0 where
  Barred : Move
  Open : ℕ → List Rule → Move

-- A region: a label, its box, and a move for each action.
pub record Region : Type 0 where
  pub label : ℕ
  pub box : Box
  pub moves : List Move

-- A sheet: how many counters and actions it has, its regions and its start.
pub record Sheet : Type 0 where
  pub counters : ℕ
  pub actions : ℕ
  pub regions : List Region
  pub start : Configuration

-- each value lies in its range
unfoldable pub within : List Range → List ℤ → Bool
within [] [] = true
within [] (x ∷ xs) = false
within (r ∷ rs) [] = false
within (r ∷ rs) (x ∷ xs) = contains r x && within rs xs

-- the configuration is in the box
unfoldable pub in_box : Box → Configuration → Bool
in_box b x = eqb b.state x.state && within b.ranges x.values

-- what a configuration outside every region has: label 0, and every action barred
abbrev pub nowhere : Region
nowhere = record { label = 0; box = record { state = 0; ranges = [] }; moves = [] }

-- the number of the first region with the configuration, or the number of regions where there is none
unfoldable pub place_in : List Region → Configuration → ℕ
place_in [] x = zero
place_in (r ∷ rs) x = elim (in_box r.box x) [ true ↦ zero | false ↦ suc (place_in rs x) ]

unfoldable pub region_number : Sheet → Configuration → ℕ
region_number s x = place_in s.regions x

unfoldable pub region_of : Sheet → Configuration → Region
region_of s x = get_or s.regions (region_number s x) nowhere

-- the new value that a rule gives from the old values
unfoldable pub applied : Rule → List ℤ → ℤ
applied (Set offset) old = offset
applied (Carry source factor offset) old = carried factor offset (get_or old source (pos 0))

-- the new values: all rules read the old ones
unfoldable pub updated : List Rule → List ℤ → List ℤ
updated [] old = []
updated (r ∷ rs) old = applied r old ∷ updated rs old

-- the configuration that an open move leads to
unfoldable pub landing : ℕ → List Rule → Configuration → Configuration
landing target rules x = record { state = target; values = updated rules x.values }

-- what a move gives: nothing where it is barred
unfoldable pub moved : Move → Configuration → Option Configuration
moved Barred x = None
moved (Open target rules) x = Some (landing target rules x)

-- what an action gives. An action past the sheet's number is barred.
unfoldable pub step : Sheet → ℕ → Configuration → Option Configuration
step s a x = moved (get_or (region_of s x).moves a Barred) x

-- The sheet's transition system. Its readings are document 01's.
unfoldable pub sheet_system : Sheet → System Configuration
sheet_system s = record { label = λ x. (region_of s x).label; step = step s }

-- The same with region numbers in the place of labels. Its readings are called traces.
unfoldable pub region_system : Sheet → System Configuration
region_system s = record { label = region_number s; step = step s }

-- the reading of an action sequence from the sheet's start
unfoldable pub sheet_reading : Sheet → List ℕ → Reading
sheet_reading s w = reading (sheet_system s) w s.start

-- A rule within its limits: V counters, factor -100 to 100 and not 0, offset within 200,000,000 of zero
-- (the limits of sheet version 2; those of version 1 are narrower).
pub data RuleFits (V# : ℕ) : Rule → Type 0 where
  set_fits : {offset : ℤ} → Within 200000000 offset → RuleFits V# (Set offset)
  carry_fits : {source : ℕ} {factor offset : ℤ} → source < V# → (factor ≡ pos 0 → ⊥) → Within 100 factor → Within 200000000 offset
      → RuleFits V# (Carry source factor offset)

pub record RangeFits (r : Range) : Type 0 where
  pub ordered : r.low ≤ℤ r.high
  pub low_fits : Within 1000000 r.low
  pub high_fits : Within 1000000 r.high

-- each element of a list has a property
pub data Each {A : Type 0} (P : A → Type 0) : List A → Type 0 where
  each_none : Each P []
  each_more : {a : A} {l : List A} → P a → Each P l → Each P (a ∷ l)

pub data MoveFits (V# : ℕ) : Move → Type 0 where
  barred_fits : MoveFits V# Barred
  open_fits : {target : ℕ} {rules : List Rule} → target < 256 → length rules ≡ V# → Each (RuleFits V#) rules → MoveFits V# (Open target rules)

-- A region within its limits. Its label is not 65,535, which a reading has in the place of a label where an action is barred.
pub record RegionFits (V# A# : ℕ) (r : Region) : Type 0 where
  pub label_fits : r.label < 65535
  pub state_fits : r.box.state < 256
  pub ranges_count : length r.box.ranges ≡ V#
  pub ranges_fit : Each RangeFits r.box.ranges
  pub moves_count : length r.moves ≡ A#
  pub moves_fit : Each (MoveFits V#) r.moves

abbrev pub region_at : Sheet → ℕ → Region
region_at s i = get_or s.regions i nowhere

-- the configuration is in some region
abbrev pub Covered : Sheet → Configuration → Type 0
Covered s x = region_number s x < length s.regions

-- A well-formed sheet: what the checks of document 01 leave.
pub record WellFormed (s : Sheet) : Type 0 where
  pub counters_some : 1 ≤ s.counters
  pub counters_few : s.counters ≤ 3
  pub actions_some : 1 ≤ s.actions
  pub actions_few : s.actions ≤ 8
  pub regions_few : length s.regions ≤ 32
  pub regions_fit : Each (RegionFits s.counters s.actions) s.regions
  pub labels_distinct : (i j : ℕ) → i < j → j < length s.regions → (region_at s i).label ≡ (region_at s j).label → ⊥
  pub regions_disjoint : (i j : ℕ) (x : Configuration) → i < j → j < length s.regions
      → T (in_box (region_at s i).box x) → T (in_box (region_at s j).box x) → ⊥
  pub start_covered : Covered s s.start
  pub moves_land : (x y : Configuration) (a : ℕ) → Covered s x → step s a x ≡ Some y → Covered s y
