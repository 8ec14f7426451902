-- What the code tells of a cut of a row, and of storing it.
use Rattle.std.specs.Prelude.{◌≡◌, Bool, true, false, List, ℕ, ℤ}
use Rattle.sheet_bytes.specs.declared.Ranges.{Ranges}
use Rattle.sheet_bytes.specs.declared.Rules.{Rules}
use Rattle.sheet_bytes.specs.Bounds.{RangesWithin, RulesFit}
use Rattle.sheet_bytes.specs.Cuts.{cuts_three}
use Rattle.table_rules.specs.Arrays.{ranges_in, source_in, put_ranges}
use Rattle.table_rules.specs.Marks.{RaisedTo}
use Rattle.table_rules.specs.Padding.{PaddedRanges, PaddedRules}
use Rattle.table_rules.specs.Sources.{Noting, Opening}

-- an answer whether two things are the same
pub record Same {A : Type 0} (x y : A) (r : Bool) : Type 0 where
  pub yes : r ≡ true → x ≡ y
  pub no : r ≡ false → x ≡ y → ⊥

-- What cutting by rules asks, in a sheet of V counters: all numbers are small, and the counters that the sheet lacks have nothing.
pub record Cuttable (V# : ℕ) (rules : Rules) (wanted : Ranges) : Type 0 where
  pub fits : RulesFit rules
  pub bounded : RangesWithin 1000000 wanted
  pub rules_padded : PaddedRules V# rules
  pub wanted_padded : PaddedRanges V# wanted

-- the ranges that the rules cut row i to, by row j
unfoldable pub cut_to : Rules → List ℤ → ℕ → ℕ → Ranges
cut_to rules c i j = cuts_three rules (ranges_in c j) (ranges_in c i)

-- Whether row i was cut: if not, the cut leaves it as it is; if so, it is stored.
pub record CutRow (rules : Rules) (c c' : List ℤ) (i j : ℕ) (r : Bool) : Type 0 where
  pub kept : r ≡ false → (c' ≡ c) × (cut_to rules c i j ≡ ranges_in c i)
  pub changed : r ≡ true → (c' ≡ put_ranges c i (cut_to rules c i j)) × (cut_to rules c i j ≡ ranges_in c i → ⊥)

-- Row i, now a source of row j, was cut by row j, with all flags raised that must be, or it was as it should be.
pub data Settled (rules : Rules) (actions : ℕ) (c : List ℤ) (t f d : List ℕ) (n i j : ℕ) (c' : List ℤ) (f' d' : List ℕ) : Type 0 where
  settled_same : cut_to rules c i j ≡ ranges_in c i → c' ≡ c → f' ≡ f → Noting d d' i j → Settled rules actions c t f d n i j c' f' d'
  settled_cut : (cut_to rules c i j ≡ ranges_in c i → ⊥) → c' ≡ put_ranges c i (cut_to rules c i j) → Opening d d' i j → RaisedTo t i (source_in d' i) n f f' actions
      → Settled rules actions c t f d n i j c' f' d'
