-- How far from zero the numbers of a sheet are, and what cuts of its boxes ask.
use Rattle.std.specs.Prelude.{◌≡◌, refl, Bool, true, false, cond, List, ℕ, ◌≤◌, ◌<◌, ltb}
use Rattle.std.proofs.Common.{ltb-true}
use Rattle.integers.specs.Range.{RangeWithin}
use Rattle.integers.proofs.RangeLaws.{within_zero}
use Rattle.model.specs.declared.Rule.{Rule}
use Rattle.model.specs.Sheet.{RuleFits, set_fits, Each}
use Rattle.sheet_bytes.specs.declared.Ranges.{Ranges}
use Rattle.sheet_bytes.specs.declared.Rules.{Rules}
use Rattle.sheet_rules.specs.Layout.{counters_of}
use Rattle.sheet_rules.specs.Decode.{listed, range_at}
use Rattle.sheet_rules.proofs.Listed.{each_of}
use Rattle.sheet_bytes.specs.Three.{padded, zero_range, zero_rule, rules_three, box_three}
use Rattle.sheet_bytes.specs.Cuts.{fits_wider}

-- three ranges within n of zero
pub record RangesWithin (n : ℕ) (b : Ranges) : Type 0 where
  pub first_within : RangeWithin n b.first
  pub second_within : RangeWithin n b.second
  pub third_within : RangeWithin n b.third

-- three rules within their limits
pub record RulesFit (r : Rules) : Type 0 where
  pub first_fits : RuleFits 3 r.first
  pub second_fits : RuleFits 3 r.second
  pub third_fits : RuleFits 3 r.third

-- a property of all n and of the padding is one of those that were padded
padded_each : {A : Type 0} (P : A → Type 0) (d : A) (f : ℕ → A) (n v : ℕ) → P d → ((k : ℕ) → k < n → P (f k)) → P (padded d f n v)
unfolding padded
padded_each P d f n v z h = go (ltb v n) refl
  where
    go : (t : Bool) → ltb v n ≡ t → P (cond t (f v) d)
    go true e = h v (ltb-true v n e)
    go false e = z

-- a box whose ranges are within bounds
pub box_within : (s : List ℕ) (i : ℕ) → ((v : ℕ) → v < counters_of s → RangeWithin 1000000 (range_at s i v)) → RangesWithin 1000000 (box_three s i).ranges
unfolding box_three
box_within s i h = record { first_within = fits 0; second_within = fits 1; third_within = fits 2 }
  where
    fits : (v : ℕ) → RangeWithin 1000000 (padded zero_range (range_at s i) (counters_of s) v)
    fits v =
        padded_each (RangeWithin 1000000) zero_range (range_at s i) (counters_of s) v (record { low_within = within_zero 1000000; high_within = within_zero 1000000 }) h

-- rules that fit, fit in three
pub rules_fit : (f : ℕ → Rule) (n : ℕ) → n ≤ 3 → Each (RuleFits n) (listed f n) → RulesFit (rules_three f n)
rules_fit f n h e = record { first_fits = fits 0; second_fits = fits 1; third_fits = fits 2 }
  where
    fits : (v : ℕ) → RuleFits 3 (padded zero_rule f n v)
    fits v = padded_each (RuleFits 3) zero_rule f n v (set_fits (within_zero 200000000)) (λ k l. fits_wider h (each_of f n e k l))
