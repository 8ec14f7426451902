-- Structs of three counters in a sheet of V: what counters that the sheet lacks have, that landings and cuts keep it, and what follows for bounds and meaning.
use Rattle.std.specs.Prelude.{◌≡◌, ℕ, ◌≤◌, pos}
use Rattle.sheet_bytes.specs.declared.Ranges.{Ranges}
use Rattle.sheet_bytes.specs.declared.Values.{Values}
use Rattle.sheet_bytes.specs.declared.Rules.{Rules}
use Rattle.sheet_bytes.specs.Three.{zero_range, zero_rule}

pub record PaddedValues (V# : ℕ) (x : Values) : Type 0 where
  pub second_zero : V# ≤ 1 → x.second ≡ pos 0
  pub third_zero : V# ≤ 2 → x.third ≡ pos 0

pub record PaddedRanges (V# : ℕ) (r : Ranges) : Type 0 where
  pub second_zero : V# ≤ 1 → r.second ≡ zero_range
  pub third_zero : V# ≤ 2 → r.third ≡ zero_range

pub record PaddedRules (V# : ℕ) (r : Rules) : Type 0 where
  pub second_zero : V# ≤ 1 → r.second ≡ zero_rule
  pub third_zero : V# ≤ 2 → r.third ≡ zero_rule
