-- What a sheet that passed checks 1 to 3 is like: its counts are within limits, and every field lies within its length.
use Rattle.std.specs.Prelude.{◌≡◌, ◌⊎◌, List, ℕ, ◌≤◌, length}
use Rattle.sheet_rules.specs.Layout.{counters_of, actions_of, regions_of, region_place}

pub record Shaped (s : List ℕ) : Type 0 where
  pub counters_some : 1 ≤ counters_of s
  pub counters_few : counters_of s ≤ 3
  pub actions_some : 1 ≤ actions_of s
  pub actions_few : actions_of s ≤ 8
  pub regions_some : 1 ≤ regions_of s
  pub regions_few : regions_of s ≤ 32
  pub length_right : length s ≡ region_place s (regions_of s)

-- a bound takes 2 or 4 bytes
abbrev pub TwoOrFour : ℕ → Type 0
TwoOrFour n = (n ≡ 2) ⊎ (n ≡ 4)
