-- The boxes that the code reads from a sheet which passed check 4 are within bounds.
use Rattle.std.specs.Prelude.{◌≡◌, List, ℕ, ◌<◌, Ok}
use Rattle.integers.specs.LittleEndian.{Bytes}
use Rattle.answer_rules.specs.Stages.{each}
use Rattle.sheet_rules.specs.Layout.{regions_of}
use Rattle.sheet_rules.specs.Form.{check_fields}
use Rattle.sheet_rules.proofs.Fits.{range_fits}
use Rattle.sheet_bytes.specs.Three.{box_three}
use Rattle.sheet_bytes.specs.Bounds.{RangesWithin, box_within}

pub box_fits : (s : List ℕ) → Bytes s → each (check_fields s) (regions_of s) ≡ Ok tt → (i : ℕ) → i < regions_of s → RangesWithin 1000000 (box_three s i).ranges
box_fits s b e i h = box_within s i (λ v k. let F = range_fits s b e i v h k in record { low_within = F.low_fits; high_within = F.high_fits })
