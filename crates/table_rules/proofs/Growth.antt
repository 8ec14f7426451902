-- The row for a configuration: one that has it, or a new one.
use Rattle.std.specs.Prelude.{◌≡◌, List, ℕ, ◌≤◌, ◌<◌, ℤ, Option, None, Some}
use Rattle.std.proofs.Common.{ap, ◌∙◌, arith}
use Rattle.model.specs.Sheet.{region_number}
use Rattle.sheet_bytes.specs.declared.RegionBox.{RegionBox}
use Rattle.sheet_bytes.specs.declared.Config.{Config}
use Rattle.sheet_rules.specs.Decode.{decode}
use Rattle.sheet_bytes.specs.Three.{config_meant, box_three}
use Rattle.table_rules.specs.Arrays.{put_values, put_ranges, put_home}
use Rattle.table_rules.specs.Meaning.{NoneHolds, Found}
use Rattle.table_rules.specs.Growth.{new_cells, new_homes, RowFor, row_there, row_new, row_none}

-- as the code stores them
pub cells_new : (V# : ℕ) (s : List ℕ) (c d e : List ℤ) (n r : ℕ) (x : Config) (b : RegionBox) → r ≡ region_number (decode s) (config_meant V# x) → b ≡ box_three s r
    → d ≡ put_values c n x.values → e ≡ put_ranges d n b.ranges → e ≡ new_cells V# s c n x
unfolding new_cells
cells_new V# s c d e n r x b p q f g =
    g ∙ ap (λ (l : List ℤ). put_ranges l n b.ranges) f ∙ ap (λ (k : RegionBox). put_ranges (put_values c n x.values) n k.ranges) (q ∙ ap (box_three s) p)

pub homes_new : (V# : ℕ) (s h g : List ℕ) (n r : ℕ) (x : Config) → r ≡ region_number (decode s) (config_meant V# x) → g ≡ put_home h n r x.state → g ≡ new_homes V# s h n x
unfolding new_homes
homes_new V# s h g n r x p f = f ∙ ap (λ (k : ℕ). put_home h n k x.state) p

-- a row fits in
pub room_left : {n : ℕ} → n ≤ 255 → (n ≡ 255 → ⊥) → n < 255
room_left l q = omega arith

-- a search that found none
pub nobody : {V# : ℕ} {c : List ℤ} {h : List ℕ} {x : Config} {n : ℕ} {r : Option ℕ} → Found V# c h x n r → r ≡ None → NoneHolds V# c h x n
nobody F e = F.none e

-- the row that was found or made is one of 255
pub row_few : {V# : ℕ} {s : List ℕ} {c c' : List ℤ} {h f d h' f' d' : List ℕ} {n j : ℕ} {r : Option ℕ} {x : Config} → n ≤ 255 → RowFor V# s c h f d n x c' h' f' d' r → r ≡ Some j → j < 255
row_few {j = j} few (row_there k l u) q = let z : k ≡ j = cc in omega arith
row_few {n = n} {j = j} few (row_new l N ec eh U B) q = let z : n ≡ j = cc in omega arith
row_few few (row_none e N) q = cc
