-- Bytes that pass the check decode to a well-formed sheet, so the theorems of the model apply to them; bytes that are refused 5 to 8 decode to one that is not.
use Rattle.std.proofs.Math.Path.{◌≡◌}
use Rattle.std.specs.Prelude.{ℕ, Ok}
use mathlib.Core.List.{List}
use Rattle.answer_rules.specs.Stages.{each}
use Rattle.sheet_rules.specs.Layout.{actions_of, regions_of}
use Rattle.sheet_rules.specs.Shape.{Shaped}
use Rattle.sheet_rules.specs.Form.{check_fields}
use Rattle.sheet_rules.specs.Check.{check_label, check_overlap, check_start, check_landing}

-- What each check leaves of an accepted sheet.
pub record Stages (s : List ℕ) : Type 0 where
  pub shape : Shaped s
  pub fields : each (check_fields s) (regions_of s) ≡ Ok tt
  pub labels : each (check_label s) (regions_of s) ≡ Ok tt
  pub apart : each (check_overlap s) (regions_of s) ≡ Ok tt
  pub start : check_start s ≡ Ok tt
  pub landing : each (λ i. each (check_landing s i) (actions_of s)) (regions_of s) ≡ Ok tt
