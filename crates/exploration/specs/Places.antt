-- Laws of the place of an element among the members of a list, up to a test. Knows nothing of transition systems.
use Rattle.std.specs.Prelude.{◌≡◌}
use mathlib.Core.List.{List, ◌++◌}

-- m goes on where l ends
pub record Prefix {X : Type 0} (l m : List X) : Type 0 where
  pub rest : List X
  pub is : m ≡ l ++ rest
