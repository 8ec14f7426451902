-- The numbering walk over a completed table, step by step, as loops over members and actions do it.
use Rattle.std.specs.Prelude.{ℕ}
use Rattle.model.specs.Sheet.{Sheet}
use Rattle.refinement.specs.Walk.{Numbered, walking}

-- The state of the walk: the arrays hold the list at the moment when action a of member m is looked at, and the list has c members.
pub record Ordering (s : Sheet) (t : ℕ → ℕ → ℕ) (order number : ℕ → ℕ) (c m a : ℕ) : Type 0 where
  pub numbered : Numbered (walking t s.actions m a) order number c
