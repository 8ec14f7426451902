-- The depth at which boxes are exact: if a well-formed sheet has at most n reached classes, then what no sequence of at most depth_bound actions tells
-- apart from a reached configuration is equivalent to it. The bound does not depend on the sheet's ranges, but for how often a number can be doubled in them.
-- The theorem is `depth_exact`, at the end; `depth_class` says it of class boxes.
--
-- The proof. Let y and x run side by side along a distinguishing sequence. At its end some counter v of y is outside its range, and that of x is in it. Along
-- the sequence v's value is a factor times the value of some counter, the source, plus an offset, and at no place is it set, since then y and x would agree.
-- A place on the way has a key: the class of x there, the source there of v's value, the sign of the factor, and how many factors other than 1 and -1 are
-- still to come. There are depth_bound keys. If two places have one key, then the moves between lead the class of x into itself and add a number to the source.
-- A class has ends, so that number is 0, and the sequence without these moves tells y from x as well. So a shortest one has no more moves than there are keys.
use Rattle.std.specs.Prelude.{◌≡◌, length}
use mathlib.Core.List.{List}
use Prim.Native.Nat.{ℕ, suc, ◌*◌, ◌^◌, ◌≤◌, ◌<◌}
use Rattle.integers.specs.Range.{size}
use Rattle.model.specs.declared.Rule.{Rule}
use Rattle.model.specs.Sheet.{Move, Barred, Open, Sheet, region_at}
use Rattle.model.specs.Sheet.{Each}
use Rattle.depth_rules.specs.Composition.{great}

-- a move whose rules have no factor other than 1 and -1
pub data UnitMove : Move → Type 0 where
  unit_barred : UnitMove Barred
  unit_open : {target : ℕ} {rules : List Rule} → Each (λ r. great r ≡ 0) rules → UnitMove (Open target rules)

-- How often the difference of two values of a counter can be multiplied by a factor other than 1 and -1 while both are in its range: no rule has such a
-- factor, or m doublings fill every range.
pub data Doublings (s : Sheet) (m : ℕ) : Type 0 where
  unit_factors : ((i : ℕ) → i < length s.regions → Each UnitMove (region_at s i).moves) → Doublings s m
  narrow_ranges : ((i : ℕ) → i < length s.regions → Each (λ r. size r ≤ 2 ^ m) (region_at s i).box.ranges) → Doublings s m

-- The depth at which boxes are exact, for V# counters, at most n reached classes, and m doublings.
unfoldable pub depth_bound : ℕ → ℕ → ℕ → ℕ
depth_bound V# n m = n * V# * 2 * suc m
