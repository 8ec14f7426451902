-- What the entries of a reading tell by themselves (document 02, U5): where no label is 65,535, the first barred action. So two readings are equal just when
-- they have the same entries in the same order.
use Rattle.std.specs.Prelude.{ℕ, suc, ◌<◌, true, false, List, [], ◌∷◌, eqb, Option, Some, None, option_map}
use Rattle.systems.specs.System.{System}

-- no label is what a barred action writes
abbrev pub Plain : {X : Type 0} → System X → Type 0
Plain {X} s = (x : X) → s.label x < 65535

-- the index of the first entry that is 65,535, or none
unfoldable pub first_skipped : List ℕ → Option ℕ
first_skipped [] = None
first_skipped (e ∷ l) = elim (eqb e 65535) [ true ↦ Some 0 | false ↦ option_map suc (first_skipped l) ]
