-- The quotient of a system by equivalence: its members are the numbers of a complete exploration.
use Rattle.std.specs.Prelude.{ℕ, Bool, true, false, ltb, length, get_or, None, option_map}
use mathlib.Core.List.{List}
use Rattle.systems.specs.System.{System}
use Rattle.exploration.specs.Exploration.{place}

-- The system on the indices of a list: i has the label of member i, and an action leads to the place of where it leads from member i.
-- Past the end of the list all actions are barred.
unfoldable pub quotient : {X : Type 0} → System X → (X → X → Bool) → X → List X → System ℕ
quotient s same start l =
    record {
      label = λ i. s.label (get_or l i start);
      step = λ a i. elim (ltb i (length l)) [ true ↦ option_map (place same l) (s.step a (get_or l i start)) | false ↦ None ];
    }
