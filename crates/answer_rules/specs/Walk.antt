-- The walk of an action sequence on any system: the entries written so far, and what the actions that are left write from where the walk is.
use Rattle.std.specs.Prelude.{◌≡◌, Bool, true, false, Option, Some, None, option_map}
use mathlib.Core.List.{List, ◌++◌}
use Prim.Native.Nat.{ℕ, suc, ◌+◌}
use Rattle.std.proofs.Math.ListN.{length, take, drop}
use Rattle.systems.specs.System.{System, after, entry, written, first_barred, reading}

-- whether an action is barred
unfoldable pub is_barred : {X : Type 0} → Option X → Bool
is_barred None = true
is_barred (Some y) = false

-- What one action did, which gives o at x: y is where it leads, v what it writes, and b says whether it is barred.
pub record Took {X : Type 0} (sys : System X) (x : X) (o : Option X) (y : X) (v : ℕ) (b : Bool) : Type 0 where
  pub leads : y ≡ after x o
  pub writes : v ≡ entry sys o
  pub bars : b ≡ is_barred o

-- the first barred action, by what i actions found and what those after them will
unfoldable pub resumed : Option ℕ → ℕ → Option ℕ → Option ℕ
resumed None i later = option_map (λ n. i + n) later
resumed (Some k) i later = Some k

-- After i actions: the entries written and those that the actions left will write are those of the reading, what was barred first so far is known, and behind
-- the last entry the buffer is as it was.
pub record Walk {X : Type 0} (sys : System X) (start : X) (w old : List ℕ) (i : ℕ) (x : X) (first : Option ℕ) (ls : List ℕ) : Type 0 where
  pub same_length : length ls ≡ length old
  pub rest : drop (suc i) ls ≡ drop (suc i) old
  pub read : (reading sys w start).entries ≡ take (suc i) ls ++ written sys (drop i w) x
  pub barred : (reading sys w start).barred ≡ resumed first i (first_barred sys (drop i w) x)
