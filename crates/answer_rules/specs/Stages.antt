-- Checks in stages: the first error wins.
use Rattle.std.specs.Prelude.{Bool, true, false, ℕ, Result, Ok, Err, ⊤}
use Rattle.systems.specs.Search.{run}

-- the first stage's error, or else the second stage
unfoldable pub and_then : {T E : Type 0} → Result ⊤ E → Result T E → Result T E
and_then (Ok _) b = b
and_then (Err e) b = Err e

-- an error where the test fails
unfoldable pub demand : {E : Type 0} → Bool → E → Result ⊤ E
demand true e = Ok tt
demand false e = Err e

-- the first error of the stages 0, 1, .., n - 1
abbrev pub each : {E : Type 0} → (ℕ → Result ⊤ E) → ℕ → Result ⊤ E
each = run (Ok tt) and_then
