use mathlib.Core.Path.{◌≡◌}
use mathlib.Core.Bool.{true}
use Prim.Native.Nat.{◌-◌, ◌≤◌}
use Rattle.systems.specs.Search.{all}
use Rattle.chart_bytes.specs.Classes.{same_at}
use Rattle.chart_rounds.proofs.agrees.Given as goal

abbrev pub invariant-loop-a : goal.invariant-loop-a
invariant-loop-a l = (l.a ≤ l.actions) × (all (same_at l.c l.f l.i l.j) l.a ≡ true)

abbrev pub decreases-loop-a : goal.decreases-loop-a
decreases-loop-a l = l.actions - l.a
