-- Class boxes are the classes: what the box of depth k holds is what no sequence of at most k actions tells apart.
use Rattle.std.specs.Prelude.{List, get_or}
use Prim.Native.Nat.{ℕ}
use Rattle.systems.specs.Alike.{Both}
use Rattle.model.specs.Sheet.{Configuration, Move, Barred}
use Rattle.model.specs.Sheet.{moved}

-- what a list of moves does to x and y, move by move, as a relation of where they land
abbrev pub MovesBoth : (Configuration → Configuration → Type 0) → Configuration → Configuration → List Move → Type 0
MovesBoth R x y moves = (a : ℕ) → Both R (moved (get_or moves a Barred) x) (moved (get_or moves a Barred) y)
