-- The state of the refinement loop, and what each of its steps does to it: the laws that the code's loop invariants are made of.
use Rattle.std.specs.Prelude.{ℕ, ◌≤◌, ◌<◌, ◌≡◌}
use Rattle.model.specs.Sheet.{Sheet}
use Rattle.refinement.specs.Table.{Sound}
use Rattle.refinement.specs.Flags.{Quiet}
use Rattle.refinement.specs.SheetTable.{Row, sheet_frame}
use Rattle.refinement.specs.Depth.{Shrunk, AllDeep, Reaches}
use Rattle.refinement.specs.Potential.{potential}
use Rattle.refinement.specs.Widths.{row_width, widest}

-- The state of the loop: a sound table of at most 255 rows, in which every action whose flag is down is stable with its stored target, and each row is as deep
-- as is said of it.
pub record Working (s : Sheet) (n : ℕ) (row : ℕ → Row) (t f : ℕ → ℕ → ℕ) (d : ℕ → ℕ) : Type 0 where
  pub few : n ≤ 255
  pub sound : Sound (sheet_frame s) n row
  pub quiet : Quiet (sheet_frame s) n row t f
  pub deep : AllDeep (sheet_frame s) n row d

-- the potential of n rows
abbrev pub rows_potential : ℕ → (ℕ → Row) → ℕ
rows_potential n row = potential widest (λ k. row_width (row k)) n

-- the rows are as they were but for row i
abbrev pub OtherRows : ℕ → ℕ → (ℕ → Row) → (ℕ → Row) → Type 0
OtherRows n i row row' = (k : ℕ) → k < n → (k ≡ i → ⊥) → row' k ≡ row k

-- What an action of row i does to the rows while no row is new: they shrink, and row i reaches as far as its target was deep.
pub record Advance (s : Sheet) (n : ℕ) (row row' : ℕ → Row) (i a t : ℕ) : Type 0 where
  pub shrunk : Shrunk (sheet_frame s) n row row'
  pub reaches : (e : ℕ → ℕ) → AllDeep (sheet_frame s) n row e → Reaches (sheet_frame s) n row' e (row' i) a t
