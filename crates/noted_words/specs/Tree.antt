-- What clauses see of notes.
use Rattle.std.specs.Prelude.{List, ℕ, set}

-- the parents and the actions of the entries
pub record Tree : Type 0 where
  pub parents : List ℕ
  pub actions : List ℕ

-- once a parent and an action are noted for entry k
abbrev pub noting : ℕ → ℕ → ℕ → Tree → Tree
noting k parent action t = record { parents = set t.parents k parent; actions = set t.actions k action }
