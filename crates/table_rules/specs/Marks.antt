-- Flags: what the functions that raise and look for them give.
use Rattle.std.specs.Prelude.{◌≡◌, Bool, true, false, List, ℕ, ◌+◌, ◌≤◌, ◌<◌, eqb, length, get_or, Option, None, Some}
use Rattle.table_rules.specs.Arrays.{target_in, flag_in}

-- a flag after a look at one target: up, if that is i
unfoldable pub raised_by : ℕ → ℕ → ℕ → ℕ
raised_by target i old = elim (eqb target i) [ true ↦ 1 | false ↦ old ]

-- The k numbers from a place on are as g says, and the others as they were.
pub record StoredFrom (g : ℕ → ℕ) (f f' : List ℕ) (to k : ℕ) : Type 0 where
  pub same_length : length f' ≡ length f
  pub done : (j : ℕ) → j < k → get_or f' (to + j) 0 ≡ g j
  pub before : (p : ℕ) → p < to → get_or f' p 0 ≡ get_or f p 0
  pub behind : (p : ℕ) → to + k ≤ p → get_or f' p 0 ≡ get_or f p 0

-- The flags of n rows from a place on, after a look at their targets from the same place on.
abbrev pub RaisedAt : List ℕ → ℕ → ℕ → ℕ → List ℕ → List ℕ → Type 0
RaisedAt t at i n f f' = StoredFrom (λ k. raised_by (get_or t (at + k) 0) i (get_or f (at + k) 0)) f f' at n

-- The flags of actions below b, of rows from `from` on, after a look at the targets of these actions; the others are as they were.
pub record RaisedTo (t : List ℕ) (i from n : ℕ) (f f' : List ℕ) (b : ℕ) : Type 0 where
  pub same_length : length f' ≡ length f
  pub pairs : (k c : ℕ) → from ≤ k → k < n → c < b → flag_in f' k c ≡ raised_by (target_in t k c) i (flag_in f k c)
  pub later : (k c : ℕ) → k < n → b ≤ c → flag_in f' k c ≡ flag_in f k c
  pub below : (k c : ℕ) → k < from → k < n → flag_in f' k c ≡ flag_in f k c

-- All flags of row k are up, and those of the others as they were.
pub record RowRaised (f f' : List ℕ) (k : ℕ) : Type 0 where
  pub own : (b : ℕ) → b < 8 → flag_in f' k b ≡ 1
  pub others : (j b : ℕ) → j < 255 → (j ≡ k → ⊥) → flag_in f' j b ≡ flag_in f j b

-- those of the actions below c are
pub record RowRaisedTo (f f' : List ℕ) (k c : ℕ) : Type 0 where
  pub same_length : length f' ≡ length f
  pub own : (b : ℕ) → b < c → flag_in f' k b ≡ 1
  pub others : (j b : ℕ) → j < 255 → (j ≡ k → ⊥) → flag_in f' j b ≡ flag_in f j b

-- no flag of row k for an action below b is up
abbrev pub DownBelow : List ℕ → ℕ → ℕ → Type 0
DownBelow f k b = (c : ℕ) → c < b → flag_in f k c ≡ 0

-- a flag of row k for an action below b is up
abbrev pub UpBelow : List ℕ → ℕ → ℕ → Type 0
UpBelow f k b = (c : ℕ) × (c < b) × (0 < flag_in f k c)

-- Whether a flag of row k is up.
pub record AnyRaised (f : List ℕ) (actions k : ℕ) (r : Bool) : Type 0 where
  pub up : r ≡ true → UpBelow f k actions
  pub down : r ≡ false → DownBelow f k actions

-- Of a search for the last row below n of which a flag is up: it is found, or there is none.
pub record LastRaised (f : List ℕ) (actions n : ℕ) (r : Option ℕ) : Type 0 where
  pub few : (k : ℕ) → r ≡ Some k → k < n
  pub found : (k : ℕ) → r ≡ Some k → UpBelow f k actions
  pub above : (k : ℕ) → r ≡ Some k → (i : ℕ) → k < i → i < n → DownBelow f i actions
  pub none : r ≡ None → (i : ℕ) → i < n → DownBelow f i actions

-- no flag of the rows from k up to n is up
abbrev pub DownFrom : List ℕ → ℕ → ℕ → ℕ → Type 0
DownFrom f actions k n = (i : ℕ) → k ≤ i → i < n → DownBelow f i actions
