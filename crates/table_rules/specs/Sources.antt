-- Lowest sources and the bounds on rows with a flag up: what the functions that lower them give.
use Rattle.std.specs.Prelude.{◌≡◌, List, ℕ, ◌≤◌, ◌<◌, get_or}
use Rattle.table_rules.specs.Arrays.{depth_in, source_in, first_in, fresh_in}

-- The number at a place was lowered to k, if it was above that.
pub record LoweredAt (d d' : List ℕ) (at k : ℕ) : Type 0 where
  pub own : get_or d' at 0 ≤ k
  pub less : get_or d' at 0 ≤ get_or d at 0
  pub others : (p : ℕ) → (p ≡ at → ⊥) → get_or d' p 0 ≡ get_or d p 0

-- Row i is noted as a source of row j: depths stay, and nothing rises.
pub record Noting (d d' : List ℕ) (i j : ℕ) : Type 0 where
  pub noted : source_in d' j ≤ i
  pub sources : (k : ℕ) → k < 255 → source_in d' k ≤ source_in d k
  pub depths : (k : ℕ) → k < 255 → depth_in d' k ≡ depth_in d k
  pub first : first_in d' ≤ first_in d
  pub fresh : fresh_in d' ≤ fresh_in d

-- Flags from the lowest source of row i on were raised besides.
pub record Opening (d d' : List ℕ) (i j : ℕ) : Type 0 where
  pub notes : Noting d d' i j
  pub first_from : first_in d' ≤ source_in d' i
  pub fresh_from : fresh_in d' ≤ source_in d' i

-- Row n begins: at depth 0, with flags up.
pub record Begun (d d' : List ℕ) (n : ℕ) : Type 0 where
  pub own : depth_in d' n ≡ 0
  pub depths : (k : ℕ) → k < n → depth_in d' k ≡ depth_in d k
  pub sources : (k : ℕ) → k < n → source_in d' k ≡ source_in d k
  pub first_own : first_in d' ≤ n
  pub first : first_in d' ≤ first_in d
