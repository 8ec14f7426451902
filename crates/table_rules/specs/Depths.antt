-- Depths of rows: what the functions that read and raise them give.
use Rattle.std.specs.Prelude.{◌≡◌, ◌⊎◌, List, ℕ, suc, ◌+◌, ◌≤◌, ◌<◌, length}
use Rattle.table_rules.specs.Arrays.{target_in, depth_in}

-- row t is k deep, or there is none (255)
abbrev pub Within : List ℕ → ℕ → ℕ → Type 0
Within d t k = (t ≡ 255) ⊎ (k ≤ depth_in d t)

-- the actions of row i below a lead to rows that are k deep, or are barred
abbrev pub DeepBelow : List ℕ → List ℕ → ℕ → ℕ → ℕ → Type 0
DeepBelow t d i k a = (b : ℕ) → b < a → Within d (target_in t i b) k

-- Row i was raised to one more than a depth k that all its actions reach, or left.
pub record Deepened (t d d' : List ℕ) (actions i : ℕ) : Type 0 where
  pub reach : ℕ
  pub reached : DeepBelow t d i reach actions
  pub own : (depth_in d' i ≤ depth_in d i) ⊎ (depth_in d' i ≤ suc reach)
  pub others : (j : ℕ) → (j ≡ i → ⊥) → depth_in d' j ≡ depth_in d j

-- the rows below n are at least k deep
abbrev pub AtLeast : List ℕ → ℕ → ℕ → Type 0
AtLeast d n k = (j : ℕ) → j < n → k ≤ depth_in d j

-- Each of the first n depths is as it was, or the given one, and the others are as they were.
pub record Levelled (d d' : List ℕ) (n depth : ℕ) : Type 0 where
  pub same_length : length d' ≡ length d
  pub each : (j : ℕ) → (depth_in d' j ≡ depth_in d j) ⊎ ((j < n) × (depth_in d' j ≡ depth))

-- What is known of all n rows: a depth that was known, or one that each of them has.
pub data SureDepth (d : List ℕ) (n depth : ℕ) : ℕ → Type 0 where
  sure_known : SureDepth d n depth depth
  sure_each : {r : ℕ} → AtLeast d n r → SureDepth d n depth r

-- After a pass of n rows that were so deep before: one deeper or less, where none is new; from 0 on where one is, and the others may keep what they had.
pub data DepthAfter (d d' : List ℕ) (n rows before : ℕ) : ℕ → Type 0 where
  anew : n < rows → Levelled d d' n before → DepthAfter d d' n rows before 0
  deeper : (r : ℕ) → rows ≤ n → d' ≡ d → r ≤ before + 1 → DepthAfter d d' n rows before r
