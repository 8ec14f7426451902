-- What a reader's calls give together: every block in order, then none for ever; and the chart's bytes back. Statements first.
use Rattle.std.specs.Prelude.{◌≡◌, List, [], ◌++◌, ℕ, zero, suc, ◌≤◌, ◌<◌, take, Option, Some, None, Ok}
use Rattle.integers.specs.LittleEndian.{split}
use Rattle.systems.specs.Lists.{collect}
use Rattle.model.specs.Chart.{actions_of, blocks_of}
use Rattle.reader_rules.specs.declared.Block.{Block}
use Rattle.reader_rules.specs.Reading.{Step, block_step, none_step, step_at, opening_of}

-- the block that is next after k calls of a reader over bytes c where block i was next
unfoldable pub next_from : List ℕ → ℕ → ℕ → ℕ
next_from c i zero = i
next_from c i (suc k) = (step_at c (next_from c i k)).next

-- what its call k hands out, counted from 0
unfoldable pub handed_from : List ℕ → ℕ → ℕ → Step
handed_from c i k = step_at c (next_from c i k)

-- the same of a reader that was just opened
abbrev pub handed_out : List ℕ → ℕ → Step
handed_out c = handed_from c 0

-- The reader opens at block 0. Its calls go through the blocks 0 to N - 1 in order, each as the chart has it, and then none is left, for ever.
pub record InOrder (c : List ℕ) : Type 0 where
  pub opens : opening_of c ≡ Ok 0
  pub blocks : (k : ℕ) → k < blocks_of c → handed_out c k ≡ block_step c k
  pub none_left : (k : ℕ) → blocks_of c ≤ k → handed_out c k ≡ none_step (blocks_of c)

-- the bytes of a block's record in a chart of a actions
unfoldable pub record_of : ℕ → Option Block → List ℕ
record_of a (Some b) = split 2 b.label ++ take a b.targets
record_of a None = []

-- all blocks that a reader hands out, written again under the same header
unfoldable pub rewritten : List ℕ → List ℕ
rewritten c = take 7 c ++ collect (λ k. record_of (actions_of c) (handed_out c k).block) (blocks_of c)
