-- What a chart reader hands out (document 01: "A chart reader stands over the caller's bytes and hands out blocks one after another, then says that none is
-- left"). Definitions only.
use Rattle.std.specs.Prelude.{Bool, true, false, ◌&&◌, List, [], ◌∷◌, ℕ, ◌+◌, ltb, Option, Some, None, Result, Ok, Err}
use Rattle.systems.specs.Lists.{collect}
use Rattle.model.specs.Chart.{actions_of, blocks_of, label_of, target_of}
use Rattle.chart_bytes.specs.Header.{header_check}
use Rattle.chart.specs.Check.{chart_check}
use Rattle.answer_rules.specs.declared.Refusal.{Refusal}
use Rattle.answer_rules.specs.Refusal.{Checked}
use Rattle.answer_rules.specs.Stages.{and_then}
use Rattle.reader_rules.specs.declared.Block.{Block}

-- whether a check passed
unfoldable pub is_fine : Checked → Bool
is_fine (Ok _) = true
is_fine (Err why) = false

-- whether the bytes have a block i: header, counts and length are right, and i is below the number of blocks
unfoldable pub has_block : List ℕ → ℕ → Bool
has_block c i = is_fine (header_check c) && ltb i (blocks_of c)

-- eight targets by action: the first n are f 0, f 1, .., and an action past them is barred
unfoldable pub eight_targets : (ℕ → ℕ) → ℕ → List ℕ
eight_targets f n = collect (λ a. elim (ltb a n) [ true ↦ f a | false ↦ 255 ] ∷ []) 8

unfoldable pub targets_of : List ℕ → ℕ → List ℕ
targets_of c i = eight_targets (target_of c i) (actions_of c)

-- block i of a chart
unfoldable pub block_at : List ℕ → ℕ → Block
block_at c i = record { label = label_of c i; targets = targets_of c i }

-- What a call gives: a block, or none where none is left; and the number of the block that is next after it.
pub record Step : Type 0 where
  pub block : Option Block
  pub next : ℕ

-- Block i, and then block i + 1 is next.
unfoldable pub block_step : List ℕ → ℕ → Step
block_step c i = record { block = Some (block_at c i); next = i + 1 }

-- None is left, now and ever after.
unfoldable pub none_step : ℕ → Step
none_step i = record { block = None; next = i }

-- What a reader over bytes c hands out where block i is next.
unfoldable pub step_at : List ℕ → ℕ → Step
step_at c i = elim (has_block c i) [ true ↦ block_step c i | false ↦ none_step i ]

-- The number of the block that is next after a call that handed this out where block i was next.
unfoldable pub after : ℕ → Option Block → ℕ
after i (Some b) = i + 1
after i None = i

-- What opening a reader over bytes c tells: the refusal of the chart's check, or the number of the block that is next, the first.
unfoldable pub opening_of : List ℕ → Result ℕ Refusal
opening_of c = and_then (chart_check c) (Ok 0)
