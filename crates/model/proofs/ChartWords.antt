-- The chart of a sheet numbers its blocks as first named, so the words along its first namings are the first that lead the sheet into each block.
use Rattle.std.proofs.Math.Path.{sym}
use Rattle.std.proofs.Common.{◌∙◌, arith}
use Rattle.std.specs.Prelude.{◌↔◌, List, ℕ, ◌≤◌, ◌<◌, T, length}
use Rattle.systems.specs.System.{Alike, at_start, Below}
use Rattle.systems.specs.Words.{ended}
use Rattle.exploration.proofs.Quotient.{quotient_step}
use Rattle.exploration.specs.FirstWords.{NumberedAsNamed, Along, FirstWord}
use Rattle.exploration.proofs.FirstWords.{numbered_same, explored_numbered, first_word, along_below, along_length, ended_reached}
use Rattle.model.specs.Sheet.{Sheet, in_box, sheet_system, Covered, WellFormed}
use Rattle.model.specs.Blocks.{class_of, same_class, blocks, block_at, chart_of}
use Rattle.model.specs.Chart.{chart_system}
use Rattle.model.proofs.ClassTheorem.{class_members, sheet_explorable, reached_covered, blocks_representatives}
use Rattle.model.proofs.ChartBytes.{chart_of_actions}
use Rattle.model.proofs.Rounds.{chart_step_out}
use Rattle.model.proofs.ChartRules.{chart_step_lem, chart_alike, block_alike}

module _ (s : Sheet) (W : WellFormed s) (few : length (blocks s) ≤ 255) where
  -- the chart's blocks are numbered as first named,
  pub chart_numbered : NumberedAsNamed (chart_system (chart_of s)) (length (blocks s))
  unfolding blocks sheet_system chart_system
  chart_numbered =
      numbered_same
      (λ a i h. quotient_step (sheet_system s) (same_class s) s.start (blocks s) a i h ∙ sym (chart_step_lem s W few a i h))
      (explored_numbered (sheet_system s) (same_class s) s.actions s.start (Covered s) (sheet_explorable s W) 255 few)

  -- no two of them are equivalent,
  numbers_apart : (i j : ℕ) → i < j → j < length (blocks s) → Alike (chart_system (chart_of s)) (chart_system (chart_of s)) i j → ⊥
  numbers_apart i j b h r =
      (blocks_representatives s W).apart i j b h (λ w. block_alike s W few i (omega arith) w ∙ r w ∙ sym (block_alike s W few j h w))

  -- so a word along its first namings is the first that leads there.
  pub block_word : (k : ℕ) (w : List ℕ) → k < length (blocks s) → Along (chart_system (chart_of s)) k w
      → FirstWord (sheet_system s) s.start (chart_system (chart_of s)) k w
  block_word k w h A =
      first_word (sheet_system s) s.start chart_numbered (blocks_representatives s W).nonempty (chart_alike s W few) numbers_apart k w h A

  pub word_below : (k : ℕ) (w : List ℕ) → Along (chart_system (chart_of s)) k w → Below s.actions w
  unfolding chart_system
  word_below k w A = along_below chart_numbered (λ a i h. chart_step_out (chart_of s) a i (omega (arith, chart_of_actions s))) A

  pub word_length : (k : ℕ) (w : List ℕ) → k < length (blocks s) → Along (chart_system (chart_of s)) k w → length w ≤ k
  word_length k w h A = along_length chart_numbered h A

  -- What is equivalent to a number is in the block, where a sequence leads from the start.
  pub led_into : (k : ℕ) (w : List ℕ) → k < length (blocks s)
      → Alike (sheet_system s) (chart_system (chart_of s)) (ended (sheet_system s) w s.start) k ↔ T (in_box (class_of s (block_at s k)) (ended (sheet_system s) w s.start))
  led_into k w h =
      let x = ended (sheet_system s) w s.start in
      let m = class_members s W (block_at s k) x ((blocks_representatives s W).covered k h) in
      let b = block_alike s W few k h in (
        λ r. m.1 (reached_covered s W x (ended_reached (sheet_system s) s.start w s.start at_start), λ v. b v ∙ sym (r v)),
        λ t v. sym ((m.0 t).1 v) ∙ b v,
      )
