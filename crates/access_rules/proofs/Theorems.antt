-- What is promised of the way to a block of a sheet: there is one of fewer actions than there are blocks, it leads there with nothing barred, and no sequence
-- that leads there is before it.
use Rattle.std.specs.Prelude.{◌≡◌, List, ℕ, ◌≤◌, ◌<◌, ltb, length, Err}
use Rattle.std.proofs.Common.{sym, arith, le-ltb}
use Rattle.std.proofs.Math.Path.{ap, subst}
use Rattle.systems.specs.System.{reading}
use Rattle.systems.proofs.Dictionary.{sequence_found}
use Rattle.exploration.specs.FirstWords.{Along}
use Rattle.exploration.proofs.FirstWords.{along_some}
use Rattle.answer_rules.specs.declared.Reason.TheVariants.{Block}
use Rattle.answer_rules.specs.Refusal.{at}
use Rattle.answer_rules.proofs.Stages.{refused, demand_failed}
use Rattle.model.specs.Sheet.{Sheet, sheet_reading, WellFormed}
use Rattle.model.specs.Blocks.{blocks, chart_of}
use Rattle.model.specs.Chart.{chart_system}
use Rattle.model.proofs.ChartWords.{chart_numbered, block_word, word_below, word_length, led_into}
use Rattle.access_rules.specs.Access.{leads_into, or_empty, way_to, request_checks, IsWay}

-- A number that no block has is refused before the buffer is looked at.
pub unknown_first : (n k room : ℕ) → n ≤ k → request_checks n k room ≡ Err (at Block n)
unfolding request_checks
unknown_first n k room h = sym (refused _ (sym (demand_failed (ltb k n) (at Block n) (le-ltb k n h))))

module _ (s : Sheet) (W : WellFormed s) (few : length (blocks s) ≤ 255) (k : ℕ) (h : k < length (blocks s)) where
  -- The word along the first namings of the chart is the way.
  pub along_way : (w : List ℕ) → Along (chart_system (chart_of s)) k w → way_to s k ≡ w
  unfolding way_to or_empty leads_into
  along_way w A =
      let F = block_word s W few k w h A in
      let l = word_length s W few k w h A in
      ap or_empty
      (sequence_found s.actions (length (blocks s)) (leads_into s k) w
      (record { short = omega arith; of_actions = word_below s W few k w A })
      ((led_into s W few k w h).0 F.arrives)
      (λ v t. F.first v ((led_into s W few k v h).1 t)))

  -- There is a way to each block, of at most as many actions as there are other blocks; it arrives with nothing barred, and none is before it.
  pub way_is : IsWay s k (way_to s k)
  unfolding sheet_reading reading
  way_is =
      let (w, A) = along_some (chart_numbered s W few) k h in
      let F = block_word s W few k w h A in
      let l = word_length s W few k w h A in
      subst (IsWay s k) (sym (along_way w A))
      (record {
        of_actions = word_below s W few k w A;
        short = omega arith;
        arrives = (h, (led_into s W few k w h).0 F.arrives);
        unbarred = F.unbarred;
        first = λ v b. F.first v ((led_into s W few k v h).1 b.1);
      })
