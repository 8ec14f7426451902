-- Two sheets have the same chart exactly where they have as many actions and read the same from their starts.
use Rattle.std.specs.Prelude.{◌≡◌, refl, ◌↔◌, List, ℕ, ◌≤◌, ◌<◌, length, get_or, Option, Some, None, option_map}
use Rattle.std.proofs.Math.Path.{sym, ap, subst}
use Rattle.std.proofs.Common.{◌∙◌, arith}
use Rattle.exploration.specs.Exploration.{explore, place}
use Rattle.systems.specs.System.{Alike, Below}
use Rattle.systems.proofs.Alike.{alike_below, alike_label}
use Rattle.exploration.specs.Explored.{Explorable}
use Rattle.exploration.specs.LockStep.{All2}
use Rattle.exploration.proofs.LockStep.{all2_length, all2_at, alike_explore, alike_explore_place}
use Rattle.model.specs.Sheet.{Configuration, Sheet, step, sheet_system, sheet_reading, Covered, WellFormed}
use Rattle.model.specs.Blocks.{same_class, blocks, block_at, target_byte, chart_of}
use Rattle.model.specs.Chart.{chart_reading}
use Rattle.model.proofs.ClassTheorem.{step_bounded, sheet_explorable}
use Rattle.model.specs.ChartBytes.{SameEntries}
use Rattle.model.proofs.ChartBytes.{same_entries}
use Rattle.model.proofs.ChartRules.{chart_reading_lem}
use Rattle.model.specs.ChartEquality.{byte_of}

pub byte_of_place : (s : Sheet) (o : Option Configuration) → target_byte s o ≡ byte_of (option_map (place (same_class s) (blocks s)) o)
unfolding target_byte byte_of
byte_of_place s None = refl
byte_of_place s (Some y) = refl

module _ (s t : Sheet) (W : WellFormed s) (V# : WellFormed t) (e : s.actions ≡ t.actions) where
  explorable : Explorable (sheet_system t) (same_class t) s.actions t.start (Covered t)
  explorable = subst (λ (n : ℕ). Explorable (sheet_system t) (same_class t) n t.start (Covered t)) (sym e) (sheet_explorable t V#)

  -- Sheets with equivalent starts have equivalent blocks, number by number,
  pub blocks_alike : Alike (sheet_system s) (sheet_system t) s.start t.start → All2 (Alike (sheet_system s) (sheet_system t)) (blocks s) (blocks t)
  unfolding blocks
  blocks_alike h =
      subst
      (λ (n : ℕ). All2 (Alike (sheet_system s) (sheet_system t)) (blocks s) (explore (sheet_system t) (same_class t) n t.start 255))
      e
      (alike_explore (sheet_system s) (sheet_system t) (same_class s) (same_class t) s.actions s.start t.start (Covered s) (Covered t)
      (sheet_explorable s W) explorable h 255)

  places_alike : Alike (sheet_system s) (sheet_system t) s.start t.start → (i a : ℕ) → i < length (blocks s)
      → option_map (place (same_class s) (blocks s)) (step s a (block_at s i)) ≡ option_map (place (same_class t) (blocks t)) (step t a (block_at t i))
  unfolding blocks sheet_system
  places_alike h i a b =
      subst
      (λ (n : ℕ).
      option_map (place (same_class s) (blocks s)) (step s a (block_at s i))
      ≡ option_map
      (place (same_class t) (explore (sheet_system t) (same_class t) n t.start 255))
      (step t a (get_or (explore (sheet_system t) (same_class t) n t.start 255) i t.start)))
      e
      (alike_explore_place (sheet_system s) (sheet_system t) (same_class s) (same_class t) s.actions s.start t.start (Covered s) (Covered t)
      (sheet_explorable s W) explorable h 255 i a b)

  -- so the same entries in their charts.
  pub entries_alike : Alike (sheet_system s) (sheet_system t) s.start t.start → SameEntries s t
  unfolding sheet_system
  entries_alike h =
      record {
        actions = e;
        count = all2_length (blocks_alike h);
        labels = λ i b. alike_label (sheet_system s) (sheet_system t) (block_at s i) (block_at t i) (all2_at (blocks_alike h) s.start t.start i b);
        targets =
            λ i a b l.
            byte_of_place s (step s a (block_at s i)) ∙ ap byte_of (places_alike h i a b) ∙ sym (byte_of_place t (step t a (block_at t i)));
      }

  -- sequences of the sheets' actions tell all
  starts_alike : ((w : List ℕ) → Below s.actions w → sheet_reading s w ≡ sheet_reading t w) → Alike (sheet_system s) (sheet_system t) s.start t.start
  unfolding sheet_reading sheet_system
  starts_alike f =
      (alike_below (sheet_system s) (sheet_system t) s.actions (step_bounded s W) (λ a h. step_bounded t V# a (omega arith)) s.start t.start).0 f

-- For two well-formed sheets with at most 255 blocks each: the charts are the same bytes exactly where the sheets have as many
-- actions and every sequence of actions reads the same from the two starts.
pub chart_equality : (s t : Sheet) → WellFormed s → WellFormed t → length (blocks s) ≤ 255 → length (blocks t) ≤ 255
    → (chart_of s ≡ chart_of t) ↔ ((s.actions ≡ t.actions) × ((w : List ℕ) → Below s.actions w → sheet_reading s w ≡ sheet_reading t w))
chart_equality s t W V# few few' = (
  λ p. (
    ((same_entries s t W V# few few').0 p).actions,
    λ w b. sym (chart_reading_lem s W few w) ∙ ap (λ (c : List ℕ). chart_reading c w) p ∙ chart_reading_lem t V# few' w,
  ),
  λ q. (same_entries s t W V# few few').1 (entries_alike s t W V# q.0 (starts_alike s t W V# q.0 q.1)),
)
