-- The theorems that the product rests on, on the definitions: classes are what reads alike, the blocks are the minimal reachable graph, the chart obeys its
-- rules and reads what the sheet reads, charts are equal just when the behaviour is, and entries tell it. Statements first, then their proofs.
use Rattle.std.specs.Prelude.{◌≡◌, refl, ◌↔◌, true, List, ℕ, ◌≤◌, ◌<◌, length}
use Rattle.std.proofs.Common.{sym, ap, ◌∙◌}
use borrow.Author.Tests.{ltb-true, lt-ltb}
use Rattle.systems.specs.System.{Reached, reading, Alike}
use Rattle.systems.proofs.Alike.{alike_bisimulation, bisimilar_alike}
use Rattle.systems.proofs.Entries.{entries_tell}
use Rattle.exploration.specs.Explored.{Many}
use Rattle.exploration.proofs.Explored.{explored, explored_one, refused}
use Rattle.model.specs.Sheet.{Configuration, Sheet, sheet_system, Covered, WellFormed}
use Rattle.model.specs.Blocks.{same_class, blocks, block_at, too_many}
use Rattle.model.specs.Chart.{chart_system, ChartRules}
use Rattle.model.proofs.ClassTheorem.{class_members, sheet_explorable, reached_covered, blocks_representatives}
use Rattle.model.proofs.Labels.{sheet_plain, chart_plain}
use Rattle.model.proofs.ChartRules as Rules
use Rattle.model.proofs.ChartEquality.{chart_equality}
use Rattle.model.specs.Theorems.{ClassesExact, LargestBisimulation, InBlock, MinimalReachable, ChartRight, ChartsTell, SheetEntries, ChartEntries}

module _ (s : Sheet) (W : WellFormed s) where
  pub classes_exact : ClassesExact s
  classes_exact x y c d =
      let e = class_members s W x y c in
      (λ t. (e.0 t).1, λ a. e.1 (d, a))

  pub largest_bisimulation : LargestBisimulation s
  largest_bisimulation =
      record {
        has_both = alike_bisimulation (sheet_system s) (sheet_system s);
        contains_all = λ R B x y r. bisimilar_alike (sheet_system s) (sheet_system s) B x y r;
      }

  -- what is in a block reads as its representative
  in_block : (i : ℕ) (x : Configuration) → InBlock s i x → Covered s x × Alike (sheet_system s) (sheet_system s) (block_at s i) x
  in_block i x (h, t) = (class_members s W (block_at s i) x ((blocks_representatives s W).covered i h)).0 t

  index_of : (x : Configuration) → length (blocks s) ≤ 255 → Reached (sheet_system s) s.start x
      → (i : ℕ) × (i < length (blocks s)) × Alike (sheet_system s) (sheet_system s) (block_at s i) x
  unfolding blocks
  index_of x few r = explored (sheet_system s) (same_class s) s.actions s.start (Covered s) (sheet_explorable s W) 255 few x r

  same_index : (x : Configuration) (i j : ℕ) → i < length (blocks s) → j < length (blocks s) → Alike (sheet_system s) (sheet_system s) (block_at s i) x
      → Alike (sheet_system s) (sheet_system s) (block_at s j) x → i ≡ j
  unfolding blocks
  same_index x i j h k p q = explored_one (sheet_system s) (same_class s) s.actions s.start (Covered s) (sheet_explorable s W) 255 x i j h k p q

  many : (255 < length (blocks s)) ↔ Many (sheet_system s) s.start 256
  unfolding blocks
  many = refused (sheet_system s) (same_class s) s.actions s.start (Covered s) (sheet_explorable s W) 255

  too_many_lem : (too_many s ≡ true) ↔ (255 < length (blocks s))
  unfolding too_many
  too_many_lem = (λ e. ltb-true 255 (length (blocks s)) e, λ h. lt-ltb 255 (length (blocks s)) h)

  pub minimal_reachable : MinimalReachable s
  minimal_reachable =
      record {
        start_first = (blocks_representatives s W).first;
        blocks_reached = λ i h.
            ((blocks_representatives s W).reached i h, (h, (class_members s W (block_at s i) (block_at s i) ((blocks_representatives s W).covered i h)).1 ((blocks_representatives s W).covered i h, λ w. refl)));
        reached_blocks = λ few x r.
            let (i, h, p) = index_of x few r in
            (i, (h, (class_members s W (block_at s i) x ((blocks_representatives s W).covered i h)).1 (reached_covered s W x r, p)));
        one_block = λ i j x p q. same_index x i j p.0 q.0 (in_block i x p).1 (in_block j x q).1;
        shared_block = λ i j x y p q. shared i j x y p q;
        boxes_exact = λ i x h. class_members s W (block_at s i) x ((blocks_representatives s W).covered i h);
        refused_many = (λ e. many.0 (too_many_lem.0 e), λ m. too_many_lem.1 (many.1 m));
      }
    where
      shared : (i j : ℕ) (x y : Configuration) → InBlock s i x → InBlock s j y
          → (i ≡ j) ↔ ((w : List ℕ) → reading (sheet_system s) w x ≡ reading (sheet_system s) w y)
      shared i j x y p q =
          let a = (in_block i x p).1 in
          let b = (in_block j y q).1 in
          (λ e w. sym (a w) ∙ ap (λ (k : ℕ). reading (sheet_system s) w (block_at s k)) e ∙ b w, λ c. same_index y i j p.0 q.0 (λ w. a w ∙ c w) b)

  pub chart_right : length (blocks s) ≤ 255 → ChartRight s
  chart_right few = record { obeys_rules = Rules.chart_rules s W few; reads_alike = Rules.chart_reading_lem s W few }

pub charts_tell : (s t : Sheet) → WellFormed s → WellFormed t → length (blocks s) ≤ 255 → length (blocks t) ≤ 255 → ChartsTell s t
charts_tell = chart_equality

pub sheet_entries : (s t : Sheet) → WellFormed s → WellFormed t → SheetEntries s t
sheet_entries s t W V# = entries_tell (sheet_system s) (sheet_system t) (sheet_plain s W) (sheet_plain t V#)

pub chart_entries : (c d : List ℕ) → ChartRules c → ChartRules d → ChartEntries c d
chart_entries c d R Q = entries_tell (chart_system c) (chart_system d) (chart_plain c R) (chart_plain d Q)
