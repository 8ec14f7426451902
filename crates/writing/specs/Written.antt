-- What is written from the table of a completed refinement is the sheet's chart and its box list.
use Rattle.std.specs.Prelude.{◌≡◌, ℕ, zero, suc, ◌+◌, ◌*◌, ◌≤◌, ◌<◌, get_or, ℤ, pos}
use Rattle.std.proofs.Math.Path.{sym, ap, subst}
use Rattle.std.proofs.Common.{◌∙◌, arith}
use mathlib.Core.List.{List, ◌∷◌, ◌++◌}
use Rattle.integers.specs.declared.Range.{Range}
use Rattle.integers.specs.LittleEndian.{Bytes, Holds, split}
use Rattle.systems.specs.Lists.{collect}
use Rattle.systems.proofs.Lists.{collect_ext}
use Rattle.model.specs.Sheet.{Configuration, Region, region_number, region_of, Covered, Each, each_more}
use Rattle.model.specs.Blocks.{chart_mark, chart_of, box_list_of}
use Rattle.model.proofs.Boxes.{fits_ordered, inside_each}
use Rattle.model.specs.BoxList.{RangeHeld}
use Rattle.model.proofs.BoxList.{inside_held}
use Rattle.refinement.specs.Numbering.{walk}
use Rattle.refinement.specs.Walk.{Numbered}
use Rattle.refinement.proofs.SheetTable.{row_fits}
use Rattle.refinement.specs.Completed.{row_record, table_chart, table_boxes}
use Rattle.refinement.proofs.Completed.{completed_in, completed_chart, completed_boxes}
use Rattle.sheet_bytes.specs.declared.Shape.{Shape}
use Rattle.sheet_bytes.specs.declared.Ranges.{Ranges}
use Rattle.sheet_rules.specs.Layout.{counters_of, bound_size, label_at}
use Rattle.sheet_rules.specs.Decode as Decode
use Rattle.sheet_rules.specs.Decode.{decode, range_at, box_at}
use Rattle.sheet_rules.proofs.Listed.{each_listed, range_held}
use Rattle.sheet_bytes.specs.Three.{firsts, ranges_meant, config_meant}
use Rattle.table_rules.specs.Arrays.{range_in, ranges_in, config_in, target_in}
use Rattle.table_rules.specs.Meaning.{Ready, row_in}
use Rattle.table_rules.proofs.Meaning.{region_listed, covered_few}
use Rattle.table_passes.specs.State.{counters_few, actions_decoded}
use Rattle.table_passes.specs.Steps.{Table}
use Rattle.writing.specs.Numbers.{entry_in, Walkable}
use Rattle.writing.specs.ChartBytes.{header_bytes, target_byte, target_bytes, record_bytes, ordered_bytes, records_bytes, chart_bytes, Placed}
use Rattle.writing.specs.BoxBytes.{bound_in, Bounded, AllBounded}

-- the ranges that count, one by one
first_of : {P : Range → Type 0} (n : ℕ) (r : Ranges) → Each P (ranges_meant n r) → 1 ≤ n → P r.first
unfolding firsts
first_of zero r e h = absurd (omega arith)
first_of (suc n) r (each_more p e) h = p

second_of : {P : Range → Type 0} (n : ℕ) (r : Ranges) → Each P (ranges_meant n r) → 2 ≤ n → P r.second
unfolding firsts
second_of zero r e h = absurd (omega arith)
second_of (suc zero) r e h = absurd (omega arith)
second_of (suc (suc n)) r (each_more p (each_more q e)) h = q

third_of : {P : Range → Type 0} (n : ℕ) (r : Ranges) → Each P (ranges_meant n r) → 3 ≤ n → P r.third
unfolding firsts
third_of zero r e h = absurd (omega arith)
third_of (suc zero) r e h = absurd (omega arith)
third_of (suc (suc zero)) r e h = absurd (omega arith)
third_of (suc (suc (suc n))) r (each_more p (each_more q (each_more s e))) h = s

bounds_from : (w : ℕ) (c : List ℤ) (i n : ℕ) → n ≤ 3 → Each (RangeHeld w) (ranges_meant n (ranges_in c i)) → Bounded w c (2 * n) i
unfolding ranges_in range_in
bounds_from w c i n few e b h = go b h
  where
    at : (b j : ℕ) → j ≡ 9 * i + 3 + b → Holds w (get_or c j (pos 0)) → Holds w (bound_in c i b)
    at b j q h = subst (λ (k : ℕ). Holds w (get_or c k (pos 0))) q h

    go : (b : ℕ) → b < 2 * n → Holds w (bound_in c i b)
    go zero h = at 0 (9 * i + 3) (omega arith) (first_of n (ranges_in c i) e (omega arith)).low_held
    go (suc zero) h = at 1 (9 * i + 3 + 1) (omega arith) (first_of n (ranges_in c i) e (omega arith)).high_held
    go (suc (suc zero)) h = at 2 (9 * i + 5) (omega arith) (second_of n (ranges_in c i) e (omega arith)).low_held
    go (suc (suc (suc zero))) h = at 3 (9 * i + 5 + 1) (omega arith) (second_of n (ranges_in c i) e (omega arith)).high_held
    go (suc (suc (suc (suc zero)))) h = at 4 (9 * i + 7) (omega arith) (third_of n (ranges_in c i) e (omega arith)).low_held
    go (suc (suc (suc (suc (suc zero))))) h = at 5 (9 * i + 7 + 1) (omega arith) (third_of n (ranges_in c i) e (omega arith)).high_held
    go (suc (suc (suc (suc (suc (suc b)))))) h = absurd (omega arith)

module _ {s : List ℕ} {shape : Shape} (R : Ready s shape) where
  label_is : (x : Configuration) → Covered (decode s) x → (region_of (decode s) x).label ≡ label_at s (region_number (decode s) x)
  unfolding Decode.region_at
  label_is x c = ap (λ (r : Region). r.label) (region_listed R x c)

  region_held : Bytes s → (x : Configuration) → Covered (decode s) x → Each (RangeHeld shape.width) (region_of (decode s) x).box.ranges
  unfolding Decode.region_at box_at
  region_held B x c =
      subst (λ (r : Region). Each (RangeHeld shape.width) r.box.ranges) (sym (region_listed R x c))
      (each_listed (range_at s (region_number (decode s) x)) (counters_of s) (λ v h.
      subst (λ (w : ℕ). RangeHeld w (range_at s (region_number (decode s) x) v)) (sym R.read.width_is) (range_held s (region_number (decode s) x) v B)))

  module _ {c : List ℤ} {h t : List ℕ} {n : ℕ} (D : Table s shape c h t n) where
    -- its targets can be walked
    pub table_walkable : Walkable t shape.actions n
    table_walkable =
        record { sheet = decode s; row = row_in shape.counters c h; well = R.well; actions_are = actions_decoded R; completed = D.completed }

    row_covered : (k : ℕ) → k < n → Covered (decode s) (config_meant shape.counters (config_in c h k))
    unfolding row_in
    row_covered k l = let S = D.completed.sound.rows k l in S.covered (config_meant shape.counters (config_in c h k)) S.holds

    -- the bytes of a bound hold its bounds
    row_bounded : Bytes s → (k : ℕ) → k < n → Bounded shape.width c (2 * shape.counters) k
    unfolding row_in
    row_bounded B k l =
        let F = row_fits (decode s) R.well (row_in shape.counters c h k) (D.completed.sound.rows k l) in
        bounds_from shape.width c k shape.counters (counters_few R)
        (inside_each (inside_held shape.width) F.ranges_inside (fits_ordered F.ranges_fit) (region_held B (config_meant shape.counters (config_in c h k)) (row_covered k l)))

    module _ (order number : List ℕ) (N : Numbered (walk (target_in t) shape.actions 255) (entry_in order) (entry_in number) n) where
      numbered : Numbered (walk (target_in t) (decode s).actions 255) (entry_in order) (entry_in number) n
      numbered = subst (λ (k : ℕ). Numbered (walk (target_in t) k 255) (entry_in order) (entry_in number) n) (actions_decoded R) N

      -- the order names rows
      order_row : (k : ℕ) → k < n → entry_in order k < n
      order_row k l = subst (λ (i : ℕ). i < n) (sym (numbered.orders k l)) (completed_in (decode s) R.well D.completed k l).0

      pub table_placed : Placed h order shape.regions n
      table_placed k l =
          let r = order_row k l in
          let f = D.completed.few in
          let i = entry_in order k in
          (omega arith, omega (arith, D.located i r, covered_few R (config_meant shape.counters (config_in c h i)) (row_covered i r)))

      pub table_bounded : Bytes s → AllBounded shape.width c order (2 * shape.counters) n
      table_bounded B k l =
          let r = order_row k l in
          let f = D.completed.few in
          (omega arith, row_bounded B (entry_in order k) r)

      record_is : (k : ℕ) → k < n
          → ordered_bytes s h t order number shape.actions k ≡ row_record (decode s) (row_in shape.counters c h) (target_in t) (entry_in number) (entry_in order k)
      unfolding record_bytes target_bytes row_record row_in
      record_is k l =
          let i = entry_in order k in
          let r = order_row k l in
          let x = config_meant shape.counters (config_in c h i) in
          ap (λ (m : ℕ). split 2 m ++ collect (target_byte t number i) shape.actions) (ap (label_at s) (D.located i r) ∙ sym (label_is x (row_covered i r)))
          ∙ ap (λ (m : ℕ). split 2 (region_of (decode s) x).label ++ collect (target_byte t number i) m) (actions_decoded R)

      -- The bytes written are those of the sheet's chart,
      pub table_chart_lem : chart_bytes s h t order number shape.actions n ≡ chart_of (decode s)
      unfolding chart_bytes header_bytes records_bytes table_chart
      table_chart_lem =
          let row = row_in shape.counters c h in
          ap (λ (l : List ℕ). chart_mark ++ (shape.actions ∷ n ∷ l))
          (collect_ext (ordered_bytes s h t order number shape.actions) (λ k. row_record (decode s) row (target_in t) (entry_in number) (entry_in order k)) n record_is)
          ∙ ap (λ (m : ℕ). chart_mark ++ (m ∷ n ∷ collect (λ k. row_record (decode s) row (target_in t) (entry_in number) (entry_in order k)) n)) (actions_decoded R)
          ∙ sym (completed_chart (decode s) R.well D.completed numbered)

      -- and of its box list.
      pub table_boxes_lem : table_boxes shape.width n (row_in shape.counters c h) (entry_in order) ≡ box_list_of (bound_size s) (decode s)
      table_boxes_lem = sym (completed_boxes (decode s) R.well D.completed shape.width numbered) ∙ ap (λ (w : ℕ). box_list_of w (decode s)) R.read.width_is
