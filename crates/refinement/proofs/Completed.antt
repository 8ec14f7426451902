-- What a completed table of a sheet gives: its boxes are the class boxes, it has a row for each block, and its walk gives the chart and the box list.
use Prim.Native.Nat.{ℕ, ◌≤◌, ◌<◌}
use Rattle.std.proofs.Common.{arith, subst, ◌∙◌, inl, inr, ⊎_elim, eqb→eq}
use Rattle.std.specs.Prelude.{◌≡◌, refl, ◌⊎◌, Bool, true, false, eqb, length, get_or, Some, None, option_map}
use Rattle.std.proofs.Math.Path.{sym, ap}
use mathlib.Core.List.{List, [], ◌∷◌, ◌++◌}
use borrow.Author.Tests.{le-ltb}
use Rattle.std.proofs.Math.Dec.{T}
use Rattle.integers.specs.LittleEndian.{split}
use Rattle.systems.specs.Lists.{collect}
use Rattle.systems.proofs.Lists.{collect_ext}
use Rattle.exploration.specs.Exploration.{place, known}
use Rattle.systems.proofs.Laws.{is_false}
use Rattle.model.specs.Sheet.{Box, Sheet, in_box, region_of, step, sheet_system, WellFormed}
use Rattle.model.specs.Blocks.{class_of, same_class, blocks, block_at, too_many, target_byte, chart_record, chart_mark, chart_of, box_record, box_list_of}
use Rattle.model.specs.Chart.{block_named}
use Rattle.model.specs.ChartEquality.{byte_of}
use Rattle.model.proofs.ChartEquality.{byte_of_place}
use Rattle.model.proofs.Boxes.{box_ext}
use Rattle.model.proofs.Classes.{region_eq}
use Rattle.model.proofs.ClassTheorem.{class_members, class_eq, sheet_explorable}
use Rattle.refinement.specs.Table.{StableAt, stable_barred, stable_open}
use Rattle.refinement.proofs.Table.{exact}
use Rattle.refinement.specs.Numbering.{walk, InRow}
use Rattle.refinement.proofs.Numbering.{numbering_at, numbering_place, rows_all, walk_length}
use Rattle.refinement.specs.Walk.{number_of, Numbered}
use Rattle.refinement.proofs.Walk.{number_in, number_out, known_member, walk_known}
use Rattle.refinement.specs.SheetTable.{Row, sheet_frame, Completed}
use Rattle.refinement.proofs.SheetTable.{sheet_framed}
use Rattle.refinement.specs.Completed.{number_byte, row_record, table_chart, box_bytes, table_boxes}

byte_barred : (order : List ℕ) (t : ℕ) → t ≡ 255 → number_byte order t ≡ 255
unfolding number_byte
byte_barred order t e = rw e refl

byte_open : (order : List ℕ) (t : ℕ) → t < 255 → number_byte order t ≡ place eqb order t
unfolding number_byte
byte_open order t h = rw (is_false (eqb t 255) (λ u. let e = eqb→eq t 255 u in omega arith), number_byte)

byte_number : (order : List ℕ) (t : ℕ) → byte_of (option_map (place eqb order) (block_named t)) ≡ number_byte order t
unfolding byte_of number_byte block_named
byte_number order t = go (eqb t 255)
  where
    go : (b : Bool) → byte_of (option_map (place eqb order) (elim b [ true ↦ None | false ↦ Some t ])) ≡ elim b [ true ↦ 255 | false ↦ place eqb order t ]
    go true = refl
    go false = refl

module _ (s : Sheet) (W : WellFormed s) {n : ℕ} {row : ℕ → Row} {t : ℕ → ℕ → ℕ} (D : Completed s n row t) where
  -- The boxes of a completed table are the class boxes of its representatives.
  pub completed_box : (i : ℕ) → i < n → (row i).box ≡ class_of s (row i).representative
  completed_box i h =
      let R = D.sound.rows i h in
      let c = R.covered (row i).representative R.holds in
      box_ext (row i).box (class_of s (row i).representative) (row i).representative R.holds (λ y.
      let p = exact (sheet_frame s) (sheet_framed s W) D.sound D.stable i h y in
      let q = class_members s W (row i).representative y c in
      (λ u. q.1 (p.0 u), λ u. p.1 (q.0 u)))

  -- There are as many blocks as rows,
  pub completed_blocks : length (blocks s) ≡ n
  unfolding blocks
  completed_blocks = rows_all (sheet_frame s) (sheet_framed s W) (same_class s) (sheet_explorable s W) D.few D.sound D.stable 255 (omega arith)

  pub completed_walk : length (walk t s.actions 255) ≡ n
  completed_walk = walk_length (sheet_frame s) (sheet_framed s W) (same_class s) (sheet_explorable s W) D.few D.sound D.stable 255 (omega arith)

  -- so not too many.
  pub completed_few : too_many s ≡ false
  unfolding too_many
  completed_few = let e = completed_blocks in le-ltb 255 (length (blocks s)) (omega arith)

  -- Block k lies in row k of the walk,
  pub completed_in : (k : ℕ) → k < n → InRow (sheet_frame s) n row (block_at s k) (get_or (walk t s.actions 255) k 0)
  unfolding blocks
  completed_in k h =
      let e = completed_walk in
      numbering_at (sheet_frame s) (sheet_framed s W) (same_class s) (sheet_explorable s W) D.few D.sound D.stable 255 k (omega arith)

  -- has its box as its class,
  pub completed_class : (k : ℕ) → k < n → class_of s (block_at s k) ≡ (row (get_or (walk t s.actions 255) k 0)).box
  unfolding same_class
  completed_class k h =
      let (b, u) = completed_in k h in
      let r = row (get_or (walk t s.actions 255) k 0) in
      let R = D.sound.rows (get_or (walk t s.actions 255) k 0) b in
      let c = R.covered r.representative R.holds in
      let e = completed_box (get_or (walk t s.actions 255) k 0) b in
      sym (e ∙ (class_eq s W r.representative (block_at s k) c (R.covered (block_at s k) u)).0 (subst (λ (z : Box). T (in_box z (block_at s k))) e u))

  -- its label,
  pub completed_label : (k : ℕ) → k < n → (region_of s (block_at s k)).label ≡ (region_of s (row (get_or (walk t s.actions 255) k 0)).representative).label
  completed_label k h =
      let (b, u) = completed_in k h in
      ap (λ r. r.label) (sym (region_eq s (row (get_or (walk t s.actions 255) k 0)).representative (block_at s k) ((D.sound.rows (get_or (walk t s.actions 255) k 0) b).regional (block_at s k) u)))

  -- and its targets.
  pub completed_target : (k a : ℕ) → k < n → a < s.actions
      → target_byte s (step s a (block_at s k)) ≡ number_byte (walk t s.actions 255) (t (get_or (walk t s.actions 255) k 0) a)
  unfolding blocks sheet_system
  completed_target k a h b =
      let e = completed_walk in
      byte_of_place s (step s a (block_at s k))
      ∙ ap byte_of (numbering_place (sheet_frame s) (sheet_framed s W) (same_class s) (sheet_explorable s W) D.few D.sound D.stable 255 k a (omega arith) b)
      ∙ byte_number (walk t s.actions 255) (t (get_or (walk t s.actions 255) k 0) a)

  -- a stored target is 255 or the number of a row
  pub completed_stored : (i a : ℕ) → i < n → a < s.actions → (t i a ≡ 255) ⊎ (t i a < n)
  completed_stored i a h b = go (D.stable i a h b)
    where
      go : StableAt (sheet_frame s) n row (row i) a (t i a) → (t i a ≡ 255) ⊎ (t i a < n)
      go (stable_barred e q) = inl q
      go (stable_open l f) = inr l

  -- the walk gives numbers of rows
  pub completed_order : {order number : ℕ → ℕ} → Numbered (walk t s.actions 255) order number n → (k : ℕ) → k < n → order k < n
  completed_order N k h = subst (λ (i : ℕ). i < n) (sym (N.orders k h)) (completed_in k h).0

  -- the byte of a target is the number that the walk gives it
  byte_known : (k a : ℕ) → k < n → a < s.actions
      → number_byte (walk t s.actions 255) (t (get_or (walk t s.actions 255) k 0) a) ≡ number_of (walk t s.actions 255) (t (get_or (walk t s.actions 255) k 0) a)
  byte_known k a h b = ⊎_elim none_of some_of (completed_stored (get_or w k 0) a (completed_in k h).0 b)
    where
      w : List ℕ
      w = walk t s.actions 255

      out : T (known eqb w 255) → ⊥
      out u =
          let (i, l, q) = known_member w 255 u in
          let e = completed_walk in
          let c = (completed_in i (omega arith)).0 in
          omega arith

      none_of : t (get_or w k 0) a ≡ 255 → number_byte w (t (get_or w k 0) a) ≡ number_of w (t (get_or w k 0) a)
      none_of e =
          byte_barred w (t (get_or w k 0) a) e ∙ sym (ap (number_of w) e ∙ number_out w 255 (is_false (known eqb w 255) out))

      some_of : t (get_or w k 0) a < n → number_byte w (t (get_or w k 0) a) ≡ number_of w (t (get_or w k 0) a)
      some_of l =
          let e = completed_walk in
          byte_open w (t (get_or w k 0) a) (omega arith)
          ∙ sym (number_in w (t (get_or w k 0) a) (walk_known t s.actions 255 k a (omega arith) (omega arith) b (omega arith)))

  -- So the chart is that of the table, by the arrays of the complete walk,
  pub completed_chart : {order number : ℕ → ℕ} → Numbered (walk t s.actions 255) order number n → chart_of s ≡ table_chart s n row t order number
  unfolding chart_of table_chart chart_record row_record
  completed_chart {order} {number} N =
      let e = completed_blocks in
      let f = collect_ext (chart_record s) (λ k. row_record s row t number (order k)) n record_at in
      ap (λ (m : ℕ). chart_mark ++ (s.actions ∷ m ∷ collect (chart_record s) m)) e ∙ ap (λ (l : List ℕ). chart_mark ++ (s.actions ∷ n ∷ l)) f
    where
      w : List ℕ
      w = walk t s.actions 255

      byte_at : (k a : ℕ) → k < n → a < s.actions → target_byte s (step s a (block_at s k)) ≡ number (t (get_or w k 0) a)
      byte_at k a h b =
          let c : t (get_or w k 0) a ≤ 255 = ⊎_elim (λ e. omega arith) (λ e. omega arith) (completed_stored (get_or w k 0) a (completed_in k h).0 b) in
          completed_target k a h b ∙ byte_known k a h b ∙ sym (N.numbers (t (get_or w k 0) a) c)

      record_at : (k : ℕ) → k < n → chart_record s k ≡ row_record s row t number (order k)
      record_at k h =
          ap (λ (l : ℕ). split 2 l ++ collect (λ a. target_byte s (step s a (block_at s k)) ∷ []) s.actions) (completed_label k h)
          ∙ ap
          (λ (m : List ℕ). split 2 (region_of s (row (get_or w k 0)).representative).label ++ m)
          (collect_ext (λ a. target_byte s (step s a (block_at s k)) ∷ []) (λ a. number (t (get_or w k 0) a) ∷ []) s.actions
          (λ a b. ap (λ (z : ℕ). z ∷ []) (byte_at k a h b)))
          ∙ ap (row_record s row t number) (sym (N.orders k h))

  -- and so is the box list.
  pub completed_boxes : {order number : ℕ → ℕ} (m : ℕ) → Numbered (walk t s.actions 255) order number n → box_list_of m s ≡ table_boxes m n row order
  unfolding box_list_of table_boxes box_record box_bytes
  completed_boxes {order} {number} m N =
      ap (collect (box_record m s)) completed_blocks
      ∙ collect_ext (box_record m s) (λ k. box_bytes m (row (order k)).box) n
      (λ k h. ap (box_bytes m) (completed_class k h ∙ ap (λ (i : ℕ). (row i).box) (sym (N.orders k h))))
