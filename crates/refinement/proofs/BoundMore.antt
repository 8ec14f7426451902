-- The bound on depth: with at most 255 blocks, what reads the same to depth 254 reads the same for ever. So rows that are 255 deep already have all blocks, and
-- a landing in none of them means more than 255.
use Rattle.std.specs.Prelude.{ℕ, ◌≤◌, ◌<◌, ◌≡◌, true, List, T, length}
use Rattle.std.proofs.Math.Decide.{dec_le}
use Rattle.std.proofs.Common.{arith, subst, lt-ltb}
use Rattle.std.proofs.Math.Path.{sym}
use Rattle.systems.specs.System.{Alike}
use Rattle.systems.proofs.Alike.{alike_to_le}
use Rattle.exploration.specs.Explored.{Few}
use Rattle.model.specs.declared.Rule.{Rule}
use Rattle.model.specs.Sheet.{Configuration, Open, Sheet, in_box, landing, sheet_system, WellFormed}
use Rattle.model.specs.Blocks.{blocks, too_many}
use Rattle.model.proofs.Boxes.{box_ext}
use Rattle.depth_rules.specs.DepthBound.{Doublings, depth_bound}
use Rattle.depth_rules.proofs.DepthBound.{depth_exact}
use Rattle.refinement.specs.Table.{Sound}
use Rattle.refinement.proofs.Table.{new_apart, next_reached, next_covered}
use Rattle.refinement.specs.Depth.{Shrunk, AllDeep}
use Rattle.refinement.proofs.Depth.{deep_le}
use Rattle.refinement.specs.SheetTable.{Row, sheet_frame, move_at}
use Rattle.refinement.proofs.SheetTable.{step_open, sheet_framed}
use Rattle.refinement.proofs.Bound.{reached_row}

module _ (s : Sheet) (W : WellFormed s) (few : length (blocks s) ≤ 255) where
  -- So there are at most as many classes as rows.
  rows_few : {n : ℕ} {row : ℕ → Row} → Sound (sheet_frame s) n row → AllDeep (sheet_frame s) n row (λ k. 255) → Few (sheet_system s) s.start n
  rows_few {row = row} S D = record { each = λ i. (row i).representative; named = reached_row s W few S D }

  -- Rows that are as deep as the depth bound asks change no more: whatever is cut, they are the classes already.
  pub deep_same : {n : ℕ} {row row' : ℕ → Row} (m e : ℕ) → Doublings s m → Sound (sheet_frame s) n row → AllDeep (sheet_frame s) n row (λ k. e) → 255 ≤ e
      → depth_bound s.counters n m ≤ e → Sound (sheet_frame s) n row' → Shrunk (sheet_frame s) n row row' → (i : ℕ) → i < n → row' i ≡ row i
  deep_same {n} {row} {row'} m e G S D l b S' N i h =
      let p = N.represents i h in
      let q = box_ext (row' i).box (row i).box (row' i).representative (S'.rows i h).holds (λ y. (N.inside i h y, whole y)) in
      λ t. record { representative = p t; box = q t }
    where
      whole : (y : Configuration) → T (in_box (row i).box y) → T (in_box (row' i).box y)
      whole y u =
          let F = rows_few S (λ k c. deep_le (sheet_frame s) {row = row} k l (D k c)) in
          let c = (S.rows i h).covered y u in
          let a =
          depth_exact s W n m F G (row i).representative y (S.rows i h).reached c
          (alike_to_le (sheet_system s) (sheet_system s) (row i).representative y b ((D i h).members y u)) in
          (S'.rows i h).saturated (row' i).representative y (S'.rows i h).holds c
          (subst (λ (z : Configuration). Alike (sheet_system s) (sheet_system s) z y) (sym (N.represents i h)) a)

-- Refusal 9 by depth: rows that are 255 deep, and a landing in none of them.
pub deep_many : (s : Sheet) (W : WellFormed s) {n : ℕ} {row : ℕ → Row} (i a : ℕ) {target : ℕ} {rules : List Rule} → Sound (sheet_frame s) n row
    → AllDeep (sheet_frame s) n row (λ k. 255) → i < n → move_at s a (row i).representative ≡ Open target rules
    → ((k : ℕ) → k < n → T (in_box (row k).box (landing target rules (row i).representative)) → ⊥) → too_many s ≡ true
unfolding sheet_system too_many
deep_many s W {n} {row} i a {target} {rules} S D hi e f = lt-ltb 255 (length (blocks s)) (go (dec_le (length (blocks s)) 255))
  where
    q : Configuration
    q = landing target rules (row i).representative

    go : Dec (length (blocks s) ≤ 255) → 255 < length (blocks s)
    go (no h) = omega arith
    go (yes h) =
        let l = step_open s a (row i).representative e in
        let F = sheet_frame s in
        let E = sheet_framed s W in
        let (j, hj, r) = reached_row s W h S D q (next_reached F E a (row i) q (S.rows i hi) l) in
        absurd (new_apart F E j q S hj (next_covered F E a (row i) q (S.rows i hi) l) (f j hj) r)
