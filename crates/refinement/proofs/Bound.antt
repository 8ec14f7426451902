-- The bound on depth: with at most 255 blocks, what reads the same to depth 254 reads the same for ever. So rows that are 255 deep already have all blocks, and
-- a landing in none of them means more than 255.
use Rattle.std.specs.Prelude.{ℕ, ◌≤◌, ◌<◌, ◌≡◌, refl, ◌↔◌, Bool, T, length, Some}
use Rattle.std.proofs.Common.{arith, subst, ◌∙◌}
use Rattle.std.proofs.Math.Path.{sym}
use Rattle.systems.specs.System.{System, Alike, Reached, at_start, by_step}
use Rattle.systems.specs.Alike.{AlikeTo}
use Rattle.systems.proofs.Alike.{alike_next, both_left}
use Rattle.exploration.proofs.Moore.{alike_numbers}
use Rattle.exploration.specs.Quotient.{quotient}
use Rattle.exploration.proofs.Quotient.{quotient_alike, quotient_closed}
use Rattle.exploration.proofs.Explored.{explored}
use Rattle.model.specs.Sheet.{Configuration, Sheet, in_box, sheet_system, Covered, WellFormed}
use Rattle.model.specs.Blocks.{class_box, same_class, blocks, block_at}
use Rattle.model.proofs.ClassTheorem.{class_depth, sheet_explorable, blocks_representatives}
use Rattle.refinement.specs.Table.{Sound}
use Rattle.refinement.proofs.Table.{next_reached}
use Rattle.refinement.specs.Depth.{AllDeep}
use Rattle.refinement.specs.SheetTable.{Row, sheet_frame}
use Rattle.refinement.proofs.SheetTable.{sheet_framed}

module _ (s : Sheet) (W : WellFormed s) (few : length (blocks s) ≤ 255) where
  -- the blocks as a system on their numbers
  numbered : System ℕ
  numbered = quotient (sheet_system s) (same_class s) s.start (blocks s)

  block_alike : (i : ℕ) → i < length (blocks s) → Alike (sheet_system s) numbered (block_at s i) i
  unfolding blocks numbered
  block_alike i h = quotient_alike (sheet_system s) (same_class s) s.actions s.start (Covered s) (sheet_explorable s W) 255 few i h

  -- class boxes test the numbers to each depth
  tests : ℕ → ℕ → ℕ → Bool
  tests k i j = in_box (class_box s k (block_at s i)) (block_at s j)

  tests_tell : (k i j : ℕ) → i < length (blocks s) → j < length (blocks s) → T (tests k i j) ↔ AlikeTo k numbered numbered i j
  unfolding tests
  tests_tell k i j hi hj =
      let c = class_depth s W k (block_at s i) (block_at s j) ((blocks_representatives s W).covered i hi) in (
        λ t w l. sym (block_alike i hi w) ∙ (c.0 t).1 w l ∙ block_alike j hj w,
        λ r. c.1 ((blocks_representatives s W).covered j hj, λ w l. block_alike i hi w ∙ r w l ∙ sym (block_alike j hj w)),
      )

  numbered_closed : (a i j : ℕ) → i < length (blocks s) → numbered.step a i ≡ Some j → j < length (blocks s)
  unfolding blocks numbered
  numbered_closed a i j h e = quotient_closed (sheet_system s) (same_class s) s.actions s.start (Covered s) (sheet_explorable s W) 255 few a i j h e

  blocks_alike : (i j : ℕ) → i < length (blocks s) → j < length (blocks s) → AlikeTo 254 (sheet_system s) (sheet_system s) (block_at s i) (block_at s j)
      → Alike (sheet_system s) (sheet_system s) (block_at s i) (block_at s j)
  blocks_alike i j hi hj r =
      let q =
      alike_numbers numbered (length (blocks s)) 254 tests numbered_closed tests_tell few i j hi hj
      (λ w l. sym (block_alike i hi w) ∙ r w (omega arith) ∙ block_alike j hj w) in
      λ w. block_alike i hi w ∙ q w ∙ sym (block_alike j hj w)

  block_of : (x : Configuration) → Reached (sheet_system s) s.start x → (i : ℕ) × (i < length (blocks s)) × Alike (sheet_system s) (sheet_system s) (block_at s i) x
  unfolding blocks
  block_of x r = explored (sheet_system s) (same_class s) s.actions s.start (Covered s) (sheet_explorable s W) 255 few x r

  -- Reached configurations that read the same to depth 254 read the same for ever.
  pub reached_alike : (x y : Configuration) → Reached (sheet_system s) s.start x → Reached (sheet_system s) s.start y → AlikeTo 254 (sheet_system s) (sheet_system s) x y
      → Alike (sheet_system s) (sheet_system s) x y
  reached_alike x y p q r =
      let (i, hi, f) = block_of x p in
      let (j, hj, g) = block_of y q in
      let e = blocks_alike i j hi hj (λ w l. f w ∙ r w l ∙ sym (g w)) in
      λ w. sym (f w) ∙ e w ∙ g w

  module _ {n : ℕ} {row : ℕ → Row} (S : Sound (sheet_frame s) n row) (D : AllDeep (sheet_frame s) n row (λ k. 255)) where
    -- what is reached is equivalent to some representative
    pub reached_row : (x : Configuration) → Reached (sheet_system s) s.start x → (j : ℕ) × (j < n) × Alike (sheet_system s) (sheet_system s) (row j).representative x
    reached_row x at_start = (0, S.nonempty, subst (λ (z : Configuration). Alike (sheet_system s) (sheet_system s) z s.start) (sym S.first) (λ w. refl))
    reached_row x (by_step {x = y} a r e) =
        let (i, hi, f) = reached_row y r in
        let (q, l, g) = both_left ((sheet_system s).step a y) (alike_next (sheet_system s) (sheet_system s) (row i).representative y f a) e in
        let (j, hj, d) = (D i hi).closed 254 a q (omega arith) l in
        let R = next_reached (sheet_frame s) (sheet_framed s W) a (row i) q (S.rows i hi) l in
        let h = reached_alike (row j).representative q (S.rows j hj).reached R d in
        (j, hj, λ w. h w ∙ g w)
