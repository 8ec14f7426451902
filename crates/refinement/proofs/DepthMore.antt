-- How deep each row of a table is: to what depth its members read as its representative does. Knows nothing of boxes.
use Rattle.std.specs.Prelude.{ℕ, suc, ◌≤◌, ◌<◌, ◌≡◌, ◌⊎◌}
use Rattle.std.proofs.Math.Decide.{ℕ_discrete}
use Rattle.std.proofs.Common.{arith, sym, subst, ⊎_elim}
use Rattle.refinement.specs.Table.{Frame, Framed, SoundRow}
use Rattle.refinement.specs.Depth.{Deep, AllDeep, Reaches}
use Rattle.refinement.proofs.Depth.{deep_le, near_deep}

module _ {X Row : Type 0} (F : Frame X Row) where
  module _ (E : Framed F) where
    -- Row i may be said to be one deeper than all that its actions reach.
    pub deep_raised : {n : ℕ} {row : ℕ → Row} {d d' : ℕ → ℕ} (t : ℕ → ℕ) (i k : ℕ) → SoundRow F (row i) → AllDeep F n row d
        → ((a : ℕ) → a < F.actions → Reaches F n row d (row i) a (t a)) → ((a : ℕ) → a < F.actions → (t a ≡ 255) ⊎ (k ≤ d (t a)))
        → (d' i ≤ d i) ⊎ (d' i ≤ suc k) → ((j : ℕ) → j < n → (j ≡ i → ⊥) → d' j ≡ d j) → AllDeep F n row d'
    deep_raised {n} {row} {d} {d'} t i k R D N c b e j h = go (ℕ_discrete j i)
      where
        at : i < n → Deep F n row (d' i) i
        at l = ⊎_elim (λ u. deep_le F i u (D i l)) (λ u. deep_le F i u (near_deep F E i R (λ a g. (N a g).near k (c a g)))) b

        go : Dec (j ≡ i) → Deep F n row (d' j) j
        go (yes q) = subst (λ (m : ℕ). Deep F n row (d' m) m) (sym q) (at (omega arith))
        go (no q) = subst (λ (m : ℕ). Deep F n row m j) (sym (e j h q)) (D j h)
