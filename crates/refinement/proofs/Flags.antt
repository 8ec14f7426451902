-- Flags and stored targets: which actions of which rows need not be looked at again. Knows nothing of boxes.
use Rattle.std.specs.Prelude.{ℕ, suc, ◌≤◌, ◌<◌, ◌≡◌, T}
use Rattle.std.proofs.Math.Decide.{dec_lt, ℕ_discrete}
use Rattle.std.proofs.Common.{arith, sym, ap, subst, ◌∙◌}
use Rattle.refinement.specs.Table.{Frame, Cut, Settled, StableAt, stable_barred, stable_open, Stable}
use Rattle.refinement.specs.Flags.{Quiet, Elsewhere, Lowered}

module _ {X Row : Type 0} (F : Frame X Row) where
  -- A table with more rows, or a smaller row, stays stable where the row of the target is as it was.
  pub stable_kept : {n n' : ℕ} {row row' : ℕ → Row} {r r' : Row} {b m : ℕ} → n ≤ n' → F.representative r' ≡ F.representative r
      → ((y : X) → T (F.has r' y) → T (F.has r y)) → (m < n → row' m ≡ row m) → StableAt F n row r b m → StableAt F n' row' r' b m
  stable_kept {b = b} h e f g (stable_barred p q) = stable_barred (ap (F.system.step b) e ∙ p) q
  stable_kept {r' = r'} {b = b} h e f g (stable_open l s) =
      stable_open (omega arith) (subst (Settled F b r') (sym (g l)) (λ y u. s y (f y u)))

  module _ {n : ℕ} {row : ℕ → Row} where
    -- before the first turn all flags are up
    pub quiet_first : {t f : ℕ → ℕ → ℕ} → ((k b : ℕ) → k < n → b < F.actions → 0 < f k b) → Quiet F n row t f
    quiet_first h = record { stable = λ k b l c e. let p = h k b l c in absurd (omega arith) }

    -- an action for which row i is stable as it is, with the target now stored: its flag may be lowered
    pub quiet_pass : {t t' f f' : ℕ → ℕ → ℕ} (i a : ℕ) → Quiet F n row t f → StableAt F n row (row i) a (t' i a)
        → Elsewhere n F.actions i a t t' → Lowered n F.actions i a f f' → Quiet F n row t' f'
    quiet_pass {t} {t'} {f} {f'} i a Q s e g = record { stable = λ k b d h z. go k b d h z (ℕ_discrete k i) (ℕ_discrete b a) }
      where
        old : (k b : ℕ) → k < n → b < F.actions → f' k b ≡ 0 → (k ≡ i → b ≡ a → ⊥) → StableAt F n row (row k) b (t' k b)
        old k b d h z l = subst (StableAt F n row (row k) b) (sym (e k b d h l)) (Q.stable k b d h (g k b d h l z))

        go : (k b : ℕ) → k < n → b < F.actions → f' k b ≡ 0 → Dec (k ≡ i) → Dec (b ≡ a) → StableAt F n row (row k) b (t' k b)
        go k b d h z (no p) q = old k b d h z (λ u v. p u)
        go k b d h z (yes p) (no q) = old k b d h z (λ u v. q v)
        go k b d h z (yes p) (yes q) = subst (λ (u : ℕ). StableAt F n row (row u) b (t' u b)) (sym p) (subst (λ (v : ℕ). StableAt F n row (row i) v (t' i v)) (sym q) s)

    -- Cut: row i is cut by action a to what leads into row j, and j is stored as its target. Down stay only flags of actions with another target than i.
    pub quiet_cut : {row' : ℕ → Row} {t t' f f' : ℕ → ℕ → ℕ} (i a j : ℕ) → Quiet F n row t f → j < n → Cut F a (row i) (row j) (row' i)
        → ((k : ℕ) → k < n → (k ≡ i → ⊥) → row' k ≡ row k) → t' i a ≡ j → Elsewhere n F.actions i a t t' → Lowered n F.actions i a f f'
        → ((k b : ℕ) → k < n → b < F.actions → f' k b ≡ 0 → t' k b ≡ i → ⊥) → Quiet F n row' t' f'
    quiet_cut {row'} {t} {t'} {f} {f'} i a j Q hj D er ej et ef away = record { stable = λ k b d h z. go k b d h z (ℕ_discrete k i) (ℕ_discrete b a) }
      where
        -- what was stable with a target other than i stays so
        old : (k b : ℕ) → k < n → b < F.actions → f' k b ≡ 0 → (k ≡ i → b ≡ a → ⊥)
            → F.representative (row' k) ≡ F.representative (row k) → ((y : X) → T (F.has (row' k) y) → T (F.has (row k) y))
            → StableAt F n row' (row' k) b (t' k b)
        old k b d h z l e s =
            stable_kept {row = row} {row' = row'} {r = row k} {r' = row' k} {b = b} (omega arith) e s (λ u. er (t' k b) u (away k b d h z))
            (subst (StableAt F n row (row k) b) (sym (et k b d h l)) (Q.stable k b d h (ef k b d h l z)))

        go : (k b : ℕ) → k < n → b < F.actions → f' k b ≡ 0 → Dec (k ≡ i) → Dec (b ≡ a) → StableAt F n row' (row' k) b (t' k b)
        go k b d h z (no p) q =
            old k b d h z (λ u v. p u) (ap F.representative (er k d p)) (λ y. subst (λ (r : Row). T (F.has r y)) (er k d p))
        go k b d h z (yes p) (no q) =
            old k b d h z (λ u v. q v)
            (ap (λ (m : ℕ). F.representative (row' m)) p ∙ D.represents ∙ ap (λ (m : ℕ). F.representative (row m)) (sym p))
            (λ y. subst (λ (m : ℕ). T (F.has (row' m) y) → T (F.has (row m) y)) (sym p) (λ u. ((D.exact y).0 u).0))
        go k b d h z (yes p) (yes q) =
            let e : t' k b ≡ j = ap (λ (m : ℕ). t' m b) p ∙ ap (t' i) q ∙ ej in
            let ne : j ≡ i → ⊥ = λ u. away k b d h z (e ∙ u) in
            let s : Settled F a (row' i) (row' j) = subst (Settled F a (row' i)) (sym (er j hj ne)) (λ y u. ((D.exact y).0 u).1) in
            subst (λ (m : ℕ). StableAt F n row' (row' m) b (t' k b)) (sym p)
            (subst (λ (v : ℕ). StableAt F n row' (row' i) v (t' k b)) (sym q) (subst (StableAt F n row' (row' i) a) (sym e) (stable_open hj s)))

    -- Append: a new row comes with its flags up, and nothing else changes.
    pub quiet_append : {row' : ℕ → Row} {t t' f f' : ℕ → ℕ → ℕ} → Quiet F n row t f → ((k : ℕ) → k < n → row' k ≡ row k)
        → ((k b : ℕ) → k < n → b < F.actions → t' k b ≡ t k b) → ((k b : ℕ) → k < n → b < F.actions → f' k b ≡ 0 → f k b ≡ 0)
        → ((b : ℕ) → b < F.actions → 0 < f' n b) → Quiet F (suc n) row' t' f'
    quiet_append {row'} {t} {t'} {f} {f'} Q er et ef p = record { stable = λ k b d h z. go k b h z (dec_lt k n) d }
      where
        go : (k b : ℕ) → b < F.actions → f' k b ≡ 0 → Dec (k < n) → k < suc n → StableAt F (suc n) row' (row' k) b (t' k b)
        go k b h z (yes d) l =
            stable_kept {row = row} {row' = row'} {r = row k} {r' = row' k} {b = b} (omega arith) (ap F.representative (er k d))
            (λ y. subst (λ (r : Row). T (F.has r y)) (er k d)) (λ u. er (t' k b) u)
            (subst (StableAt F n row (row k) b) (sym (et k b d h)) (Q.stable k b d h (ef k b d h z)))
        go k b h z (no d) l = let q : k ≡ n = omega arith in let e = ap (λ (m : ℕ). f' m b) q in let u = p b h in absurd (omega arith)

    -- When all flags are down, the table is stable.
    pub quiet_stable : {t f : ℕ → ℕ → ℕ} → Quiet F n row t f → ((k b : ℕ) → k < n → b < F.actions → f k b ≡ 0) → Stable F n row t
    quiet_stable Q z i a h b = Q.stable i a h b (z i a h b)
