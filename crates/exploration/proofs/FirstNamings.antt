-- Records of targets, and which of them first names each number, and by which action, as noted in two arrays.
use Rattle.std.specs.Prelude.{◌≡◌, List, ℕ, ◌+◌, ◌<◌, length, get_or, set}
use Rattle.std.proofs.Common.{sym, ap, subst, ◌∙◌, inl, inr, ⊎_elim, add-one, arith, get_or-set_same, get_or-set_other}
use Rattle.std.proofs.Math.Decide.{ℕ_discrete}
use Rattle.systems.proofs.Laws.{below_suc}
use Rattle.exploration.specs.FirstWords.{Earlier}
use Rattle.exploration.specs.FirstNamings.{Noted, NotedFrom}

-- behind the last record stands nothing
pub noted_none : (n m : ℕ) (t : ℕ → ℕ → ℕ) (rs bs : List ℕ) → NotedFrom n m t n 0 rs bs
noted_none n m t rs bs = record { each = λ j b h l o. absurd (o (inl h)) }

-- behind the last action of a record stands what is behind the record
pub noted_row : (n m : ℕ) (t : ℕ → ℕ → ℕ) (i : ℕ) (rs bs : List ℕ) → NotedFrom n m t (i + 1) 0 rs bs → NotedFrom n m t i m rs bs
noted_row n m t i rs bs N =
    record {
      each = λ j b h l o.
          N.each j b h l (λ e.
          ⊎_elim
          (λ d. ⊎_elim (λ q. o (inr (q, l))) (λ d'. o (inl d')) (below_suc (rw add-one at d)))
          (λ d. omega (arith, d.1))
          e);
    }

-- one action more: its pair is noted for its target, whatever was before
pub noted_more : (n m : ℕ) (t : ℕ → ℕ → ℕ) (i a : ℕ) (rs bs : List ℕ) → i < n → a < m → t i a < length rs → t i a < length bs
    → NotedFrom n m t i (a + 1) rs bs → NotedFrom n m t i a (set rs (t i a) i) (set bs (t i a) a)
noted_more n m t i a rs bs hi ha lr lb N = record { each = λ j b h l o. go j b h l o (ℕ_discrete (t j b) (t i a)) }
  where
    go : (j b : ℕ) → j < n → b < m → (Earlier j b i a → ⊥) → Dec (t j b ≡ t i a)
        → Noted n m t j b (get_or (set rs (t i a) i) (t j b) 0) (get_or (set bs (t i a) a) (t j b) 0)
    go j b h l o (yes e) =
        let p = ap (λ (k : ℕ). get_or (set rs (t i a) i) k 0) e ∙ get_or-set_same rs (t i a) i 0 lr in
        let q = ap (λ (k : ℕ). get_or (set bs (t i a) a) k 0) e ∙ get_or-set_same bs (t i a) a 0 lb in
        let here : Noted n m t j b i a = record { record_within = hi; action_within = ha; same_target = sym e; no_later = o } in
        subst (λ (x : ℕ × ℕ). Noted n m t j b x.0 x.1) (λ k. (sym p k, sym q k)) here
    go j b h l o (no u) =
        let p = get_or-set_other rs (t i a) (t j b) i 0 u in
        let q = get_or-set_other bs (t i a) (t j b) a 0 u in
        let before : Earlier j b i (a + 1) → ⊥ =
        λ e.
        ⊎_elim
        (λ d. o (inl d))
        (λ d.
        ⊎_elim
        (λ z. u (ap (λ (k : ℕ). t k b) d.0 ∙ ap (t i) z))
        (λ z. o (inr (d.0, z)))
        (below_suc (rw add-one at d.1)))
        e in
        subst (λ (x : ℕ × ℕ). Noted n m t j b x.0 x.1) (λ k. (sym p k, sym q k)) (N.each j b h l before)
