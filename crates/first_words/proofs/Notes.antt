-- Which record first names each block of a chart, and by which action, as noted in two arrays; and the word that the notes give.
use Rattle.std.specs.Prelude.{◌≡◌, List, ℕ, zero, suc, ◌+◌, ◌-◌, ◌≤◌, ◌<◌, length, get_or, set}
use Rattle.std.proofs.Common.{sym, ap, subst, ◌∙◌, inl, inr, ⊎_elim, add-one, arith, get_or-set_same, get_or-set_other}
use Rattle.std.proofs.Math.Decide.{ℕ_discrete}
use Rattle.systems.specs.System.{System}
use Rattle.exploration.specs.FirstWords.{Earlier, NumberedAsNamed, FirstNaming, Along, along_start, along_naming}
use Rattle.exploration.proofs.FirstWords.{earlier_below, naming_next, along_length}
use Rattle.systems.proofs.Laws.{below_suc}
use Rattle.model.specs.Chart.{actions_of, blocks_of, target_of, chart_system}
use Rattle.model.proofs.Rounds.{step_target, target_step}
use Rattle.noted_words.specs.Words.{Falling, climbed, noted_word}
use Rattle.first_words.specs.Notes.{NotesRoom, Noted, NotedFrom}

-- behind the last record stands nothing
pub noted_none : (c rs bs : List ℕ) → NotedFrom c (blocks_of c) 0 rs bs
noted_none c rs bs = record { each = λ j b h l o. absurd (o (inl h)) }

-- behind the last action of a record stands what is behind the record
pub noted_row : (c : List ℕ) (i : ℕ) (rs bs : List ℕ) → NotedFrom c (i + 1) 0 rs bs → NotedFrom c i (actions_of c) rs bs
noted_row c i rs bs N =
    record {
      each = λ j b h l o.
          N.each j b h l (λ e.
          ⊎_elim
          (λ d. ⊎_elim (λ q. o (inr (q, l))) (λ d'. o (inl d')) (below_suc (rw add-one at d)))
          (λ d. omega (arith, d.1))
          e);
    }

-- one action more: its pair is noted for its target, whatever was before
pub noted_more : (c : List ℕ) (i a : ℕ) (rs bs : List ℕ) → i < blocks_of c → a < actions_of c → target_of c i a < 256 → NotesRoom rs → NotesRoom bs
    → NotedFrom c i (a + 1) rs bs → NotedFrom c i a (set rs (target_of c i a) i) (set bs (target_of c i a) a)
noted_more c i a rs bs hi ha ht lr lb N = record { each = λ j b h l o. go j b h l o (ℕ_discrete (target_of c j b) (target_of c i a)) }
  where
    go : (j b : ℕ) → j < blocks_of c → b < actions_of c → (Earlier j b i a → ⊥) → Dec (target_of c j b ≡ target_of c i a)
        → Noted c j b (get_or (set rs (target_of c i a) i) (target_of c j b) 0) (get_or (set bs (target_of c i a) a) (target_of c j b) 0)
    go j b h l o (yes e) =
        let p = ap (λ (k : ℕ). get_or (set rs (target_of c i a) i) k 0) e ∙ get_or-set_same rs (target_of c i a) i 0 (omega arith) in
        let q = ap (λ (k : ℕ). get_or (set bs (target_of c i a) a) k 0) e ∙ get_or-set_same bs (target_of c i a) a 0 (omega arith) in
        let here : Noted c j b i a = record { record_within = hi; action_within = ha; same_target = sym e; no_later = o } in
        subst (λ (x : ℕ × ℕ). Noted c j b x.0 x.1) (λ k. (sym p k, sym q k)) here
    go j b h l o (no n) =
        let p = get_or-set_other rs (target_of c i a) (target_of c j b) i 0 n in
        let q = get_or-set_other bs (target_of c i a) (target_of c j b) a 0 n in
        let before : Earlier j b i (a + 1) → ⊥ =
        λ e.
        ⊎_elim
        (λ d. o (inl d))
        (λ d.
        ⊎_elim
        (λ z. n (ap (λ (k : ℕ). target_of c k b) d.0 ∙ ap (target_of c i) z))
        (λ z. o (inr (d.0, z)))
        (below_suc (rw add-one at d.1)))
        e in
        subst (λ (x : ℕ × ℕ). Noted c j b x.0 x.1) (λ k. (sym p k, sym q k)) (N.each j b h l before)

-- the same from the action behind it
pub noted_back : (c : List ℕ) (i a t : ℕ) (rs bs : List ℕ) → i < blocks_of c → 0 < a → a ≤ actions_of c → (t ≡ target_of c i (a - 1)) × (t < 256)
    → NotesRoom rs → NotesRoom bs → NotedFrom c i a rs bs → NotedFrom c i (a - 1) (set rs t i) (set bs t (a - 1))
noted_back c i a t rs bs hi p ha (e, l) lr lb N =
    let q : a - 1 + 1 ≡ a = omega arith in
    let M = noted_more c i (a - 1) rs bs hi (omega arith) (omega arith) lr lb (subst (λ (z : ℕ). NotedFrom c i z rs bs) (sym q) N) in
    subst (λ (z : ℕ). NotedFrom c i (a - 1) (set rs z i) (set bs z (a - 1))) (sym e) M

pub noted_record : (c : List ℕ) (i : ℕ) (rs bs : List ℕ) → 0 < i → NotedFrom c i 0 rs bs → NotedFrom c (i - 1 + 1) 0 rs bs
noted_record c i rs bs p N = let q : i - 1 + 1 ≡ i = omega arith in subst (λ (z : ℕ). NotedFrom c z 0 rs bs) (sym q) N

-- The notes for all pairs: where the blocks are numbered as first named, what is noted for a block is its first naming.
pub noted_first : (c rs bs : List ℕ) → NumberedAsNamed (chart_system c) (blocks_of c) → blocks_of c ≤ 255 → NotedFrom c 0 0 rs bs
    → (k : ℕ) → 0 < k → k < blocks_of c → FirstNaming (chart_system c) (get_or rs k 0) (get_or bs k 0) k
unfolding chart_system
noted_first c rs bs N few F k p h =
    let (i, a, l, e, m) = N.origin k p h in
    let (b, q) = step_target c a i k e in
    let D = at i a k (omega arith) b q in
    record {
      leads = target_step c (get_or bs k 0) (get_or rs k 0) k D.action_within (D.same_target ∙ q) (omega arith);
      first = λ j d o s. let (g, r) = step_target c d j k s in (at j d k (earlier_below j d (get_or rs k 0) (get_or bs k 0) o D.record_within) g r).no_later o;
    }
  where
    at : (j b k : ℕ) → j < blocks_of c → b < actions_of c → target_of c j b ≡ k → Noted c j b (get_or rs k 0) (get_or bs k 0)
    at j b k h l e = subst (λ (z : ℕ). Noted c j b (get_or rs z 0) (get_or bs z 0)) e (F.each j b h l (λ o. none_before j b o))
      where
        none_before : (j b : ℕ) → Earlier j b 0 0 → ⊥
        none_before j b (inl d) = omega arith
        none_before j b (inr (d, d')) = omega arith

-- the records that are noted for the blocks up to k are earlier ones
pub noted_falling : (c rs bs : List ℕ) → NumberedAsNamed (chart_system c) (blocks_of c) → blocks_of c ≤ 255 → NotedFrom c 0 0 rs bs
    → (k : ℕ) → k < blocks_of c → Falling rs k
noted_falling c rs bs N few F k h j p l = (naming_next N (get_or rs j 0) (get_or bs j 0) j p (omega arith) (noted_first c rs bs N few F j p (omega arith))).0

-- the word along first namings, where these are noted
pub word_along : (t : System ℕ) (rs bs : List ℕ) (k : ℕ) → Falling rs k → ((j : ℕ) → 0 < j → j ≤ k → FirstNaming t (get_or rs j 0) (get_or bs j 0) j)
    → Along t k (noted_word rs bs k)
unfolding noted_word climbed
word_along t rs bs k F G = go k k (omega arith) (omega arith)
  where
    go : (m j : ℕ) → j ≤ m → j ≤ k → Along t j (climbed m rs bs j)
    go zero zero h l = along_start
    go zero (suc j) h l = absurd (omega arith)
    go (suc m) zero h l = along_start
    go (suc m) (suc j) h l =
        let f = F (suc j) (omega arith) l in
        along_naming {k = suc j} (go m (get_or rs (suc j) 0) (omega arith) (omega arith)) (omega arith) (G (suc j) (omega arith) l)

pub noted_along : (c rs bs : List ℕ) → NumberedAsNamed (chart_system c) (blocks_of c) → blocks_of c ≤ 255 → NotedFrom c 0 0 rs bs
    → (k : ℕ) → k < blocks_of c → Along (chart_system c) k (noted_word rs bs k)
noted_along c rs bs N few F k h =
    word_along (chart_system c) rs bs k (noted_falling c rs bs N few F k h) (λ j p l. noted_first c rs bs N few F j p (omega arith))

-- which a buffer has room for that has a byte for each block but one
pub noted_room : (c rs bs : List ℕ) → NumberedAsNamed (chart_system c) (blocks_of c) → blocks_of c ≤ 255 → NotedFrom c 0 0 rs bs
    → (k room : ℕ) → k < blocks_of c → blocks_of c ≤ room + 1 → length (noted_word rs bs k) ≤ room
noted_room c rs bs N few F k room h l = omega (arith, along_length N h (noted_along c rs bs N few F k h))
