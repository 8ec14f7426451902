-- The table of the algorithm: rows, each a representative with a set of configurations that holds its class. Sound tables, cuts, new rows, and what
-- a stable table holds. Knows nothing of boxes.
use Rattle.std.specs.Prelude.{ℕ, suc, ◌<◌, ◌≡◌, refl, ◌↔◌, T, Option, Some, None}
use Rattle.std.proofs.Math.Decide.{dec_lt, ℕ_discrete}
use Rattle.std.proofs.Common.{arith, sym, ap, subst, subst₂, ◌∙◌}
use Rattle.systems.specs.System.{Alike, Reached, at_start, by_step}
use Rattle.systems.specs.Alike.{Both, both_barred, both_open, Bisimulation}
use Rattle.systems.proofs.Alike.{both_right, bisimilar_alike, alike_next}
use Rattle.exploration.specs.Explored.{Many}
use Rattle.refinement.specs.Table.{Frame, Framed, SoundRow, Sound, Leads, Whole, Cut, Settled, StableAt, stable_barred, stable_open, Stable}

none_some : {X : Type 0} {A : Type 0} {o : Option X} {y : X} → o ≡ None → o ≡ Some y → A
none_some p q = let z : ◌≡◌ {A = ℕ} 0 1 = cc in absurd (omega arith)

module _ {X Row : Type 0} (F : Frame X Row) (E : Framed F) where
  -- A reached and covered configuration with its whole region is a sound row.
  pub whole_sound : (q : X) (r : Row) → Reached F.system F.start q → F.Covered q → Whole F q r → SoundRow F r
  whole_sound q r h c W =
      record {
        reached = subst (Reached F.system F.start) (sym W.represents) h;
        holds = subst (λ (z : X). T (F.has r z)) (sym W.represents) ((W.exact q).1 (c, refl));
        covered = λ x t. ((W.exact x).0 t).0;
        regional = λ x t. ap F.region W.represents ∙ ((W.exact x).0 t).1;
        saturated =
            λ x y t d e. let (c', g) = (W.exact x).0 t in (W.exact y).1 (d, g ∙ E.saturates x y c' d e);
      }

  -- The first table: the start with its whole region.
  pub first_sound : (row : ℕ → Row) → Whole F F.start (row 0) → Sound F 1 row
  first_sound row W =
      record {
        nonempty = omega arith;
        first = W.represents;
        rows = λ i h. subst (λ (k : ℕ). SoundRow F (row k)) (omega arith) (whole_sound F.start (row 0) at_start E.starts W);
        apart = λ i j b h. absurd (omega arith);
      }

  -- what is equivalent to what leads into a sound row leads into it
  leads_alike : (a : ℕ) (x y : X) (w : Row) → SoundRow F w → F.Covered y → Alike F.system F.system x y → Leads F a x w → Leads F a y w
  leads_alike a x y w S c e L =
      let (y', q, f) = both_right (F.system.step a x) (alike_next F.system F.system x y e a) L.leads in
      record { next = y'; leads = q; inside = S.saturated L.next y' L.inside (E.closed a y y' c q) f }

  -- A cut of a sound row by a sound row that its representative leads into is sound.
  pub cut_row_lem : (a : ℕ) (r w r' : Row) → SoundRow F r → SoundRow F w → Leads F a (F.representative r) w → Cut F a r w r' → SoundRow F r'
  cut_row_lem a r w r' R S L D =
      record {
        reached = subst (Reached F.system F.start) (sym D.represents) R.reached;
        holds = subst (λ (z : X). T (F.has r' z)) (sym D.represents) ((D.exact (F.representative r)).1 (R.holds, L));
        covered = λ x t. R.covered x ((D.exact x).0 t).0;
        regional = λ x t. ap F.region D.represents ∙ R.regional x ((D.exact x).0 t).0;
        saturated =
            λ x y t c e. let (u, M) = (D.exact x).0 t in (D.exact y).1 (R.saturated x y u c e, leads_alike a x y w S c e M);
      }

  -- A table stays sound when rows change to sound rows with the same representatives.
  pub replaced : {n : ℕ} {row : ℕ → Row} (row' : ℕ → Row) → Sound F n row → ((i : ℕ) → i < n → SoundRow F (row' i))
      → ((i : ℕ) → i < n → F.representative (row' i) ≡ F.representative (row i)) → Sound F n row'
  replaced row' S f e =
      record {
        nonempty = S.nonempty;
        first = e 0 S.nonempty ∙ S.first;
        rows = f;
        apart = λ i j b h r. S.apart i j b h (subst₂ (Alike F.system F.system) (e i (omega arith)) (e j h) r);
      }

  -- Cut: row i replaced by its cut, by the action a, to what leads into row j, which may be i itself.
  pub cut_sound : {n : ℕ} {row : ℕ → Row} (row' : ℕ → Row) (i a j : ℕ) → Sound F n row → i < n → j < n → Leads F a (F.representative (row i)) (row j)
      → Cut F a (row i) (row j) (row' i) → ((k : ℕ) → k < n → (k ≡ i → ⊥) → row' k ≡ row k) → Sound F n row'
  cut_sound {n} {row} row' i a j S hi hj L D e =
      replaced row' S
      (λ k h. go k h (ℕ_discrete k i))
      (λ k h. same k h (ℕ_discrete k i))
    where
      go : (k : ℕ) → k < n → Dec (k ≡ i) → SoundRow F (row' k)
      go k h (yes q) = subst (λ (m : ℕ). SoundRow F (row' m)) (sym q) (cut_row_lem a (row i) (row j) (row' i) (S.rows i hi) (S.rows j hj) L D)
      go k h (no q) = subst (SoundRow F) (sym (e k h q)) (S.rows k h)

      same : (k : ℕ) → k < n → Dec (k ≡ i) → F.representative (row' k) ≡ F.representative (row k)
      same k h (yes q) = ap (λ (m : ℕ). F.representative (row' m)) q ∙ D.represents ∙ ap (λ (m : ℕ). F.representative (row m)) (sym q)
      same k h (no q) = ap F.representative (e k h q)

  -- What is covered and not in row k is not equivalent to its representative.
  pub new_apart : {n : ℕ} {row : ℕ → Row} (k : ℕ) (q : X) → Sound F n row → k < n → F.Covered q → (T (F.has (row k) q) → ⊥)
      → Alike F.system F.system (F.representative (row k)) q → ⊥
  new_apart {n} {row} k q S h c f e = f ((S.rows k h).saturated (F.representative (row k)) q (S.rows k h).holds c e)

  -- a successor of a representative is reached and covered
  pub next_reached : (a : ℕ) (r : Row) (q : X) → SoundRow F r → F.system.step a (F.representative r) ≡ Some q → Reached F.system F.start q
  next_reached a r q R e = by_step a R.reached e

  pub next_covered : (a : ℕ) (r : Row) (q : X) → SoundRow F r → F.system.step a (F.representative r) ≡ Some q → F.Covered q
  next_covered a r q R e = E.closed a (F.representative r) q (R.covered (F.representative r) R.holds) e

  -- Append: a successor of a representative that is in no row, with its whole region.
  pub append_sound : {n : ℕ} {row : ℕ → Row} (row' : ℕ → Row) (i a : ℕ) (q : X) → Sound F n row → i < n
      → F.system.step a (F.representative (row i)) ≡ Some q → ((k : ℕ) → k < n → T (F.has (row k) q) → ⊥)
      → Whole F q (row' n) → ((k : ℕ) → k < n → row' k ≡ row k) → Sound F (suc n) row'
  append_sound {n} {row} row' i a q S hi s f W e =
      let p = S.nonempty in
      record {
        nonempty = omega arith;
        first = ap F.representative (e 0 p) ∙ S.first;
        rows = λ k h. go k (dec_lt k n) h;
        apart = λ k m b h r. apart k m b (dec_lt m n) h r;
      }
    where
      c : F.Covered q
      c = next_covered a (row i) q (S.rows i hi) s

      go : (k : ℕ) → Dec (k < n) → k < suc n → SoundRow F (row' k)
      go k (yes b) h = subst (SoundRow F) (sym (e k b)) (S.rows k b)
      go k (no b) h = subst (λ (m : ℕ). SoundRow F (row' m)) (omega arith) (whole_sound q (row' n) (next_reached a (row i) q (S.rows i hi) s) c W)

      apart : (k m : ℕ) → k < m → Dec (m < n) → m < suc n → Alike F.system F.system (F.representative (row' k)) (F.representative (row' m)) → ⊥
      apart k m b (yes d) h r = S.apart k m b d (subst₂ (λ (u v : Row). Alike F.system F.system (F.representative u) (F.representative v)) (e k (omega arith)) (e m d) r)
      apart k m b (no d) h r =
          let g : m ≡ n = omega arith in
          let hk : k < n = omega arith in
          new_apart k q S hk c (f k hk) (subst₂ (Alike F.system F.system) (ap F.representative (e k hk)) (ap (λ (z : ℕ). F.representative (row' z)) g ∙ W.represents) r)

  -- rows with equivalent representatives have one number
  pub one_row : {n : ℕ} {row : ℕ → Row} (i j : ℕ) → Sound F n row → i < n → j < n
      → Alike F.system F.system (F.representative (row i)) (F.representative (row j)) → i ≡ j
  one_row i j S hi hj r = go (dec_lt i j) (dec_lt j i)
    where
      go : Dec (i < j) → Dec (j < i) → i ≡ j
      go (yes b) d = absurd (S.apart i j b hj r)
      go (no b) (yes d) = absurd (S.apart j i d hi (λ w. sym (r w)))
      go (no b) (no d) = omega arith

  -- The representatives of a sound table are n reached configurations, no two of them equivalent,
  pub sound_many : {n : ℕ} {row : ℕ → Row} → Sound F n row → Many F.system F.start n
  sound_many {n} {row} S = record { each = λ i. F.representative (row i); reached = λ i h. (S.rows i h).reached; apart = S.apart }

  -- and with a successor of one of them that is in no row there are n + 1.
  pub new_many : {n : ℕ} {row : ℕ → Row} (i a : ℕ) (q : X) → Sound F n row → i < n → F.system.step a (F.representative (row i)) ≡ Some q
      → ((k : ℕ) → k < n → T (F.has (row k) q) → ⊥) → Many F.system F.start (suc n)
  new_many {n} {row} i a q S hi s f =
      record { each = λ k. pick k (dec_lt k n); reached = λ k h. reached k (dec_lt k n); apart = λ k m b h. apart k m b (dec_lt k n) (dec_lt m n) h }
    where
      pick : (k : ℕ) → Dec (k < n) → X
      pick k (yes b) = F.representative (row k)
      pick k (no b) = q

      reached : (k : ℕ) (d : Dec (k < n)) → Reached F.system F.start (pick k d)
      reached k (yes b) = (S.rows k b).reached
      reached k (no b) = next_reached a (row i) q (S.rows i hi) s

      apart : (k m : ℕ) → k < m → (d : Dec (k < n)) (e : Dec (m < n)) → m < suc n → Alike F.system F.system (pick k d) (pick m e) → ⊥
      apart k m b (yes d) (yes e) h r = S.apart k m b e r
      apart k m b (yes d) (no e) h r = new_apart k q S d (next_covered a (row i) q (S.rows i hi) s) (f k d) r
      apart k m b (no d) e h r = omega arith

  -- a cut that leaves the row as it was says that the row is settled
  pub cut_settled : {a : ℕ} {r w r' : Row} → Cut F a r w r' → r' ≡ r → Settled F a r w
  cut_settled {r = r} {r' = r'} D e y t = ((D.exact y).0 (subst (λ (u : Row). T (F.has u y)) (sym e) t)).1

  -- two configurations are in one row
  together : (n : ℕ) (row : ℕ → Row) → X → X → Type 0
  together n row x y = (i : ℕ) × (i < n) × T (F.has (row i) x) × T (F.has (row i) y)

  -- an action that is barred for the representative of a sound row is barred for all of it
  pub row_barred : (r : Row) (a : ℕ) (x : X) → SoundRow F r → T (F.has r x) → F.system.step a (F.representative r) ≡ None → F.system.step a x ≡ None
  row_barred r a x R t e =
      go (F.system.step a (F.representative r)) (E.opens (F.representative r) x (R.covered (F.representative r) R.holds) (R.covered x t) (R.regional x t) a) e
    where
      go : (o : Option X) {u : Option X} → Both (λ (x' y' : X). Unit {0}) o u → o ≡ None → u ≡ None
      go o both_barred q = refl
      go o (both_open h) q = none_some q refl

  module _ {n : ℕ} {row : ℕ → Row} {t : ℕ → ℕ → ℕ} (S : Sound F n row) (B : Stable F n row t) where
    -- the rows of a stable table are the classes of a bisimulation
    stable_bisimulation : Bisimulation F.system F.system (together n row)
    unfolding together
    stable_bisimulation = record { label = label; next = λ x y p a. next x y p a (dec_lt a F.actions) }
      where
        label : (x y : X) → together n row x y → F.system.label x ≡ F.system.label y
        label x y (i, h, u, v) =
            let R = S.rows i h in
            E.labels x y (R.covered x u) (R.covered y v) (sym (R.regional x u) ∙ R.regional y v)

        next : (x y : X) → together n row x y → (a : ℕ) → Dec (a < F.actions) → Both (together n row) (F.system.step a x) (F.system.step a y)
        next x y p a (no d) = rw (E.bounded a (omega arith) x, E.bounded a (omega arith) y) both_barred
        next x y (i, h, u, v) a (yes d) = go (t i a) (B i a h d)
          where
            go : (m : ℕ) → StableAt F n row (row i) a m → Both (together n row) (F.system.step a x) (F.system.step a y)
            go m (stable_barred e q) = rw (row_barred (row i) a x (S.rows i h) u e, row_barred (row i) a y (S.rows i h) v e) both_barred
            go m (stable_open b f) =
                let L = f x u in
                let M = f y v in
                rw (L.leads, M.leads) (both_open (m, b, L.inside, M.inside))

    -- Exactness: the rows of a sound and stable table are the classes of their representatives.
    pub exact : (i : ℕ) → i < n → (y : X) → T (F.has (row i) y) ↔ (F.Covered y × Alike F.system F.system (F.representative (row i)) y)
    unfolding together
    exact i h y =
        let R = S.rows i h in (
          λ u. (R.covered y u, bisimilar_alike F.system F.system stable_bisimulation (F.representative (row i)) y (i, h, R.holds, u)),
          λ (c, e). R.saturated (F.representative (row i)) y R.holds c e,
        )

    -- what is in one row is equivalent
    pub row_alike : (i : ℕ) → i < n → (x y : X) → T (F.has (row i) x) → T (F.has (row i) y) → Alike F.system F.system x y
    unfolding together
    row_alike i h x y u v = bisimilar_alike F.system F.system stable_bisimulation x y (i, h, u, v)

    -- what is equivalent is in one row, and only one
    pub alike_row : (i j : ℕ) → i < n → j < n → (x y : X) → T (F.has (row i) x) → T (F.has (row j) y) → Alike F.system F.system x y → i ≡ j
    alike_row i j hi hj x y u v e =
        one_row i j S hi hj (λ w. ((exact i hi x).0 u).1 w ∙ e w ∙ sym (((exact j hj y).0 v).1 w))
