-- How deep each row of a table is: to what depth its members read as its representative does. Knows nothing of boxes.
use Rattle.std.specs.Prelude.{ℕ, suc, ◌≤◌, ◌<◌, ◌≡◌, refl, T, Option, Some, None}
use Rattle.std.proofs.Math.Decide.{dec_lt}
use Rattle.std.proofs.Common.{arith, sym, ap, subst, subst₂, ◌∙◌, ⊎_elim}
use Rattle.systems.specs.Alike.{Both, both_barred, both_open, AlikeTo}
use Rattle.systems.proofs.Alike.{alike_to_zero, alike_to_suc, alike_to_le, alike_to_equivalence}
use Rattle.refinement.specs.Table.{Frame, Framed, SoundRow, Settled, StableAt, stable_barred, stable_open}
use Rattle.refinement.proofs.Table.{row_barred}
use Rattle.refinement.specs.Depth.{Shrunk, Deep, AllDeep, Near, Reaches}

none_some : {X : Type 0} {A : Type 0} {o : Option X} {y : X} → o ≡ None → o ≡ Some y → A
none_some u v = let z : ◌≡◌ {A = ℕ} 0 1 = cc in absurd (omega arith)

module _ {X Row : Type 0} (F : Frame X Row) where
  pub shrunk_refl : {n : ℕ} {row : ℕ → Row} → Shrunk F n row row
  shrunk_refl = record { represents = λ k h. refl; inside = λ k h y t. t }

  pub shrunk_trans : {n : ℕ} {row row' row'' : ℕ → Row} → Shrunk F n row row' → Shrunk F n row' row'' → Shrunk F n row row''
  shrunk_trans A B = record { represents = λ k h. B.represents k h ∙ A.represents k h; inside = λ k h y t. A.inside k h y (B.inside k h y t) }

  -- in the first of the rows too
  pub shrunk_first : {n r : ℕ} {row row' : ℕ → Row} → n ≤ r → Shrunk F r row row' → Shrunk F n row row'
  shrunk_first l S = record { represents = λ k b. S.represents k (omega arith); inside = λ k b. S.inside k (omega arith) }

  -- less deep is what is deeper
  pub deep_le : {n : ℕ} {row : ℕ → Row} {k m : ℕ} (i : ℕ) → m ≤ k → Deep F n row k i → Deep F n row m i
  deep_le {row = row} i l D =
      record {
        members = λ y t. alike_to_le F.system F.system (F.representative (row i)) y l (D.members y t);
        closed = λ m a q h e. D.closed m a q (omega arith) e;
      }

  -- A row stays as deep where it shrinks, others shrink, and rows come.
  pub deep_kept : {n n' : ℕ} {row row' : ℕ → Row} {k : ℕ} (i : ℕ) → n ≤ n' → i < n → ((j : ℕ) → j < n → F.representative (row' j) ≡ F.representative (row j))
      → ((y : X) → T (F.has (row' i) y) → T (F.has (row i) y)) → Deep F n row k i → Deep F n' row' k i
  deep_kept {row = row} {row' = row'} {k = k} i l h e f D =
      record {
        members = λ y t. subst (λ (p : X). AlikeTo k F.system F.system p y) (sym (e i h)) (D.members y (f y t));
        closed = λ m a q b s.
            let (j, c, r) = D.closed m a q b (ap (F.system.step a) (sym (e i h)) ∙ s) in
            (j, omega arith, subst (λ (p : X). AlikeTo m F.system F.system p q) (sym (e j c)) r);
      }

  pub deep_shrunk : {n : ℕ} {row row' : ℕ → Row} {d : ℕ → ℕ} → Shrunk F n row row' → AllDeep F n row d → AllDeep F n row' d
  deep_shrunk {n} {row} {row'} S D i h = deep_kept {row = row} {row' = row'} i (omega arith) h S.represents (S.inside i h) (D i h)

  -- What is near stays so where its row and others shrink.
  pub near_kept : {n : ℕ} {row row' : ℕ → Row} {r r' : Row} {k a : ℕ} → ((j : ℕ) → j < n → F.representative (row' j) ≡ F.representative (row j))
      → F.representative r' ≡ F.representative r → ((y : X) → T (F.has r' y) → T (F.has r y)) → Near F n row k r a → Near F n row' k r' a
  near_kept {row' = row'} {r = r} {r' = r'} {k = k} {a = a} e p f N =
      record {
        leads = λ y t.
            subst (λ (z : X). Both (AlikeTo k F.system F.system) (F.system.step a z) (F.system.step a y)) (sym p) (N.leads y (f y t));
        known = λ q s.
            let (j, c, u) = N.known q (ap (F.system.step a) (sym p) ∙ s) in
            (j, c, subst (λ (z : X). AlikeTo k F.system F.system z q) (sym (e j c)) u);
      }

  pub reaches_kept : {n : ℕ} {row row' : ℕ → Row} {d : ℕ → ℕ} {a t : ℕ} (i : ℕ) → i < n → Shrunk F n row row' → Reaches F n row d (row i) a t → Reaches F n row' d (row' i) a t
  reaches_kept {row = row} {row' = row'} i h S R =
      record { near = λ k c. near_kept {row = row} {r = row i} {r' = row' i} S.represents (S.represents i h) (S.inside i h) (R.near k c) }

  -- What is led into a deep row is near.
  pub near_settled : {n : ℕ} {row : ℕ → Row} {d : ℕ → ℕ} {r : Row} {a k : ℕ} (t : ℕ) → AllDeep F n row d → t < n → k ≤ d t → T (F.has r (F.representative r))
      → Settled F a r (row t) → Near F n row k r a
  near_settled {n} {row} {d} {r} {a} {k} t D h l c s =
      let L = s (F.representative r) c in
      let Q = alike_to_equivalence k F.system in
      record {
        leads = λ y u.
            let M = s y u in
            subst₂ (Both (AlikeTo k F.system F.system)) (sym L.leads) (sym M.leads)
            (both_open (Q.trans L.next (F.representative (row t)) M.next (Q.symm (F.representative (row t)) L.next (member L.next L.inside)) (member M.next M.inside)));
        known = λ q e.
            let z : Some L.next ≡ Some q = sym L.leads ∙ e in
            let z' : L.next ≡ q = cc in
            (t, h, subst (AlikeTo k F.system F.system (F.representative (row t))) z' (member L.next L.inside));
      }
    where
      member : (y : X) → T (F.has (row t) y) → AlikeTo k F.system F.system (F.representative (row t)) y
      member y u = alike_to_le F.system F.system (F.representative (row t)) y l ((D t h).members y u)

  pub reaches_settled : {n : ℕ} {row : ℕ → Row} {d : ℕ → ℕ} {r : Row} {a : ℕ} (t : ℕ) → n ≤ 255 → AllDeep F n row d → t < n → T (F.has r (F.representative r))
      → Settled F a r (row t) → Reaches F n row d r a t
  reaches_settled {d = d} t few D h c s = record { near = λ k. ⊎_elim (λ e. absurd (omega arith)) (λ l. near_settled t D h l c s) }

  module _ (E : Framed F) where
    -- a barred action is near to every depth
    pub near_barred : {n : ℕ} {row : ℕ → Row} {k : ℕ} (r : Row) (a : ℕ) → SoundRow F r → F.system.step a (F.representative r) ≡ None → Near F n row k r a
    near_barred {k = k} r a R e =
        record {
          leads = λ y t. subst₂ (Both (AlikeTo k F.system F.system)) (sym e) (sym (row_barred F E r a y R t e)) both_barred;
          known = λ q s. none_some e s;
        }

    -- and so is a stable action to the depth of its target
    pub reaches_stable : {n : ℕ} {row : ℕ → Row} {d : ℕ → ℕ} (r : Row) (a t : ℕ) → n ≤ 255 → AllDeep F n row d → SoundRow F r → StableAt F n row r a t
        → Reaches F n row d r a t
    reaches_stable r a t few D R (stable_barred e q) = record { near = λ k c. near_barred r a R e }
    reaches_stable r a t few D R (stable_open h s) = reaches_settled t few D h R.holds s

    -- a sound row is 0 deep
    pub deep_zero : {n : ℕ} {row : ℕ → Row} (i : ℕ) → SoundRow F (row i) → Deep F n row 0 i
    deep_zero {row = row} i R =
        record {
          members = λ y t.
              (alike_to_zero F.system F.system (F.representative (row i)) y).1
              (E.labels (F.representative (row i)) y (R.covered (F.representative (row i)) R.holds) (R.covered y t) (R.regional y t));
          closed = λ m a q l e. absurd (omega arith);
        }

    -- Where every action is near to depth k, a row is one deeper.
    pub near_deep : {n : ℕ} {row : ℕ → Row} {k : ℕ} (i : ℕ) → SoundRow F (row i) → ((a : ℕ) → a < F.actions → Near F n row k (row i) a) → Deep F n row (suc k) i
    near_deep {n} {row} {k} i R N =
        record {
          members = λ y t.
              (alike_to_suc F.system F.system k (F.representative (row i)) y).1
              (E.labels (F.representative (row i)) y (R.covered (F.representative (row i)) R.holds) (R.covered y t) (R.regional y t), λ a. next y t a (dec_lt a F.actions));
          closed = λ m a q l e. onward m a q l e (dec_lt a F.actions);
        }
      where
        next : (y : X) → T (F.has (row i) y) → (a : ℕ) → Dec (a < F.actions)
            → Both (AlikeTo k F.system F.system) (F.system.step a (F.representative (row i))) (F.system.step a y)
        next y t a (yes b) = (N a b).leads y t
        next y t a (no b) =
            subst₂ (Both (AlikeTo k F.system F.system)) (sym (E.bounded a (omega arith) (F.representative (row i)))) (sym (E.bounded a (omega arith) y)) both_barred

        onward : (m a : ℕ) (q : X) → m < suc k → F.system.step a (F.representative (row i)) ≡ Some q → Dec (a < F.actions)
            → (j : ℕ) × (j < n) × AlikeTo m F.system F.system (F.representative (row j)) q
        onward m a q l e (no b) = none_some (E.bounded a (omega arith) (F.representative (row i))) e
        onward m a q l e (yes b) =
            let (j, h, r) = (N a b).known q e in
            (j, h, alike_to_le F.system F.system (F.representative (row j)) q (omega arith) r)

    -- A new row begins at depth 0, and the others keep theirs.
    pub deep_append : {n : ℕ} {row row' : ℕ → Row} {d d' : ℕ → ℕ} → SoundRow F (row' n) → ((k : ℕ) → k < n → row' k ≡ row k) → ((k : ℕ) → k < n → d' k ≡ d k) → d' n ≡ 0
        → AllDeep F n row d → AllDeep F (suc n) row' d'
    deep_append {n} {row} {row'} {d} {d'} R e g z D i h = go (dec_lt i n)
      where
        go : Dec (i < n) → Deep F (suc n) row' (d' i) i
        go (yes l) =
            deep_kept {row = row} {row' = row'} i (omega arith) l (λ j c. ap F.representative (e j c)) (λ y. subst (λ (r : Row). T (F.has r y)) (e i l))
            (subst (λ (k : ℕ). Deep F n row k i) (sym (g i l)) (D i l))
        go (no l) =
            let q : n ≡ i = omega arith in
            subst (λ (k : ℕ). Deep F (suc n) row' (d' k) k) q (subst (λ (k : ℕ). Deep F (suc n) row' k n) (sym z) (deep_zero n R))
