-- The state of the refinement loop, and what each of its steps does to it: the laws that the code's loop invariants are made of.
use Rattle.std.specs.Prelude.{ℕ, suc, ◌≤◌, ◌<◌, ◌≡◌, refl, ◌⊎◌, true, List}
use Rattle.std.proofs.Math.Decide.{ℕ_discrete, dec_le}
use native.Mathlib.Omega.{arith}
use Rattle.std.proofs.Common.{sym, ◌∙◌, ⊎_elim}
use Rattle.std.proofs.Math.Path.{ap, subst}
use Rattle.std.proofs.Math.Dec.{T}
use Rattle.std.proofs.Math.ListN.{length}
use borrow.Author.Tests.{lt-ltb}
use Rattle.model.specs.declared.Rule.{Rule}
use Rattle.model.specs.Sheet.{Configuration, Barred, Open, Sheet, in_box, landing, sheet_system, WellFormed}
use Rattle.model.specs.Blocks.{blocks, too_many}
use Rattle.depth_rules.specs.DepthBound.{Doublings, depth_bound}
use Rattle.model.proofs.Classes.{covered_in}
use Rattle.refinement.specs.Table.{Sound, Cut, StableAt, stable_barred, stable_open}
use Rattle.refinement.proofs.Table.{cut_settled}
use Rattle.refinement.specs.Flags.{Elsewhere, Lowered}
use Rattle.refinement.proofs.Flags.{quiet_first, quiet_pass, quiet_cut, quiet_append, quiet_stable}
use Rattle.refinement.specs.SheetTable.{Row, sheet_frame, Completed, move_at, region_row, cut_row}
use Rattle.refinement.proofs.SheetTable.{step_open, step_barred, sheet_framed, preimage_cut, sheet_first, sheet_cut, sheet_append, sheet_many}
use Rattle.refinement.specs.Depth.{Shrunk, Deep, AllDeep, Reaches}
use Rattle.refinement.proofs.Depth.{shrunk_refl, deep_zero, deep_shrunk, deep_append, near_kept, near_barred, reaches_settled, reaches_stable}
use Rattle.refinement.proofs.DepthMore.{deep_raised}
use Rattle.refinement.proofs.BoundMore.{deep_same, deep_many}
use Rattle.refinement.proofs.Potential.{potential_same, potential_cut, potential_append}
use Rattle.refinement.specs.Widths.{row_width, widest}
use Rattle.refinement.proofs.Widths.{row_width_lem, cut_narrower}
use Rattle.refinement.specs.Loop.{Working, rows_potential, OtherRows, Advance}

module _ (s : Sheet) (W : WellFormed s) where
  -- The first state: the start with its region, its flags up, at depth 0.
  pub working_first : {row : ℕ → Row} {t f : ℕ → ℕ → ℕ} {d : ℕ → ℕ} → row 0 ≡ region_row s s.start → ((b : ℕ) → b < s.actions → 0 < f 0 b) → d 0 ≡ 0 → Working s 1 row t f d
  working_first {row} {t} {f} {d} e h z =
      let S = sheet_first s W row e in
      record {
        few = omega arith;
        sound = S;
        quiet = quiet_first (sheet_frame s) (λ k b l c. let q : k ≡ 0 = omega arith in let g = ap (λ (m : ℕ). f m b) q in let u = h b c in omega arith);
        deep = λ i l.
            let q : 0 ≡ i = omega arith in
            subst (λ (k : ℕ). Deep (sheet_frame s) 1 row (d k) k) q
            (subst (λ (k : ℕ). Deep (sheet_frame s) 1 row k 0) (sym z) (deep_zero (sheet_frame s) (sheet_framed s W) {row = row} 0 (S.rows 0 (omega arith))));
      }

  module _ {n : ℕ} {row : ℕ → Row} {t f : ℕ → ℕ → ℕ} {d : ℕ → ℕ} where
    -- Action a of row i is barred: 255 is stored, and its flag lowered.
    pub working_barred : {t' f' : ℕ → ℕ → ℕ} (i a : ℕ) → Working s n row t f d → move_at s a (row i).representative ≡ Barred → t' i a ≡ 255
        → Elsewhere n s.actions i a t t' → Lowered n s.actions i a f f' → Working s n row t' f' d
    unfolding sheet_system
    working_barred {t'} i a Q e z g l =
        record {
          few = Q.few;
          sound = Q.sound;
          quiet = quiet_pass (sheet_frame s) i a Q.quiet (stable_barred (step_barred s a (row i).representative e) z) g l;
          deep = Q.deep;
        }

    -- Row j has the landing, and cutting row i by it leaves row i as it is: j is stored, and the flag lowered.
    pub working_same : {t' f' : ℕ → ℕ → ℕ} (i a j : ℕ) {target : ℕ} {rules : List Rule} → Working s n row t f d → i < n → j < n
        → move_at s a (row i).representative ≡ Open target rules → cut_row (row i) target rules (row j) ≡ row i → t' i a ≡ j
        → Elsewhere n s.actions i a t t' → Lowered n s.actions i a f f' → Working s n row t' f' d
    working_same {t'} i a j {target} {rules} Q hi hj e q z g l =
        let S = Q.sound in
        let D = preimage_cut s W a (row i) (row j) (S.rows i hi) (S.rows j hj) e in
        record {
          few = Q.few;
          sound = S;
          quiet =
              quiet_pass (sheet_frame s) i a Q.quiet
              (subst (StableAt (sheet_frame s) n row (row i) a) (sym z) (stable_open hj (cut_settled (sheet_frame s) (sheet_framed s W) D q))) g l;
          deep = Q.deep;
        }

    -- What a cut of row i by row j does to the rows, also where it leaves row i as it is.
    pub advance_cut : {row' : ℕ → Row} (i a j : ℕ) {target : ℕ} {rules : List Rule} → Working s n row t f d → i < n → j < n
        → move_at s a (row i).representative ≡ Open target rules → T (in_box (row j).box (landing target rules (row i).representative))
        → row' i ≡ cut_row (row i) target rules (row j) → OtherRows n i row row' → Advance s n row row' i a j
    advance_cut {row'} i a j Q hi hj e u q o =
        let (S, D) = sheet_cut s W row' i a j Q.sound hi hj e u q o in
        let N : Shrunk (sheet_frame s) n row row' =
        record { represents = λ k h. same k h (ℕ_discrete k i) D; inside = λ k h y v. within k h y v (ℕ_discrete k i) D } in
        record {
          shrunk = N;
          reaches = λ d E.
              near_rows N
              (reaches_settled (sheet_frame s) {row = row} {r = row' i} j Q.few E hj (S.rows i hi).holds (λ y v. ((D.exact y).0 v).1));
        }
      where
        same : (k : ℕ) → k < n → Dec (k ≡ i) → Cut (sheet_frame s) a (row i) (row j) (row' i) → (row' k).representative ≡ (row k).representative
        same k h (yes d) D = ap (λ (m : ℕ). (row' m).representative) d ∙ D.represents ∙ ap (λ (m : ℕ). (row m).representative) (sym d)
        same k h (no d) D = ap (λ (r : Row). r.representative) (o k h d)

        within : (k : ℕ) → k < n → (y : Configuration) → T (in_box (row' k).box y) → Dec (k ≡ i) → Cut (sheet_frame s) a (row i) (row j) (row' i) → T (in_box (row k).box y)
        within k h y v (yes d) D =
            subst (λ (m : ℕ). T (in_box (row m).box y)) (sym d) ((D.exact y).0 (subst (λ (m : ℕ). T (in_box (row' m).box y)) d v)).0
        within k h y v (no d) D = subst (λ (r : Row). T (in_box r.box y)) (o k h d) v

        near_rows : {e : ℕ → ℕ} → Shrunk (sheet_frame s) n row row' → Reaches (sheet_frame s) n row e (row' i) a j → Reaches (sheet_frame s) n row' e (row' i) a j
        near_rows N R = record { near = λ k c. near_kept (sheet_frame s) {row = row} {r = row' i} {r' = row' i} N.represents refl (λ y v. v) (R.near k c) }

    -- Row i is cut by row j, which has its landing; j is stored, and all actions with a target i have their flags up: the potential falls.
    pub working_cut : {row' : ℕ → Row} {t' f' : ℕ → ℕ → ℕ} (i a j : ℕ) {target : ℕ} {rules : List Rule} → Working s n row t f d → i < n → j < n
        → move_at s a (row i).representative ≡ Open target rules → T (in_box (row j).box (landing target rules (row i).representative))
        → row' i ≡ cut_row (row i) target rules (row j) → OtherRows n i row row' → (row' i ≡ row i → ⊥) → t' i a ≡ j → Elsewhere n s.actions i a t t'
        → Lowered n s.actions i a f f' → ((k b : ℕ) → k < n → b < s.actions → f' k b ≡ 0 → t' k b ≡ i → ⊥)
        → Working s n row' t' f' d × (rows_potential n row' < rows_potential n row)
    working_cut {row'} i a j Q hi hj e u q o ne z g l h =
        let (S, D) = sheet_cut s W row' i a j Q.sound hi hj e u q o in (
          record {
            few = Q.few;
            sound = S;
            quiet = quiet_cut (sheet_frame s) i a j Q.quiet hj D o z g l h;
            deep = deep_shrunk (sheet_frame s) (advance_cut {row' = row'} i a j Q hi hj e u q o).shrunk Q.deep;
          },
          potential_cut widest (λ k. row_width (row k)) (λ k. row_width (row' k)) n i hi
              (cut_narrower s W {a = a} {r = row i} {w = row j} {r' = row' i} (S.rows i hi) D ne) (λ k l d. ap row_width (o k l d)),
        )

    pub advance_barred : (i a : ℕ) → Working s n row t f d → i < n → move_at s a (row i).representative ≡ Barred → Advance s n row row i a 255
    unfolding sheet_system
    advance_barred i a Q hi e =
        record {
          shrunk = shrunk_refl (sheet_frame s);
          reaches = λ z E. record { near = λ k c. near_barred (sheet_frame s) (sheet_framed s W) (row i) a (Q.sound.rows i hi) (step_barred s a (row i).representative e) };
        }

    -- an action whose flag is down reaches as far as its target is deep
    pub advance_down : (i a : ℕ) → Working s n row t f d → i < n → a < s.actions → f i a ≡ 0 → Advance s n row row i a (t i a)
    advance_down i a Q h l e =
        record {
          shrunk = shrunk_refl (sheet_frame s);
          reaches = λ d E. reaches_stable (sheet_frame s) (sheet_framed s W) (row i) a (t i a) Q.few E (Q.sound.rows i h) (Q.quiet.stable i a h l e);
        }

    -- depths that are the same
    pub working_depths : {d' : ℕ → ℕ} → Working s n row t f d → ((k : ℕ) → k < n → d' k ≡ d k) → Working s n row t f d'
    working_depths Q e =
        record {
          few = Q.few;
          sound = Q.sound;
          quiet = Q.quiet;
          deep = λ i h. subst (λ (k : ℕ). Deep (sheet_frame s) n row k i) (sym (e i h)) (Q.deep i h);
        }

    -- a stored target that is not 255 is a row, where its flag is down
    pub working_target : (k b : ℕ) → Working s n row t f d → k < n → b < s.actions → f k b ≡ 0 → t k b < 255 → t k b < n
    working_target k b Q h l z w = go (t k b) w (Q.quiet.stable k b h l z)
      where
        go : (m : ℕ) → m < 255 → StableAt (sheet_frame s) n row (row k) b m → m < n
        go m w (stable_barred e q) = absurd (omega arith)
        go m w (stable_open l f) = l

    -- Depths that each are as they were, or one that the row has.
    pub working_level : {d' : ℕ → ℕ} (e : ℕ) → Working s n row t f d → ((j : ℕ) → (d' j ≡ d j) ⊎ ((d' j ≡ e) × Deep (sheet_frame s) n row e j)) → Working s n row t f d'
    working_level {d'} e Q g =
        record {
          few = Q.few;
          sound = Q.sound;
          quiet = Q.quiet;
          deep = λ i h.
              ⊎_elim (λ z. subst (λ (k : ℕ). Deep (sheet_frame s) n row k i) (sym z) (Q.deep i h)) (λ z. subst (λ (k : ℕ). Deep (sheet_frame s) n row k i) (sym z.0) z.1) (g i);
        }

    -- Row i is one deeper than all that its actions reach.
    pub working_deeper : {d' : ℕ → ℕ} (i k : ℕ) → Working s n row t f d → i < n → ((a : ℕ) → a < s.actions → Reaches (sheet_frame s) n row d (row i) a (t i a))
        → ((a : ℕ) → a < s.actions → (t i a ≡ 255) ⊎ (k ≤ d (t i a))) → (d' i ≤ d i) ⊎ (d' i ≤ suc k) → ((j : ℕ) → j < n → (j ≡ i → ⊥) → d' j ≡ d j)
        → Working s n row t f d'
    working_deeper {d'} i k Q h N c b e =
        record {
          few = Q.few;
          sound = Q.sound;
          quiet = Q.quiet;
          deep = deep_raised (sheet_frame s) (sheet_framed s W) {row = row} {d = d} (t i) i k (Q.sound.rows i h) Q.deep N c b e;
        }

    -- A landing in no row of a table that is 255 deep: there are too many blocks.
    pub working_deep : (i a : ℕ) {target : ℕ} {rules : List Rule} → Working s n row t f d → i < n → move_at s a (row i).representative ≡ Open target rules
        → ((k : ℕ) → k < n → T (in_box (row k).box (landing target rules (row i).representative)) → ⊥) → AllDeep (sheet_frame s) n row (λ k. 255) → too_many s ≡ true
    working_deep i a Q hi e u D = deep_many s W i a Q.sound D hi e u

    -- A cut that changes a box of a table that is as deep as the depth bound asks: there are too many blocks.
    pub working_fell : {row' : ℕ → Row} {t' f' : ℕ → ℕ → ℕ} {d' : ℕ → ℕ} (m e : ℕ) → Doublings s m → Working s n row t f d → AllDeep (sheet_frame s) n row (λ k. e) → 255 ≤ e
        → depth_bound s.counters n m ≤ e → Working s n row' t' f' d' → Shrunk (sheet_frame s) n row row' → (rows_potential n row' ≡ rows_potential n row → ⊥) → too_many s ≡ true
    unfolding too_many
    working_fell {row'} m e G Q D l b Q' N ne = lt-ltb 255 (length (blocks s)) (go (dec_le (length (blocks s)) 255))
      where
        go : Dec (length (blocks s) ≤ 255) → 255 < length (blocks s)
        go (no h) = omega arith
        go (yes h) =
            absurd
            (ne
            (potential_same widest (λ k. row_width (row k)) (λ k. row_width (row' k)) n (λ k c. ap row_width (deep_same s W h m e G Q.sound D l b Q'.sound N k c))))

    -- The landing is in no row: it comes as a new row with the box of its region, its flags up, at depth 0: the potential falls.
    pub working_append : {row' : ℕ → Row} {t' f' : ℕ → ℕ → ℕ} {d' : ℕ → ℕ} (i a : ℕ) {target : ℕ} {rules : List Rule} → Working s n row t f d → i < n → n < 255
        → move_at s a (row i).representative ≡ Open target rules → ((k : ℕ) → k < n → T (in_box (row k).box (landing target rules (row i).representative)) → ⊥)
        → row' n ≡ region_row s (landing target rules (row i).representative) → ((k : ℕ) → k < n → row' k ≡ row k)
        → ((k b : ℕ) → k < n → b < s.actions → t' k b ≡ t k b) → ((k b : ℕ) → k < n → b < s.actions → f' k b ≡ f k b) → ((b : ℕ) → b < s.actions → 0 < f' n b)
        → ((k : ℕ) → k < n → d' k ≡ d k) → d' n ≡ 0 → Working s (suc n) row' t' f' d' × (rows_potential (suc n) row' < rows_potential n row)
    working_append {row'} i a Q hi hn e u q o g h p w z =
        let S = sheet_append s W row' i a Q.sound hi e u q o in (
          record {
            few = hn;
            sound = S;
            quiet = quiet_append (sheet_frame s) Q.quiet o g (λ k b l c v. sym (h k b l c) ∙ v) p;
            deep = deep_append (sheet_frame s) (sheet_framed s W) {row = row} {row' = row'} (S.rows n (omega arith)) o w z Q.deep;
          },
          potential_append widest (λ k. row_width (row k)) (λ k. row_width (row' k)) n hn (row_width_lem s W (row' n) (S.rows n (omega arith))) (λ k l. ap row_width (o k l)),
        )

    -- the landing is in the new row
    pub landed : (row' : ℕ → Row) (i a : ℕ) {target : ℕ} {rules : List Rule} → Working s n row t f d → i < n
        → move_at s a (row i).representative ≡ Open target rules → row' n ≡ region_row s (landing target rules (row i).representative)
        → T (in_box (row' n).box (landing target rules (row i).representative))
    unfolding region_row sheet_system
    landed row' i a {target} {rules} Q hi e q =
        let R = Q.sound.rows i hi in
        let c = W.moves_land (row i).representative (landing target rules (row i).representative) a (R.covered (row i).representative R.holds)
        (step_open s a (row i).representative e) in
        subst (λ (r : Row). T (in_box r.box (landing target rules (row i).representative))) (sym q) (covered_in s (landing target rules (row i).representative) c)

    -- No flag is up: the table is completed.
    pub working_done : Working s n row t f d → ((k b : ℕ) → k < n → b < s.actions → f k b ≡ 0) → Completed s n row t
    working_done Q z = record { few = Q.few; sound = Q.sound; stable = quiet_stable (sheet_frame s) Q.quiet z }

    -- With 255 rows and a landing in no row there are too many blocks.
    pub working_many : (i a : ℕ) {target : ℕ} {rules : List Rule} → Working s n row t f d → i < n → n ≡ 255
        → move_at s a (row i).representative ≡ Open target rules → ((k : ℕ) → k < n → T (in_box (row k).box (landing target rules (row i).representative)) → ⊥)
        → too_many s ≡ true
    working_many i a Q hi e m u =
        sheet_many s W i a (subst (λ (k : ℕ). Sound (sheet_frame s) k row) e Q.sound) (omega arith) m (λ k h. u k (omega arith))
