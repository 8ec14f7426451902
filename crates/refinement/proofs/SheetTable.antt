-- Tables of a sheet: a row is a representative and a box. The first table, cuts and new rows by regions and preimages; the boxes of a stable table are
-- class boxes, and its walk gives the chart and the box list.
use Rattle.std.specs.Prelude.{ℕ, suc, ◌<◌, ◌≡◌, refl, ◌↔◌, true, List, T, length, get_or, Some, None}
use Rattle.std.proofs.Math.Decide.{dec_lt}
use native.Mathlib.Omega.{arith}
use Rattle.std.proofs.Common.{sym, ap, ◌∙◌}
use Rattle.std.proofs.Math.Path.{subst}
use borrow.Author.Tests.{lt-ltb}
use Rattle.std.proofs.Math.ListN.{get_or-eq_default}
use Rattle.systems.specs.Alike.{Both, both_barred, both_open}
use Rattle.systems.proofs.Alike.{alike_label}
use Rattle.exploration.proofs.Explored.{refused}
use Rattle.model.specs.declared.Rule.{Rule}
use Rattle.model.specs.Sheet.{Configuration, Move, Barred, Open, Region, Sheet, in_box, region_of, landing, moved, step, sheet_system, Covered, WellFormed}
use Rattle.model.specs.Sheet.{MoveFits, barred_fits, open_fits, RuleFits, Each}
use Rattle.model.specs.Blocks.{preimage, same_class, blocks, too_many}
use Rattle.model.proofs.Boxes.{in_box_parts, inside_length, inside_fits, within_ordered, box_inside, preimage_exact}
use Rattle.model.proofs.Classes.{each_at, region_eq, region_box, region_fits, label_number}
use Rattle.model.specs.ClassTheorem.{ClassFits}
use Rattle.model.proofs.ClassTheorem.{step_bounded, sheet_explorable}
use Rattle.refinement.specs.Table.{Framed, SoundRow, Sound, Leads, Whole, Cut}
use Rattle.refinement.proofs.Table.{first_sound, cut_sound, append_sound, new_many, next_covered}
use Rattle.refinement.specs.SheetTable.{Row, sheet_frame, move_at, region_row, cut_row}

pub step_open : (s : Sheet) (a : ℕ) (x : Configuration) {target : ℕ} {rules : List Rule} → move_at s a x ≡ Open target rules → step s a x ≡ Some (landing target rules x)
unfolding step moved
step_open s a x e = ap (λ (m : Move). moved m x) e

pub step_barred : (s : Sheet) (a : ℕ) (x : Configuration) → move_at s a x ≡ Barred → step s a x ≡ None
unfolding step moved
step_barred s a x e = ap (λ (m : Move). moved m x) e

-- a move is within its limits, also past the last
moves_fit_at : {V# : ℕ} (moves : List Move) (a : ℕ) → Each (MoveFits V#) moves → MoveFits V# (get_or moves a Barred)
moves_fit_at {V#} moves a f = go (dec_lt a (length moves))
  where
    go : Dec (a < length moves) → MoveFits V# (get_or moves a Barred)
    go (yes h) = each_at f a Barred h
    go (no h) = subst (MoveFits V#) (sym (get_or-eq_default moves Barred (omega arith))) barred_fits

open_parts : {V# : ℕ} {m : Move} {target : ℕ} {rules : List Rule} → MoveFits V# m → m ≡ Open target rules → (length rules ≡ V#) × Each (RuleFits V#) rules
open_parts barred_fits e = let z : ◌≡◌ {A = ℕ} 0 1 = cc in absurd (omega arith)
open_parts {V#} {rules = rules} (open_fits {rules = rules'} h l f) e =
    let q : rules' ≡ rules = cc in
    (subst (λ (k : List Rule). length k ≡ V#) q l, subst (Each (RuleFits V#)) q f)

moved_both : (m : Move) (x y : Configuration) → Both (λ (x' y' : Configuration). Unit {0}) (moved m x) (moved m y)
unfolding moved
moved_both Barred x y = both_barred
moved_both (Open target rules) x y = both_open tt

module _ (s : Sheet) (W : WellFormed s) where
  -- A well-formed sheet is such a frame.
  pub sheet_framed : Framed (sheet_frame s)
  unfolding sheet_system step
  sheet_framed =
      record {
        starts = W.start_covered;
        closed = λ a x y. W.moves_land x y a;
        labels = λ x y c d e. (label_number s W x y c d).1 e;
        opens =
            λ x y c d e a.
            subst (λ (r : Region). Both (λ (x' y' : Configuration). Unit {0}) (moved (get_or (region_of s x).moves a Barred) x) (moved (get_or r.moves a Barred) y)) (region_eq s x y e)
            (moved_both (get_or (region_of s x).moves a Barred) x y);
        saturates = λ x y c d r. (label_number s W x y c d).0 (alike_label (sheet_system s) (sheet_system s) x y r);
        bounded = step_bounded s W;
      }

  -- the box of a region is a whole region
  pub region_whole : (x : Configuration) → Covered s x → Whole (sheet_frame s) x (region_row s x)
  unfolding region_row
  region_whole x c =
      record {
        represents = refl;
        exact = λ y. let r = region_box s W x y c in (λ t. let e = r.0 t in (omega arith, e), λ (d, e). r.1 e);
      }

  -- The box of a sound row: its state, counts, limits, and that it lies inside the region of its representative.
  pub row_fits : (r : Row) → SoundRow (sheet_frame s) r → ClassFits s r.representative r.box
  row_fits r R =
      let h = R.covered r.representative R.holds in
      let (e, w) = (in_box_parts r.box r.representative).0 R.holds in
      let (d, i) =
      box_inside r.box (region_of s r.representative).box r.representative R.holds (λ y t. (region_box s W r.representative y h).1 (R.regional y t)) in
      let G = region_fits s W r.representative h in
      record {
        state_own = e;
        ranges_count = inside_length i ∙ G.ranges_count;
        ranges_fit = inside_fits i (within_ordered r.box.ranges r.representative.values w) G.ranges_fit;
        ranges_inside = i;
      }

  -- an open move is within its limits
  pub open_fits_at : (a : ℕ) (x : Configuration) {target : ℕ} {rules : List Rule} → Covered s x → move_at s a x ≡ Open target rules
      → (length rules ≡ s.counters) × Each (RuleFits s.counters) rules
  open_fits_at a x c e = open_parts (moves_fit_at (region_of s x).moves a (region_fits s W x c).moves_fit) e

  -- an open move leads into the row that has its landing
  pub leads_in : (a : ℕ) (x : Configuration) (w : Row) {target : ℕ} {rules : List Rule} → move_at s a x ≡ Open target rules
      → T (in_box w.box (landing target rules x)) → Leads (sheet_frame s) a x w
  unfolding sheet_system
  leads_in a x w {target} {rules} e t = record { next = landing target rules x; leads = step_open s a x e; inside = t }

  -- A preimage is a cut.
  pub preimage_cut : (a : ℕ) (r w : Row) {target : ℕ} {rules : List Rule} → SoundRow (sheet_frame s) r → SoundRow (sheet_frame s) w
      → move_at s a r.representative ≡ Open target rules → Cut (sheet_frame s) a r w (cut_row r target rules w)
  unfolding cut_row sheet_system
  preimage_cut a r w {target} {rules} R S e = record { represents = refl; exact = exact_at }
    where
      c : Covered s r.representative
      c = R.covered r.representative R.holds

      same_move : (y : Configuration) → T (in_box r.box y) → move_at s a y ≡ Open target rules
      same_move y t = ap (λ (q : Region). get_or q.moves a Barred) (sym (region_eq s r.representative y (R.regional y t))) ∙ e

      exact_at : (y : Configuration) → T (in_box (preimage r.box target rules w.box) y) ↔ (T (in_box r.box y) × Leads (sheet_frame s) a y w)
      exact_at y =
          let (l, f) = open_fits_at a r.representative c e in
          let n = (row_fits w S).ranges_count in
          let p = preimage_exact r.box target rules w.box y f (omega arith) (row_fits r R).ranges_count W.counters_some in (
            λ t. let (u, v) = p.0 t in (u, leads_in a y w (same_move y u) v),
            λ (u, L).
                let q : Some L.next ≡ Some (landing target rules y) = sym L.leads ∙ step_open s a y (same_move y u) in
                let q' : L.next ≡ landing target rules y = cc in
                p.1 (u, subst (λ (z : Configuration). T (in_box w.box z)) q' L.inside),
          )

  -- The first table is sound.
  pub sheet_first : (row : ℕ → Row) → row 0 ≡ region_row s s.start → Sound (sheet_frame s) 1 row
  sheet_first row e = first_sound (sheet_frame s) sheet_framed row (subst (Whole (sheet_frame s) s.start) (sym e) (region_whole s.start W.start_covered))

  -- Cut: row i replaced by its preimage cut keeps a table sound.
  pub sheet_cut : {n : ℕ} {row : ℕ → Row} (row' : ℕ → Row) (i a j : ℕ) {target : ℕ} {rules : List Rule} → Sound (sheet_frame s) n row → i < n → j < n
      → move_at s a (row i).representative ≡ Open target rules → T (in_box (row j).box (landing target rules (row i).representative))
      → row' i ≡ cut_row (row i) target rules (row j) → ((k : ℕ) → k < n → (k ≡ i → ⊥) → row' k ≡ row k)
      → Sound (sheet_frame s) n row' × Cut (sheet_frame s) a (row i) (row j) (row' i)
  sheet_cut {n} {row} row' i a j S hi hj e t q f =
      let D = subst (Cut (sheet_frame s) a (row i) (row j)) (sym q) (preimage_cut a (row i) (row j) (S.rows i hi) (S.rows j hj) e) in
      (cut_sound (sheet_frame s) sheet_framed row' i a j S hi hj (leads_in a (row i).representative (row j) e t) D f, D)

  -- Append: the landing of an open move that is in no row, with the box of its region, keeps a table sound.
  pub sheet_append : {n : ℕ} {row : ℕ → Row} (row' : ℕ → Row) (i a : ℕ) {target : ℕ} {rules : List Rule} → Sound (sheet_frame s) n row → i < n
      → move_at s a (row i).representative ≡ Open target rules → ((k : ℕ) → k < n → T (in_box (row k).box (landing target rules (row i).representative)) → ⊥)
      → row' n ≡ region_row s (landing target rules (row i).representative) → ((k : ℕ) → k < n → row' k ≡ row k) → Sound (sheet_frame s) (suc n) row'
  unfolding sheet_system
  sheet_append {n} {row} row' i a {target} {rules} S hi e f q g =
      let l = step_open s a (row i).representative e in
      let c = next_covered (sheet_frame s) sheet_framed a (row i) (landing target rules (row i).representative) (S.rows i hi) l in
      append_sound (sheet_frame s) sheet_framed row' i a (landing target rules (row i).representative) S hi l f
      (subst (Whole (sheet_frame s) (landing target rules (row i).representative)) (sym q) (region_whole (landing target rules (row i).representative) c)) g

  -- Refusal 9: with 255 rows and a landing in no row there are more than 255 blocks.
  pub sheet_many : {row : ℕ → Row} (i a : ℕ) {target : ℕ} {rules : List Rule} → Sound (sheet_frame s) 255 row → i < 255
      → move_at s a (row i).representative ≡ Open target rules → ((k : ℕ) → k < 255 → T (in_box (row k).box (landing target rules (row i).representative)) → ⊥)
      → too_many s ≡ true
  unfolding sheet_system too_many blocks
  sheet_many {row} i a {target} {rules} S hi e f =
      lt-ltb 255 (length (blocks s))
      ((refused (sheet_system s) (same_class s) s.actions s.start (Covered s) (sheet_explorable s W) 255).1
      (new_many (sheet_frame s) sheet_framed i a (landing target rules (row i).representative) S hi (step_open s a (row i).representative e) f))
