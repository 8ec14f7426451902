-- The refinement's state after a cut of a row.
use Rattle.std.specs.Prelude.{◌≡◌, true, ℕ, ◌+◌, ◌*◌, ◌≤◌, ◌<◌, length, set, ℤ}
use Rattle.std.proofs.Common.{sym, ◌∙◌, arith}
use Rattle.std.proofs.Math.Path.{subst}
use mathlib.Core.List.{List}
use Rattle.refinement.proofs.Potential.{falling_less}
use Rattle.refinement.specs.Loop.{Advance, rows_potential}
use Rattle.sheet_bytes.specs.declared.Shape.{Shape}
use Rattle.sheet_bytes.specs.declared.RegionMove.{RegionMove}
use Rattle.sheet_bytes.specs.Space.{land_three}
use Rattle.sheet_rules.specs.Decode.{decode}
use Rattle.table_rules.specs.Arrays.{config_in, flag_in, depth_in, source_in, fresh_in}
use Rattle.table_rules.specs.Marks.{RaisedTo}
use Rattle.table_rules.specs.Meaning.{Ready, row_in, holds_in}
use Rattle.table_rules.specs.Cutting.{cut_to, Settled, settled_same, settled_cut}
use Rattle.table_passes.specs.State.{State, Fell, OpenAt, actions_few, lowered_there, lowered_down, lowered_falling, state_same, state_cut, advance_same, advance_changed}

-- What an action of row i does to the flags: below the bound on what this pass has raised none rises, and that of the action is down.
pub record Bounded (shape : Shape) (f d : List ℕ) (n : ℕ) (f' d' : List ℕ) (i a : ℕ) : Type 0 where
  pub less : fresh_in d' ≤ fresh_in d
  pub kept : (k b : ℕ) → k < n → b < shape.actions → k < fresh_in d' → flag_in f k b ≡ 0 → flag_in f' k b ≡ 0
  pub own : i < fresh_in d' → flag_in f' i a ≡ 0

-- What a cut of row i gives: a state, a potential that does not rise, the flag of the action down where it stays or no flag that low was raised, and no flag
-- raised below the bound.
pub record Cutting (s : List ℕ) (shape : Shape) (c : List ℤ) (h f d : List ℕ) (n : ℕ) (c' : List ℤ) (t' f' d' : List ℕ) (i a : ℕ) : Type 0 where
  pub state : State s shape c' h t' f' d' n
  pub depths : (k : ℕ) → k < 255 → depth_in d' k ≡ depth_in d k
  pub bounded : Bounded shape f d n f' d' i a
  pub fell : Fell shape.counters c h f n c' h f' n
  pub lowered : rows_potential n (row_in shape.counters c' h) ≡ rows_potential n (row_in shape.counters c h) → flag_in f' i a ≡ 0

module _ {s : List ℕ} {shape : Shape} (R : Ready s shape) {c : List ℤ} {h t f d : List ℕ} {n : ℕ} (S : State s shape c h t f d n) (i a : ℕ) (hi : i < n) (ha : a < shape.actions) where
  -- the flag is lowered, and none raised
  pub lowered_bounded : (d' : List ℕ) → fresh_in d' ≤ fresh_in d → Bounded shape f d n (set f (255 * a + i) 0) d' i a
  lowered_bounded d' l =
      let few = S.working.few in
      let g = actions_few R in
      record {
        less = l;
        kept = λ k b h w q z. lowered_down f i a k b S.flags_room (omega arith) (omega arith) (omega arith) z;
        own = λ q. lowered_there f i a S.flags_room (omega arith) (omega arith);
      }

module _ {s : List ℕ} {shape : Shape} (R : Ready s shape) {c : List ℤ} {h t f d : List ℕ} {n : ℕ} (S : State s shape c h t f d n) (i a : ℕ) (hi : i < n) (ha : a < shape.actions)
    {m : RegionMove} (O : OpenAt s shape c h i a m) (j : ℕ) (hj : j < n) (u : holds_in shape.counters c h (land_three m (config_in c h i)) j ≡ true) where
  pub state_settled : (c' : List ℤ) (t' f' d' : List ℕ) → t' ≡ set t (255 * a + i) j → length d' ≡ length d
      → Settled m.rules shape.actions c t' (set f (255 * a + i) 0) d n i j c' f' d' → Cutting s shape c h f d n c' t' f' d' i a
  unfolding cut_to
  state_settled c' t' f' d' et ld (settled_same e ec ef N) =
      let few = S.working.few in
      let g = actions_few R in
      let p = rows_potential n (row_in shape.counters c h) in
      subst (λ (l : List ℕ). Cutting s shape c h f d n c' l f' d' i a) (sym et)
      (subst (λ (l : List ℤ). Cutting s shape c h f d n l (set t (255 * a + i) j) f' d' i a) (sym ec)
      (subst (λ (l : List ℕ). Cutting s shape c h f d n c (set t (255 * a + i) j) l d' i a) (sym ef)
      (record {
        state = state_same R S i a hi O j hj u d' ha ld N e;
        depths = N.depths;
        bounded = lowered_bounded R S i a hi ha d' N.fresh;
        fell = lowered_falling f n i a p S.flags_room few hi (omega arith);
        lowered = λ q. lowered_there f i a S.flags_room (omega arith) (omega arith);
      })))
  state_settled c' t' f' d' et ld (settled_cut ne ec P U) =
      let (Q, p) =
      state_cut R S i a hi O j hj u f' d' ha ld P ne (subst (λ (w : List ℕ). RaisedTo w i (source_in d' i) n (set f (255 * a + i) 0) f' shape.actions) et U) in
      let B = lowered_bounded R S i a hi ha d' P.notes.fresh in
      let v = P.fresh_from in
      subst (λ (l : List ℕ). Cutting s shape c h f d n c' l f' d' i a) (sym et)
      (subst (λ (l : List ℤ). Cutting s shape c h f d n l (set t (255 * a + i) j) f' d' i a) (sym ec)
      (record {
        state = Q;
        depths = P.notes.depths;
        bounded = record {
          less = B.less;
          kept = λ k b h w q z. U.below k b (omega arith) h ∙ B.kept k b h w q z;
          own = λ q. U.below i a (omega arith) hi ∙ B.own q;
        };
        fell = falling_less p;
        lowered = λ q. absurd (omega arith);
      }))

  -- what it did to the rows
  pub advance_settled : (c' : List ℤ) (t' f' d' : List ℕ) → Settled m.rules shape.actions c t' (set f (255 * a + i) 0) d n i j c' f' d'
      → Advance (decode s) n (row_in shape.counters c h) (row_in shape.counters c' h) i a j
  unfolding cut_to
  advance_settled c' t' f' d' (settled_same e ec ef N) =
      subst (λ (l : List ℤ). Advance (decode s) n (row_in shape.counters c h) (row_in shape.counters l h) i a j) (sym ec) (advance_same R S i a hi O j hj u e)
  advance_settled c' t' f' d' (settled_cut ne ec P U) =
      subst (λ (l : List ℤ). Advance (decode s) n (row_in shape.counters c h) (row_in shape.counters l h) i a j) (sym ec) (advance_changed R S i a hi O j hj u)
