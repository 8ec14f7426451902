-- The numbering walk over a completed table, step by step, as loops over members and actions do it.
use Rattle.std.specs.Prelude.{ℕ, suc, ◌≤◌, ◌<◌, ◌≡◌, ◌⊎◌, List, get_or}
use Rattle.std.proofs.Common.{arith, ap, ◌∙◌, ⊎_elim}
use Rattle.std.proofs.Math.Path.{sym, subst}
use Rattle.std.proofs.Math.Dec.{eqb}
use Rattle.std.proofs.Math.ListN.{length}
use Rattle.exploration.specs.Exploration.{added}
use Rattle.exploration.proofs.Explored.{present, member_stays}
use Rattle.model.specs.Sheet.{Sheet, WellFormed}
use Rattle.model.specs.Blocks.{same_class}
use Rattle.model.specs.Chart.{block_named}
use Rattle.model.proofs.ClassTheorem.{sheet_explorable}
use Rattle.refinement.specs.Numbering.{target_system, walk}
use Rattle.refinement.proofs.Numbering.{target_explorable, walk_bound}
use Rattle.refinement.specs.Walk.{Numbered, walking}
use Rattle.refinement.proofs.Walk.{numbered_first, numbered_old, numbered_new, walking_first, walking_zero, walking_next, walking_row, walking_done}
use Rattle.refinement.proofs.Walk.{walking_member, walking_longer, walking_bound, numbered_grows}
use Rattle.refinement.specs.SheetTable.{Row, sheet_frame, Completed}
use Rattle.refinement.proofs.SheetTable.{sheet_framed}
use Rattle.refinement.proofs.Completed.{completed_walk, completed_in, completed_stored}
use Rattle.refinement.specs.Ordering.{Ordering}

module _ (s : Sheet) (W : WellFormed s) {n : ℕ} {row : ℕ → Row} {t : ℕ → ℕ → ℕ} (D : Completed s n row t) where
  -- The first state: row 0 alone.
  pub ordering_first : {order number : ℕ → ℕ} → order 0 ≡ 0 → number 0 ≡ 0 → ((k : ℕ) → 0 < k → k ≤ 255 → number k ≡ 255) → Ordering s t order number 1 0 0
  ordering_first {order} {number} e z f =
      record { numbered = subst (λ (l : List ℕ). Numbered l order number 1) (sym (walking_first t s.actions)) (numbered_first e z f) }

  -- every member below n is there when its turn comes
  pub ordering_present : (m : ℕ) → m < n → m < length (walk t s.actions m)
  unfolding walk
  ordering_present m h =
      let e : length (walk t s.actions 255) ≡ n = completed_walk s W D in
      let b = D.few in
      present (target_system t s.actions) eqb s.actions 0 (λ i. Unit {0}) (target_explorable t s.actions) 255 m (omega arith) (omega arith)

  at_most : (m : ℕ) → length (walk t s.actions m) ≤ n
  at_most m = walk_bound (sheet_frame s) (sheet_framed s W) (same_class s) (sheet_explorable s W) D.few D.sound D.stable m

  module _ {order number : ℕ → ℕ} {c : ℕ} (m a : ℕ) (O : Ordering s t order number c m a) (h : m < n) where
    member : order m ≡ get_or (walk t s.actions m) m 0
    member =
        let e = O.numbered.count in
        let p = ordering_present m h in
        let g = walking_longer t s.actions m a in
        O.numbered.orders m (omega arith) ∙ walking_member t s.actions m a p

    -- the row of member m is a row of the table
    pub ordering_row : order m < n
    unfolding walk
    ordering_row =
        let e : length (walk t s.actions 255) ≡ n = completed_walk s W D in
        let b = D.few in
        let g = member_stays (target_system t s.actions) eqb s.actions 0 (λ i. Unit {0}) (target_explorable t s.actions) 255 m (omega arith) (omega arith) in
        subst (λ (i : ℕ). i < n) (g ∙ sym member) (completed_in s W D m h).0

    -- and its stored target names one, or is 255
    pub ordering_target : a < s.actions → (t (order m) a ≡ 255) ⊎ (t (order m) a < n)
    ordering_target b = completed_stored s W D (order m) a ordering_row b

    small : a < s.actions → t (order m) a ≤ 255
    small b = let f = D.few in ⊎_elim (λ e. omega arith) (λ e. omega arith) (ordering_target b)

    room : a ≤ s.actions → c ≤ 255
    room b =
        let e = O.numbered.count in
        let f = D.few in
        let g = walking_bound t s.actions n m a (at_most (suc m)) (ordering_present m h) b in
        omega arith

    next_is : a < s.actions → walking t s.actions m (suc a) ≡ added eqb (walking t s.actions m a) (block_named (t (order m) a))
    next_is b = walking_next t s.actions m a b ∙ ap (λ (i : ℕ). added eqb (walking t s.actions m a) (block_named (t i a))) (sym member)

    -- A target that is barred or has its place adds nothing.
    pub ordering_old : a < s.actions → (t (order m) a ≡ 255) ⊎ (number (t (order m) a) < 255) → Ordering s t order number c m (suc a)
    ordering_old b u =
        let j : t (order m) a ≤ 255 = small b in
        record {
          numbered =
              subst (λ (l : List ℕ). Numbered l order number c) (sym (next_is b ∙ numbered_old (t (order m) a) O.numbered j u)) O.numbered;
        }

    -- A target without a place gets the next one, for which there is room.
    pub ordering_room : a < s.actions → t (order m) a < 255 → number (t (order m) a) ≡ 255 → c < n
    ordering_room b l e =
        let q = ap length (next_is b) in
        let r = numbered_grows (t (order m) a) O.numbered (room (omega arith)) l e in
        let g = walking_bound t s.actions n m (suc a) (at_most (suc m)) (ordering_present m h) b in
        omega arith

    pub ordering_new : {order' number' : ℕ → ℕ} → a < s.actions → t (order m) a < 255 → number (t (order m) a) ≡ 255
        → order' c ≡ t (order m) a → ((k : ℕ) → k < c → order' k ≡ order k)
        → number' (t (order m) a) ≡ c → ((k : ℕ) → k ≤ 255 → (k ≡ t (order m) a → ⊥) → number' k ≡ number k) → Ordering s t order' number' (suc c) m (suc a)
    ordering_new {order'} {number'} b l e p q r z =
        record {
          numbered =
              subst (λ (l : List ℕ). Numbered l order' number' (suc c)) (sym (next_is b))
              (numbered_new (t (order m) a) O.numbered (room (omega arith)) l e p q r z);
        }

  -- After the last action comes the next member.
  pub ordering_next : {order number : ℕ → ℕ} {c m : ℕ} → m < n → Ordering s t order number c m s.actions → Ordering s t order number c (suc m) 0
  ordering_next {order} {number} {c} {m} h O =
      record { numbered = subst (λ (l : List ℕ). Numbered l order number c) (walking_row t s.actions m (ordering_present m h)) O.numbered }

  -- After n members the arrays hold the complete walk.
  pub ordering_done : {order number : ℕ → ℕ} {c : ℕ} → Ordering s t order number c n 0 → Numbered (walk t s.actions 255) order number n
  ordering_done {order} {number} {c} O =
      let e = walking_zero t s.actions n ∙ sym (walking_done t s.actions n D.few (at_most n)) in
      let g = ap length e in
      let d = completed_walk s W D in
      let k = O.numbered.count in
      let q : c ≡ n = omega arith in
      subst (λ (l : List ℕ). Numbered l order number n) e (subst (Numbered (walking t s.actions n 0) order number) q O.numbered)
