-- The numbering walk in arrays of bytes: the row of each number, and the number of each row.
use Rattle.std.specs.Prelude.{◌≡◌, ◌⊎◌, List, ℕ, suc, ◌+◌, ◌≤◌, ◌<◌, length, get_or, set}
use Rattle.std.proofs.Common.{sym, subst, ◌∙◌, add-one, arith, get_or-set_same, get_or-set_other}
use Rattle.model.specs.Sheet.{Sheet, WellFormed}
use Rattle.refinement.specs.SheetTable.{Row, Completed}
use Rattle.refinement.specs.Numbering.{walk}
use Rattle.refinement.specs.Walk.{Numbered, walking}
use Rattle.refinement.specs.Ordering.{Ordering}
use Rattle.refinement.proofs.Ordering.{ordering_first, ordering_row, ordering_old, ordering_room, ordering_new, ordering_next, ordering_done}
use Rattle.table_rules.specs.Arrays.{target_in}

-- entry k of an array
abbrev pub entry_in : List ℕ → ℕ → ℕ
entry_in l k = get_or l k 0

-- the lengths of the arrays, for 255 rows; a row is named 255 where there is none
abbrev pub OrderRoom : List ℕ → Type 0
OrderRoom order = length order ≡ 255

abbrev pub NumberRoom : List ℕ → Type 0
NumberRoom number = length number ≡ 256

-- no row has a number
abbrev pub Unnumbered : List ℕ → Type 0
Unnumbered number = (k : ℕ) → k ≤ 255 → entry_in number k ≡ 255

-- The targets are those of a completed table of n rows, of a well-formed sheet.
pub record Walkable (t : List ℕ) (actions n : ℕ) : Type 0 where
  pub sheet : Sheet
  pub row : ℕ → Row
  pub well : WellFormed sheet
  pub actions_are : actions ≡ sheet.actions
  pub completed : Completed sheet n row (target_in t)

-- The arrays hold the walk at the moment when action a of member m is looked at, and c rows have their numbers.
pub record Walked (t : List ℕ) (actions m a : ℕ) (order number : List ℕ) (c : ℕ) : Type 0 where
  pub numbered : Numbered (walking (target_in t) actions m a) (entry_in order) (entry_in number) c

module _ {t : List ℕ} {actions n : ℕ} (D : Walkable t actions n) where
  pub rows_few : n ≤ 255
  rows_few = D.completed.few

  pub actions_few : actions ≤ 8
  actions_few = omega (arith, D.well.actions_few, D.actions_are)

  pub rows_some : 1 ≤ n
  rows_some = D.completed.sound.nonempty

  ordered : {order number : List ℕ} {c : ℕ} (m a : ℕ) → Walked t actions m a order number c → Ordering D.sheet (target_in t) (entry_in order) (entry_in number) c m a
  ordered {order} {number} {c} m a O =
      record { numbered = subst (λ (k : ℕ). Numbered (walking (target_in t) k m a) (entry_in order) (entry_in number) c) D.actions_are O.numbered }

  walked : (order number : List ℕ) {c : ℕ} (m a : ℕ) → Ordering D.sheet (target_in t) (entry_in order) (entry_in number) c m a → Walked t actions m a order number c
  walked order number {c} m a O =
      record { numbered = subst (λ (k : ℕ). Numbered (walking (target_in t) k m a) (entry_in order) (entry_in number) c) (sym D.actions_are) O.numbered }

  -- row 0 has number 0
  pub walked_first : (order number : List ℕ) → OrderRoom order → NumberRoom number → Unnumbered number → Walked t actions 0 0 (set order 0 0) (set number 0 0) 1
  walked_first order number p q u =
      walked (set order 0 0) (set number 0 0) 0 0
      (ordering_first D.sheet D.well D.completed (get_or-set_same order 0 0 0 (omega arith)) (get_or-set_same number 0 0 0 (omega arith))
      (λ k h l. get_or-set_other number 0 k 0 0 (λ e. omega arith) ∙ u k l))

  module _ {order number : List ℕ} {c : ℕ} (m a : ℕ) (O : Walked t actions m a order number c) (h : m < n) where
    pub walked_row : entry_in order m < n
    walked_row = ordering_row D.sheet D.well D.completed m a (ordered m a O) h

    -- a target that is barred or has its number
    pub walked_old : (j : ℕ) → a < actions → j ≡ target_in t (entry_in order m) a → (j ≡ 255) ⊎ (entry_in number j < 255)
        → Walked t actions m (a + 1) order number c
    walked_old j b e u =
        subst (λ (k : ℕ). Walked t actions m k order number c) (sym (add-one a))
        (walked order number m (suc a) (ordering_old D.sheet D.well D.completed m a (ordered m a O) h (omega (arith, D.actions_are))
        (subst (λ (k : ℕ). (k ≡ 255) ⊎ (entry_in number k < 255)) e u)))

    -- a target without a number
    pub walked_room : (j : ℕ) → a < actions → j ≡ target_in t (entry_in order m) a → j < 255 → entry_in number j ≡ 255 → c < n
    walked_room j b e l u =
        ordering_room D.sheet D.well D.completed m a (ordered m a O) h (omega (arith, D.actions_are)) (omega arith)
        (subst (λ (k : ℕ). entry_in number k ≡ 255) e u)

    pub walked_new : (j : ℕ) → a < actions → j ≡ target_in t (entry_in order m) a → j < 255 → entry_in number j ≡ 255 → OrderRoom order → NumberRoom number
        → Walked t actions m (a + 1) (set order c j) (set number j c) (c + 1)
    walked_new j b e l u p q =
        let r = walked_room j b e l u in
        let f = rows_few in
        let i = target_in t (entry_in order m) a in
        let O' =
        ordering_new D.sheet D.well D.completed m a (ordered m a O) h {order' = entry_in (set order c j)} {number' = entry_in (set number j c)}
        (omega (arith, D.actions_are)) (omega arith) (subst (λ (k : ℕ). entry_in number k ≡ 255) e u)
        (get_or-set_same order c j 0 (omega arith) ∙ e) (λ k g. get_or-set_other order c k j 0 (λ z. omega arith))
        (subst (λ (k : ℕ). entry_in (set number j c) k ≡ c) e (get_or-set_same number j c 0 (omega arith)))
        (λ k g d. get_or-set_other number j k c 0 (λ z. d (z ∙ e))) in
        subst (λ (k : ℕ). Walked t actions m k (set order c j) (set number j c) (c + 1)) (sym (add-one a))
        (subst (Walked t actions m (suc a) (set order c j) (set number j c)) (sym (add-one c)) (walked (set order c j) (set number j c) m (suc a) O'))

  -- after the last action the next member
  pub walked_next : (order number : List ℕ) (c m a : ℕ) → m < n → a ≡ actions → Walked t actions m a order number c → Walked t actions (m + 1) 0 order number c
  walked_next order number c m a h e O =
      subst (λ (k : ℕ). Walked t actions k 0 order number c) (sym (add-one m))
      (walked order number (suc m) 0
      (ordering_next D.sheet D.well D.completed h
      (subst (Ordering D.sheet (target_in t) (entry_in order) (entry_in number) c m) (e ∙ D.actions_are) (ordered m a O))))

  -- after the last member the complete walk
  pub walked_done : (order number : List ℕ) (c m : ℕ) → m ≡ n → Walked t actions m 0 order number c
      → Numbered (walk (target_in t) actions 255) (entry_in order) (entry_in number) n
  walked_done order number c m e O =
      subst (λ (k : ℕ). Numbered (walk (target_in t) k 255) (entry_in order) (entry_in number) n) (sym D.actions_are)
      (ordering_done D.sheet D.well D.completed (subst (λ (k : ℕ). Ordering D.sheet (target_in t) (entry_in order) (entry_in number) c k 0) e (ordered m 0 O)))
