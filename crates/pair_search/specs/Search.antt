-- The search as the code holds it.
use Rattle.std.specs.Prelude.{◌≡◌, ℕ, ◌<◌, List, length, map, get_or, set}
use Rattle.std.specs.declared.ops.ControlFlow.{ControlFlow}
use Rattle.std.proofs.Common.{sym, ap, ◌∙◌, subst, get_or-set_same}
use Rattle.std.proofs.Math.ListN.{get_or-map, length-map}
use Rattle.std.proofs.lemmas.List.{map-set}
use Rattle.pair_search.specs.declared.visiting.Compared.{Compared}
use Rattle.pair_search.specs.declared.visiting.Pair.{Pair}
use Rattle.pair_search.specs.declared.visiting.Search.{Search}
use Rattle.pair_search.specs.Queue.{Room, Queue}
use Rattle.pair_search.specs.Comparing.{Comparing}
use Rattle.pair_search.specs.Progress.{Progressed}

-- the blocks of the pairs that are queued
abbrev pub lefts : List Pair → List ℕ
lefts = map (λ (p : Pair). p.left)

abbrev pub rights : List Pair → List ℕ
rights = map (λ (p : Pair). p.right)

-- the queue has m pairs, whose actions were looked at up to action a of pair h
abbrev pub Searched : List ℕ → List ℕ → Search → ℕ → ℕ → ℕ → Type 0
Searched c d s = Queue c d s.classes (lefts s.pairs) (rights s.pairs) s.notes.parents s.notes.actions

-- the same with m pairs or more, or the search is over
abbrev pub Advanced : List ℕ → List ℕ → Search → ℕ → ℕ → ℕ → ControlFlow ℕ ℕ → Type 0
Advanced c d s = Progressed c d s.classes (lefts s.pairs) (rights s.pairs) s.notes.parents s.notes.actions

-- a pair is read
pub left_read : (ps : List Pair) (k : ℕ) → (get_or ps k (record { left = 0; right = 0 })).left ≡ get_or (lefts ps) k 0
left_read ps k = sym (get_or-map (λ (p : Pair). p.left) ps k (record { left = 0; right = 0 }))

pub right_read : (ps : List Pair) (k : ℕ) → (get_or ps k (record { left = 0; right = 0 })).right ≡ get_or (rights ps) k 0
right_read ps k = sym (get_or-map (λ (p : Pair). p.right) ps k (record { left = 0; right = 0 }))

pub compared_read : {c d cl : List ℕ} {a : ℕ} {r : Compared} (ps : List Pair) (k : ℕ)
    → Comparing c d cl (get_or ps k (record { left = 0; right = 0 })).left (get_or ps k (record { left = 0; right = 0 })).right a r
    → Comparing c d cl (get_or (lefts ps) k 0) (get_or (rights ps) k 0) a r
compared_read {c} {d} {cl} {a} {r} ps k D = subst (λ (z : ℕ × ℕ). Comparing c d cl z.0 z.1 a r) (λ i. (left_read ps k i, right_read ps k i)) D

-- a pair is written
pub lefts_set : (ps : List Pair) (k x y : ℕ) → lefts (set ps k (record { left = x; right = y })) ≡ set (lefts ps) k x
lefts_set ps k x y = map-set (λ (p : Pair). p.left) ps k (record { left = x; right = y })

pub rights_set : (ps : List Pair) (k x y : ℕ) → rights (set ps k (record { left = x; right = y })) ≡ set (rights ps) k y
rights_set ps k x y = map-set (λ (p : Pair). p.right) ps k (record { left = x; right = y })

pub pairs_room : (ps : List Pair) → length ps ≡ 510 → Room (lefts ps) × Room (rights ps)
pairs_room ps e = (length-map ps (λ (p : Pair). p.left) ∙ e, length-map ps (λ (p : Pair). p.right) ∙ e)

-- the first pair
pub first_left : (ps : List Pair) → 0 < length ps → get_or (lefts (set ps 0 (record { left = 0; right = 0 }))) 0 0 ≡ 0
first_left ps h =
    sym (left_read (set ps 0 (record { left = 0; right = 0 })) 0)
    ∙ ap (λ (p : Pair). p.left) (get_or-set_same ps 0 (record { left = 0; right = 0 }) (record { left = 0; right = 0 }) h)

pub first_right : (ps : List Pair) → 0 < length ps → get_or (rights (set ps 0 (record { left = 0; right = 0 }))) 0 0 ≡ 0
first_right ps h =
    sym (right_read (set ps 0 (record { left = 0; right = 0 })) 0)
    ∙ ap (λ (p : Pair). p.right) (get_or-set_same ps 0 (record { left = 0; right = 0 }) (record { left = 0; right = 0 }) h)
