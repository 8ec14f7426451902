-- How far the search has come after some of its steps, and what it has found in the end.
use Rattle.std.specs.Prelude.{ℕ, ◌+◌, ◌≤◌, ◌<◌, ◌≡◌, List, get_or, set, Option, Some, None}
use Rattle.std.specs.declared.ops.ControlFlow.{ControlFlow}
use Rattle.std.specs.declared.ops.ControlFlow.TheVariants.{Continue, Break}
use Rattle.std.proofs.Common.{arith, sym, subst, ◌∙◌}
use Rattle.systems.specs.System.{entry, Alike}
use Rattle.model.specs.Chart.{actions_of, blocks_of, label_of, chart_step, chart_system}
use Rattle.pair_search.specs.declared.visiting.Compared.{Compared}
use Rattle.pair_search.specs.declared.visiting.Compared.TheVariants.{Apart, Together, Fresh}
use Rattle.pair_search.specs.Queue.{Comparable, Room, Rooms, Queue, Noted, Stepped, Merged, queue_room, queue_begun, queue_barred, queue_joined, queue_apart, queue_new, queue_next, queue_ended, labels_apart}
use Rattle.pair_search.specs.Comparing.{Comparing, apart, both_barred, one_class, fresh}

-- the search is over, or the queue has as many pairs as before or more, which were looked at up to action a of pair h
pub data Progressed (c d cl ls rs ps bs : List ℕ) (n h a : ℕ) : ControlFlow ℕ ℕ → Type 0 where
  parted : {k : ℕ} → Noted c d ps bs k → Progressed c d cl ls rs ps bs n h a (Break k)
  queued : {m : ℕ} → n ≤ m → Queue c d cl ls rs ps bs m h a → Progressed c d cl ls rs ps bs n h a (Continue m)

-- What the search has found in the end: an entry whose word is the first that separates the charts, or that no word does.
pub data Finds (c d ps bs : List ℕ) : Option ℕ → Type 0 where
  separated : {k : ℕ} → Noted c d ps bs k → Finds c d ps bs (Some k)
  equivalent : Alike (chart_system c) (chart_system d) 0 0 → Finds c d ps bs None

-- what a comparison told, by its answer
told_apart : {c d cl : List ℕ} {i j a : ℕ} {r : Compared} → Comparing c d cl i j a r → r ≡ Apart
    → entry (chart_system c) (chart_step c a i) ≡ entry (chart_system d) (chart_step d a j) → ⊥
told_apart (apart n) e = n
told_apart (both_barred p q) e = absurd cc
told_apart (one_class S h) e = absurd cc
told_apart (fresh S n) e = absurd cc

pub told_fresh : {c d cl : List ℕ} {i j a x y : ℕ} {r : Compared} → Comparing c d cl i j a r → r ≡ Fresh x y
    → Stepped c d i j a x y × (get_or cl x 0 ≡ get_or cl (blocks_of c + y) 0 → ⊥)
told_fresh (apart n) e = absurd cc
told_fresh (both_barred p q) e = absurd cc
told_fresh (one_class S h) e = absurd cc
told_fresh {c} {d} {cl} {i} {j} {a} {x} {y} (fresh {x = u} {y = v} S n) e =
    let p : u ≡ x = cc in
    let q : v ≡ y = cc in
    subst (λ (z : ℕ × ℕ). Stepped c d i j a z.0 z.1 × (get_or cl z.0 0 ≡ get_or cl (blocks_of c + z.1) 0 → ⊥)) (λ k. (p k, q k)) (S, n)

-- an entry behind the queue has its place in the arrays
pub entry_fits : {c d cl ls rs ps bs : List ℕ} {m h a : ℕ} → Comparable c d → Queue c d cl ls rs ps bs m h a → m < 510
entry_fits C Q = omega (arith, queue_room C Q, C.first_shaped.blocks_few, C.second_shaped.blocks_few)

module _ {c d cl ls rs ps bs : List ℕ} {m h a : ℕ} (C : Comparable c d) (Q : Queue c d cl ls rs ps bs m h a) (l : h < m) {r : Compared}
    (D : Comparing c d cl (get_or ls h 0) (get_or rs h 0) a r) where
  pub visit_apart : Room ps × Room bs → a < actions_of c → r ≡ Apart → Progressed c d cl ls rs (set ps m h) (set bs m a) m h (a + 1) (Break m)
  visit_apart R ha e = parted (queue_apart Q l (omega (arith, entry_fits C Q, R.0)) (omega (arith, entry_fits C Q, R.1)) C ha (told_apart D e))

  pub visit_together : r ≡ Together → Progressed c d cl ls rs ps bs m h (a + 1) (Continue m)
  visit_together e = queued {m = m} (omega arith) (go D e)
    where
      go : {r : Compared} → Comparing c d cl (get_or ls h 0) (get_or rs h 0) a r → r ≡ Together → Queue c d cl ls rs ps bs m h (a + 1)
      go (apart n) e = absurd cc
      go (both_barred p q) e = queue_barred Q p q
      go (one_class S k) e = queue_joined Q l S k
      go (fresh S n) e = absurd cc

  pub visit_fresh : {x y n n' : ℕ} {cl' : List ℕ} → Rooms ls rs ps bs → a < actions_of c → r ≡ Fresh x y → n ≡ blocks_of c → n' ≡ blocks_of d
      → Merged (n + n') x (n + y) cl cl' → Progressed c d cl' (set ls m x) (set rs m y) (set ps m h) (set bs m a) m h (a + 1) (Continue (m + 1))
  visit_fresh {x} {y} {n} {n'} {cl'} R ha e p q M =
      let (S, differs) = told_fresh D e in
      let M' = subst (λ (z : ℕ × ℕ). Merged (z.0 + z.1) x (z.0 + y) cl cl') (λ k. (p k, q k)) M in
      queued {m = m + 1} (omega arith)
      (queue_new Q l (omega (arith, entry_fits C Q, R.2)) (omega (arith, entry_fits C Q, R.3)) ha (omega (arith, entry_fits C Q, R.0)) (omega (arith, entry_fits C Q, R.1)) S differs M')

-- once the search is over, it is so at every later place
pub over_later : {c d cl ls rs ps bs : List ℕ} {n h a n' h' a' k : ℕ} {r : ControlFlow ℕ ℕ} → Progressed c d cl ls rs ps bs n h a r → r ≡ Break k
    → Progressed c d cl ls rs ps bs n' h' a' (Break k)
over_later {c} {d} {ps = ps} {bs} {k = k} (parted {k = i} N) e = let z : i ≡ k = cc in parted (subst (Noted c d ps bs) z N)
over_later (queued l Q) e = absurd cc

pub still_queued : {c d cl ls rs ps bs : List ℕ} {n h a m : ℕ} {r : ControlFlow ℕ ℕ} → Progressed c d cl ls rs ps bs n h a r → r ≡ Continue m
    → (n ≤ m) × Queue c d cl ls rs ps bs m h a
still_queued (parted N) e = absurd cc
still_queued {c} {d} {cl} {ls} {rs} {ps} {bs} {n} {h} {a} {m} (queued {m = k} l Q) e =
    let z : k ≡ m = cc in
    (omega arith, subst (λ (i : ℕ). Queue c d cl ls rs ps bs i h a) z Q)

-- all actions of a pair were looked at
pub pair_done : {c d cl ls rs ps bs : List ℕ} {n m h a : ℕ} → n ≤ m → actions_of c ≤ a → Queue c d cl ls rs ps bs m h a
    → Progressed c d cl ls rs ps bs n (h + 1) 0 (Continue m)
pair_done {m = m} l e Q = queued {m = m} l (queue_next e Q)

-- the end of the search: an entry was noted, or all pairs were looked at
pub finds_over : {c d cl ls rs ps bs : List ℕ} {n h a k : ℕ} {r : ControlFlow ℕ ℕ} → Progressed c d cl ls rs ps bs n h a r → r ≡ Break k → Finds c d ps bs (Some k)
finds_over {c} {d} {cl} {ls} {rs} {ps} {bs} {n} {h} {a} {k} (parted {k = i} N) e = let z : i ≡ k = cc in separated (subst (Noted c d ps bs) z N)
finds_over (queued l Q) e = absurd cc

pub finds_none : {c d cl ls rs ps bs : List ℕ} {m h : ℕ} → Comparable c d → Queue c d cl ls rs ps bs m h 0 → m ≤ h → Finds c d ps bs None
finds_none C Q l = equivalent (queue_ended C Q l)

-- the beginning, as the code finds it: labels that differ, or the first pair
pub starts_differ : (c d ps bs : List ℕ) {l m : ℕ} → Comparable c d → l ≡ label_of c 0 → m ≡ label_of d 0 → (l ≡ m → ⊥) → Finds c d ps bs (Some 0)
starts_differ c d ps bs C p q n = separated {k = 0} (labels_apart c d ps bs C (λ e. n (p ∙ e ∙ sym q)))

pub starts_queued : (c d cl cl' ls rs ps bs : List ℕ) {l m n n' : ℕ} → Comparable c d → l ≡ label_of c 0 → m ≡ label_of d 0 → l ≡ m → n ≡ blocks_of c → n' ≡ blocks_of d
    → ((z : ℕ) → z < n + n' → get_or cl z 0 ≡ z) → Merged (n + n') 0 n cl cl' → get_or ls 0 0 ≡ 0 → get_or rs 0 0 ≡ 0 → Queue c d cl' ls rs ps bs 1 0 0
starts_queued c d cl cl' ls rs ps bs C p q e a b own M x y =
    let M' = subst (λ (z : ℕ × ℕ). Merged (z.0 + z.1) 0 z.0 cl cl') (λ k. (a k, b k)) M in
    queue_begun c d cl cl' ls rs ps bs C (sym p ∙ e ∙ q) (λ z h. own z (omega arith)) M' x y
