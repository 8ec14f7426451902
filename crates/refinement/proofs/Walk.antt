-- The numbering walk step by step, with an array of row numbers in order and an array of each row's place: the laws that the code's loop invariants
-- are made of.
use Rattle.std.specs.Prelude.{ℕ, zero, suc, ◌≤◌, ◌<◌, ◌≡◌, refl, ◌⊎◌, true, false, List, [], ◌∷◌, ◌++◌, T, length, get_or, None}
use Rattle.std.proofs.Math.Decide.{dec_lt, ℕ_discrete, le_ind}
use Rattle.std.proofs.Common.{arith, subst, ◌∙◌, inl, inr, ⊎_elim, eqb→eq, length-append}
use Rattle.std.proofs.Math.Path.{sym, ap}
use Rattle.std.proofs.Math.Dec.{eqb, eqb_refl}
use Rattle.std.proofs.Math.ListN.{get_or-append}
use Rattle.std.proofs.Math.Seq.{get_or-append_seam}
use Rattle.exploration.specs.Exploration.{place, known, added, visited}
use Rattle.systems.proofs.Laws.{told, is_true, true_is, not_true, is_false}
use Rattle.exploration.specs.Places.{Prefix}
use Rattle.exploration.proofs.Places.{prefix_refl, prefix_trans, prefix_length, prefix_at, known_place, place_new, known_in, known_at, prefix_known, prefix_place}
use Rattle.exploration.proofs.Places.{added_old, added_new, added_prefix, added_place}
use Rattle.exploration.specs.Explored.{seen}
use Rattle.exploration.proofs.Explored.{seen_zero, seen_start, seen_row, explore_done, step_known}
use Rattle.model.specs.Chart.{block_named}
use Rattle.model.proofs.Rounds.{named_block, named_barred}
use Rattle.refinement.specs.Numbering.{target_system, walk}
use Rattle.refinement.proofs.Numbering.{target_step, target_explorable}
use Rattle.refinement.specs.Walk.{number_of, Numbered, walking}

pub number_in : (l : List ℕ) (k : ℕ) → known eqb l k ≡ true → number_of l k ≡ place eqb l k
unfolding number_of
number_in l k e = rw (e, number_of)

pub number_out : (l : List ℕ) (k : ℕ) → known eqb l k ≡ false → number_of l k ≡ 255
unfolding number_of
number_out l k e = rw (e, number_of)

-- in a list of at most 255, a number below 255 means that the row is there
pub number_known : (l : List ℕ) (k : ℕ) → number_of l k < 255 → known eqb l k ≡ true
number_known l k h = ⊎_elim (λ e. e) (λ e. let z = number_out l k e in absurd (omega arith)) (told (known eqb l k))

-- and 255 that it is not
pub number_unknown : (l : List ℕ) (k : ℕ) → length l ≤ 255 → number_of l k ≡ 255 → known eqb l k ≡ false
number_unknown l k b h =
    ⊎_elim
    (λ e. let z = number_in l k e in let p = (known_place eqb l k).0 (true_is (known eqb l k) e) in absurd (omega arith))
    (λ e. e)
    (told (known eqb l k))

-- a row that is in the list, by an index
pub known_member : (l : List ℕ) (k : ℕ) → T (known eqb l k) → (i : ℕ) × (i < length l) × (get_or l i 0 ≡ k)
known_member l k t = (place eqb l k, (known_place eqb l k).0 t, eqb→eq (get_or l (place eqb l k) 0) k (known_at eqb l k 0 t))

-- a row appended has the next place, and all others have theirs
number_last : (l : List ℕ) (y : ℕ) → known eqb l y ≡ false → number_of (l ++ (y ∷ [])) y ≡ length l
number_last l y e =
    let q = added_new eqb l y e in
    let t : T (known eqb (l ++ (y ∷ [])) y) =
    known_in eqb (l ++ (y ∷ [])) y y (length l) (omega (arith, length-append l (y ∷ [])))
    (subst (λ (z : ℕ). T (eqb z y)) (sym (get_or-append_seam l y [] y)) (eqb_refl y)) in
    number_in (l ++ (y ∷ [])) y (is_true (known eqb (l ++ (y ∷ [])) y) t)
    ∙ ap (λ (m : List ℕ). place eqb m y) (sym q)
    ∙ added_place eqb l y (eqb_refl y)
    ∙ place_new eqb l y e

number_other : (l : List ℕ) (y k : ℕ) → (k ≡ y → ⊥) → number_of (l ++ (y ∷ [])) k ≡ number_of l k
number_other l y k d = ⊎_elim there away (told (known eqb l k))
  where
    P : Prefix l (l ++ (y ∷ []))
    P = record { rest = y ∷ []; is = refl }

    there : known eqb l k ≡ true → number_of (l ++ (y ∷ [])) k ≡ number_of l k
    there e =
        let u = true_is (known eqb l k) e in
        number_in (l ++ (y ∷ [])) k (is_true (known eqb (l ++ (y ∷ [])) k) (prefix_known eqb P k u)) ∙ prefix_place eqb P k u ∙ sym (number_in l k e)

    none_more : known eqb l k ≡ false → T (known eqb (l ++ (y ∷ [])) k) → ⊥
    none_more e u = go (known_member (l ++ (y ∷ [])) k u)
      where
        go : (i : ℕ) × (i < length (l ++ (y ∷ []))) × (get_or (l ++ (y ∷ [])) i 0 ≡ k) → ⊥
        go (i, h, q) = split (dec_lt i (length l))
          where
            split : Dec (i < length l) → ⊥
            split (yes b) =
                not_true (known eqb l k) e
                (known_in eqb l k 0 i b (subst (λ (z : ℕ). T (eqb z k)) (sym (sym (get_or-append l (y ∷ []) 0 i b) ∙ q)) (eqb_refl k)))
            split (no b) =
                let z : i ≡ length l = omega (arith, length-append l (y ∷ [])) in
                d (sym q ∙ ap (λ (m : ℕ). get_or (l ++ (y ∷ [])) m 0) z ∙ get_or-append_seam l y [] 0)

    away : known eqb l k ≡ false → number_of (l ++ (y ∷ [])) k ≡ number_of l k
    away e = number_out (l ++ (y ∷ [])) k (is_false (known eqb (l ++ (y ∷ [])) k) (none_more e)) ∙ sym (number_out l k e)

-- the list of row 0 alone
pub numbered_first : {order number : ℕ → ℕ} → order 0 ≡ 0 → number 0 ≡ 0 → ((k : ℕ) → 0 < k → k ≤ 255 → number k ≡ 255) → Numbered (0 ∷ []) order number 1
unfolding number_of known place
numbered_first {order} {number} e z f =
    record { count = refl; orders = λ k h. let q : k ≡ 0 = omega arith in ap order q ∙ e ∙ ap (λ (m : ℕ). get_or (0 ∷ []) m 0) (sym q); numbers = at }
  where
    away : (k : ℕ) → (i : ℕ) × (i < 1) × (get_or (0 ∷ []) i 0 ≡ suc k) → ⊥
    away k (zero, h, q) = omega arith
    away k (suc i, h, q) = omega arith

    at : (k : ℕ) → k ≤ 255 → number k ≡ number_of (0 ∷ []) k
    at zero h = z
    at (suc k) h = f (suc k) (omega arith) h ∙ sym (number_out (0 ∷ []) (suc k) (is_false (known eqb (0 ∷ []) (suc k)) (λ u. away k (known_member (0 ∷ []) (suc k) u))))

added_none : (l : List ℕ) → added eqb l None ≡ l
unfolding added
added_none l = refl

-- a target that is barred or already has its place adds nothing
pub numbered_old : {l : List ℕ} {order number : ℕ → ℕ} {c : ℕ} (j : ℕ) → Numbered l order number c → j ≤ 255 → (j ≡ 255) ⊎ (number j < 255)
    → added eqb l (block_named j) ≡ l
numbered_old {l} {order} {number} {c} j N h (inl e) = ap (added eqb l) (named_barred j e) ∙ added_none l
numbered_old {l} {order} {number} {c} j N h (inr b) = go (ℕ_discrete j 255)
  where
    go : Dec (j ≡ 255) → added eqb l (block_named j) ≡ l
    go (yes e) = ap (added eqb l) (named_barred j e) ∙ added_none l
    go (no e) =
        let q = N.numbers j h in
        ap (added eqb l) (named_block j (omega arith)) ∙ added_old eqb l j (number_known l j (omega arith))

-- a target without a place gets the next one
pub numbered_new : {l : List ℕ} {order number order' number' : ℕ → ℕ} {c : ℕ} (j : ℕ) → Numbered l order number c → c ≤ 255 → j < 255 → number j ≡ 255
    → order' c ≡ j → ((k : ℕ) → k < c → order' k ≡ order k) → number' j ≡ c → ((k : ℕ) → k ≤ 255 → (k ≡ j → ⊥) → number' k ≡ number k)
    → Numbered (added eqb l (block_named j)) order' number' (suc c)
numbered_new {l} {order} {number} {order'} {number'} {c} j N b h e p q r t =
    subst (λ (m : List ℕ). Numbered m order' number' (suc c)) (sym (ap (added eqb l) (named_block j h) ∙ added_new eqb l j u))
    (record { count = omega (arith, length-append l (j ∷ [])); orders = orders; numbers = λ k d. numbers k d (ℕ_discrete k j) })
  where
    n : c ≡ length l
    n = N.count

    u : known eqb l j ≡ false
    u = number_unknown l j (omega arith) (sym (N.numbers j (omega arith)) ∙ e)

    orders : (k : ℕ) → k < suc c → order' k ≡ get_or (l ++ (j ∷ [])) k 0
    orders k d = go (dec_lt k c)
      where
        go : Dec (k < c) → order' k ≡ get_or (l ++ (j ∷ [])) k 0
        go (yes g) = q k g ∙ N.orders k g ∙ sym (get_or-append l (j ∷ []) 0 k (omega arith))
        go (no g) =
            let a : k ≡ c = omega arith in
            let a' : length l ≡ k = omega arith in
            ap order' a ∙ p ∙ sym (get_or-append_seam l j [] 0) ∙ ap (λ (m : ℕ). get_or (l ++ (j ∷ [])) m 0) a'

    numbers : (k : ℕ) → k ≤ 255 → Dec (k ≡ j) → number' k ≡ number_of (l ++ (j ∷ [])) k
    numbers k d (yes g) = ap number' g ∙ r ∙ n ∙ sym (number_last l j u) ∙ ap (number_of (l ++ (j ∷ []))) (sym g)
    numbers k d (no g) = t k d g ∙ N.numbers k d ∙ sym (number_other l j k g)

-- and the list is longer by one
pub numbered_grows : {l : List ℕ} {order number : ℕ → ℕ} {c : ℕ} (j : ℕ) → Numbered l order number c → c ≤ 255 → j < 255 → number j ≡ 255
    → length (added eqb l (block_named j)) ≡ suc c
numbered_grows {l} {order} {number} {c} j N b h e =
    let n = N.count in
    let u = number_unknown l j (omega arith) (sym (N.numbers j (omega arith)) ∙ e) in
    let q = ap length (ap (added eqb l) (named_block j h) ∙ added_new eqb l j u) in
    omega (arith, length-append l (j ∷ []))

module _ (t : ℕ → ℕ → ℕ) (actions : ℕ) where
  -- the walk begins with row 0,
  pub walking_first : walking t actions 0 0 ≡ 0 ∷ []
  unfolding walking
  walking_first = seen_start (target_system t actions) eqb actions 0 (λ i. Unit {0}) (target_explorable t actions)

  pub walking_zero : (m : ℕ) → walking t actions m 0 ≡ walk t actions m
  unfolding walking walk
  walking_zero m = seen_zero (target_system t actions) eqb actions 0 (λ i. Unit {0}) (target_explorable t actions) m

  -- adds the target of action a of member m,
  pub walking_next : (m a : ℕ) → a < actions → walking t actions m (suc a) ≡ added eqb (walking t actions m a) (block_named (t (get_or (walk t actions m) m 0) a))
  unfolding walking walk seen visited
  walking_next m a h = ap (added eqb (walking t actions m a)) (target_step t actions a (get_or (walk t actions m) m 0) h)

  -- goes on to the next member after the last action,
  pub walking_row : (m : ℕ) → m < length (walk t actions m) → walking t actions m actions ≡ walking t actions (suc m) 0
  unfolding walking walk
  walking_row m h = sym (seen_row (target_system t actions) eqb actions 0 (λ i. Unit {0}) (target_explorable t actions) m m (omega arith) h)

  -- and ends when all members are visited.
  pub walking_done : (m : ℕ) → m ≤ 255 → length (walk t actions m) ≤ m → walk t actions 255 ≡ walk t actions m
  unfolding walk
  walking_done m h d = explore_done (target_system t actions) eqb actions 0 (λ i. Unit {0}) (target_explorable t actions) m 255 d h

  walking_le : (m a b : ℕ) → a ≤ b → Prefix (walking t actions m a) (walking t actions m b)
  unfolding walking seen visited walk
  walking_le m a b h =
      le_ind (λ k. Prefix (walking t actions m a) (walking t actions m k)) (prefix_refl (walking t actions m a))
      (λ k d p. prefix_trans p (added_prefix eqb (walking t actions m k) ((target_system t actions).step k (get_or (walk t actions m) m 0)))) b h

  -- the list only grows,
  pub walking_longer : (m a : ℕ) → length (walk t actions m) ≤ length (walking t actions m a)
  walking_longer m a = let e = ap length (walking_zero m) in let p = prefix_length (walking_le m 0 a (omega arith)) in omega arith

  -- and the member that is looked at stays
  pub walking_member : (m a : ℕ) → m < length (walk t actions m) → get_or (walking t actions m a) m 0 ≡ get_or (walk t actions m) m 0
  walking_member m a h =
      let e = walking_zero m in
      let e' = ap length e in
      prefix_at (walking_le m 0 a (omega arith)) 0 m (omega arith) ∙ ap (λ (l : List ℕ). get_or l m 0) e

  -- where the walk never gets longer than n, neither does the list on the way
  pub walking_bound : (n m a : ℕ) → length (walk t actions (suc m)) ≤ n → m < length (walk t actions m) → a ≤ actions → length (walking t actions m a) ≤ n
  walking_bound n m a b h l =
      let p = prefix_length (walking_le m a actions l) in
      let e = ap length (walking_row m h ∙ walking_zero (suc m)) in
      omega arith

  -- the targets of the members of a complete walk have places
  pub walk_known : (m k a : ℕ) → length (walk t actions m) ≤ m → k < length (walk t actions m) → a < actions → t (get_or (walk t actions m) k 0) a < 255
      → known eqb (walk t actions m) (t (get_or (walk t actions m) k 0) a) ≡ true
  unfolding walk
  walk_known m k a d h b c =
      is_true (known eqb (walk t actions m) (t (get_or (walk t actions m) k 0) a)) ((known_place eqb (walk t actions m) (t (get_or (walk t actions m) k 0) a)).1
      (step_known (target_system t actions) eqb actions 0 (λ i. Unit {0}) (target_explorable t actions) m k a (t (get_or (walk t actions m) k 0) a) (omega arith) h
      (target_step t actions a (get_or (walk t actions m) k 0) b ∙ named_block (t (get_or (walk t actions m) k 0) a) c)))
