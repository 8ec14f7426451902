-- The queue of the search over the blocks of two charts, as arrays: the pairs, the tree of their words, and the classes of all blocks of both.
use Rattle.std.specs.Prelude.{ℕ, ◌+◌, ◌≤◌, ◌<◌, ◌≡◌, refl, List, [], ◌∷◌, ◌++◌, length, set, Some, None}
use Rattle.std.proofs.Common.{eq-or-lt_of_le, arith, sym, ◌∙◌, ⊎_elim}
use Rattle.std.proofs.Math.Path.{ap, subst}
use Rattle.std.proofs.Math.ListN.{get_or}
use Rattle.std.proofs.Math.Seq.{get_or-set_same, get_or-set_other}
use Rattle.systems.specs.System.{entry, Below, below_nil, Alike}
use Rattle.systems.proofs.Laws.{below_next}
use Rattle.systems.specs.Entries.{Plain}
use Rattle.exploration.specs.Beside.{side}
use Rattle.exploration.proofs.Beside.{side_left, side_right}
use Rattle.exploration.proofs.FirstWords.{below_snoc}
use Rattle.model.specs.Chart.{actions_of, blocks_of, label_of, chart_step, chart_system}
use Rattle.model.specs.Rounds.{TargetsRight}
use Rattle.model.proofs.Rounds.{chart_step_out}
use Rattle.chart_bytes.specs.Shape.{Shaped}
use Rattle.noted_words.specs.Words.{Falling, noted_word}
use Rattle.noted_words.proofs.Words.{word_none, word_more, word_same}
use Rattle.exploration.specs.Pairs.{Pair, JoinedAll, Visited, FirstSeparating}
use Rattle.exploration.proofs.PairVisiting.{visited_begun, visited_barred, visited_joined, visited_new, visited_next}
use Rattle.exploration.proofs.PairVerdict.{visited_all, visited_parts, starts_apart}
use Rattle.pair_search.specs.Classes.{merged, Classes, classes_begun, classes_room, classes_merged}

-- what is asked of the two charts: their form is right, no label is 65,535, and they have as many actions
pub record Comparable (c d : List ℕ) : Type 0 where
  pub first_shaped : Shaped c
  pub second_shaped : Shaped d
  pub first_targets : TargetsRight c
  pub second_targets : TargetsRight d
  pub first_plain : Plain (chart_system c)
  pub second_plain : Plain (chart_system d)
  pub same_actions : actions_of c ≡ actions_of d

-- an array with an entry for each block of two charts
abbrev pub Room : List ℕ → Type 0
Room l = length l ≡ 510

-- the queue's pairs, and the notes
abbrev pub Rooms : List ℕ → List ℕ → List ℕ → List ℕ → Type 0
Rooms ls rs ps bs = Room ls × Room rs × Room ps × Room bs

-- pair k of the queue: a block of the first chart, one of the second, and the word that is noted for it
unfoldable pub pair_at : List ℕ → List ℕ → List ℕ → List ℕ → ℕ → Pair ℕ ℕ
pair_at ls rs ps bs k = record { left = get_or ls k 0; right = get_or rs k 0; word = noted_word ps bs k }

-- The queue has m pairs of blocks, and their actions were looked at up to action a of pair h. Block j of the second chart has the class number that stands
-- behind those of the first chart's blocks.
pub record Queue (c d cl ls rs ps bs : List ℕ) (m h a : ℕ) : Type 0 where
  pub visited : Visited (chart_system c) (chart_system d) 0 0 (actions_of c) (pair_at ls rs ps bs) m h a
  pub left_there : (k : ℕ) → k < m → get_or ls k 0 < blocks_of c
  pub right_there : (k : ℕ) → k < m → get_or rs k 0 < blocks_of d
  pub falling : (k : ℕ) → 0 < k → k < m → get_or ps k 0 < k
  pub classes : Classes (blocks_of c + blocks_of d) m (λ k. get_or ls k 0) (λ k. blocks_of c + get_or rs k 0) (λ z. get_or cl z 0)

-- The word that is noted for entry k is the first that separates the two charts.
pub record Noted (c d ps bs : List ℕ) (k : ℕ) : Type 0 where
  pub within : k < blocks_of c + blocks_of d
  pub falling : Falling ps k
  pub of_actions : Below (actions_of c) (noted_word ps bs k)
  pub separates : FirstSeparating (chart_system c) (chart_system d) 0 0 (noted_word ps bs k)

-- what an action does on both charts: it leads to a block on either side, and these have one label
pub record Stepped (c d : List ℕ) (i j a x y : ℕ) : Type 0 where
  pub left_step : chart_step c a i ≡ Some x
  pub right_step : chart_step d a j ≡ Some y
  pub left_block : x < blocks_of c
  pub right_block : y < blocks_of d
  pub labels : label_of c x ≡ label_of d y

-- actions that a chart lacks are barred
out_first : (c : List ℕ) (b : ℕ) → actions_of c ≤ b → (i : ℕ) → (chart_system c).step b i ≡ None
unfolding chart_system
out_first c b h i = chart_step_out c b i h

out_second : {c d : List ℕ} → Comparable c d → (b : ℕ) → actions_of c ≤ b → (i : ℕ) → (chart_system d).step b i ≡ None
out_second {c} {d} C b h i = out_first d b (omega (arith, C.same_actions)) i

-- there are fewer pairs than blocks
pub queue_room : {c d cl ls rs ps bs : List ℕ} {m h a : ℕ} → Comparable c d → Queue c d cl ls rs ps bs m h a → m < blocks_of c + blocks_of d
queue_room C Q = let p = C.first_shaped.blocks_some in classes_room Q.classes (omega arith)

-- the classes after those of two nodes are merged
abbrev pub Merged : ℕ → ℕ → ℕ → List ℕ → List ℕ → Type 0
Merged n x y cl cl' = (z : ℕ) → z < n → get_or cl' z 0 ≡ merged (get_or cl y 0) (get_or cl x 0) (get_or cl z 0)

-- The search begins with the pair of the blocks 0, where these have one label; else every block is in a class of its own.
pub queue_begun : (c d cl cl' ls rs ps bs : List ℕ) → Comparable c d → label_of c 0 ≡ label_of d 0 → ((z : ℕ) → z < blocks_of c + blocks_of d → get_or cl z 0 ≡ z)
    → Merged (blocks_of c + blocks_of d) 0 (blocks_of c) cl cl' → get_or ls 0 0 ≡ 0 → get_or rs 0 0 ≡ 0 → Queue c d cl' ls rs ps bs 1 0 0
unfolding pair_at chart_system
queue_begun c d cl cl' ls rs ps bs C l own M p q =
    let some = C.first_shaped.blocks_some in
    let some' = C.second_shaped.blocks_some in
    let hx : 0 < blocks_of c + blocks_of d = omega arith in
    let hy : blocks_of c < blocks_of c + blocks_of d = omega arith in
    record {
      visited = visited_begun (chart_system c) (chart_system d) 0 0 (actions_of c) (pair_at ls rs ps bs)
          (λ i. record { left = p i; right = q i; word = word_none ps bs i }) l;
      left_there = λ k h. let z : k ≡ 0 = omega arith in omega (arith, ap (λ (i : ℕ). get_or ls i 0) z);
      right_there = λ k h. let z : k ≡ 0 = omega arith in omega (arith, ap (λ (i : ℕ). get_or rs i 0) z);
      falling = λ k h b. absurd (omega arith);
      classes =
          classes_merged {n = blocks_of c + blocks_of d} {m = 0} {lo = λ k. get_or ls k 0} {hi = λ k. blocks_of c + get_or rs k 0} 0 (blocks_of c)
          (classes_begun (blocks_of c + blocks_of d) (λ k. get_or ls k 0) (λ k. blocks_of c + get_or rs k 0) (λ z. get_or cl z 0) own)
          hx hy (λ e. omega (arith, own 0 hx, own (blocks_of c) hy)) M (λ k h. refl) (λ k h. refl) p (omega arith);
    }

-- blocks of one class are joined by the pairs of the queue
class_joined : {c d cl ls rs ps bs : List ℕ} {m h a : ℕ} (x y : ℕ) → Queue c d cl ls rs ps bs m h a → x < blocks_of c → y < blocks_of d
    → get_or cl x 0 ≡ get_or cl (blocks_of c + y) 0 → JoinedAll (pair_at ls rs ps bs) m x y
unfolding pair_at
class_joined {c} {d} {cl} {ls} {rs} {ps} {bs} {m} x y Q hx hy e =
    record {
      agree = λ f g H.
          let n = blocks_of c in
          sym (side_left n f g x hx)
          ∙ Q.classes.joins (side n f g) (λ k l. side_left n f g (get_or ls k 0) (Q.left_there k l) ∙ H k l ∙ sym (side_right n f g (get_or rs k 0)))
          x (n + y) (omega arith) (omega arith) e
          ∙ side_right n f g y;
    }

-- one action more is barred on both sides,
pub queue_barred : {c d cl ls rs ps bs : List ℕ} {m h a : ℕ} → Queue c d cl ls rs ps bs m h a → chart_step c a (get_or ls h 0) ≡ None → chart_step d a (get_or rs h 0) ≡ None
    → Queue c d cl ls rs ps bs m h (a + 1)
unfolding chart_system pair_at
queue_barred {c} {d} Q e f =
    record {
      visited = visited_barred (chart_system c) (chart_system d) 0 0 (actions_of c) Q.visited e f;
      left_there = Q.left_there;
      right_there = Q.right_there;
      falling = Q.falling;
      classes = Q.classes;
    }

-- leads to blocks of one class,
pub queue_joined : {c d cl ls rs ps bs : List ℕ} {m h a x y : ℕ} → Queue c d cl ls rs ps bs m h a → h < m → Stepped c d (get_or ls h 0) (get_or rs h 0) a x y
    → get_or cl x 0 ≡ get_or cl (blocks_of c + y) 0 → Queue c d cl ls rs ps bs m h (a + 1)
unfolding chart_system pair_at
queue_joined {c} {d} {x = x} {y = y} Q l S e =
    record {
      visited =
          visited_joined (chart_system c) (chart_system d) 0 0 (actions_of c) Q.visited l S.left_step S.right_step
          (class_joined x y Q S.left_block S.right_block e);
      left_there = Q.left_there;
      right_there = Q.right_there;
      falling = Q.falling;
      classes = Q.classes;
    }

-- an entry behind the queue, whose word is that of pair h and then action a
module _ {c d cl ls rs ps bs : List ℕ} {m h a : ℕ} (Q : Queue c d cl ls rs ps bs m h a) (l : h < m) (hp : m < length ps) (hb : m < length bs) where
  old_falling : (k : ℕ) → k < m → Falling ps k
  old_falling k d' j p b = Q.falling j p (omega arith)

  pub noted_falling : Falling (set ps m h) m
  noted_falling j p b =
      ⊎_elim
      (λ e. omega (arith, ap (λ (i : ℕ). get_or (set ps m h) i 0) e, get_or-set_same ps m h 0 hp))
      (λ d'. omega (arith, get_or-set_other ps m j h 0 (λ e. omega arith), Q.falling j p d'))
      (eq-or-lt_of_le b)

  noted_old : (k : ℕ) → k < m → noted_word (set ps m h) (set bs m a) k ≡ noted_word ps bs k
  noted_old k d' =
      sym
      (word_same ps bs (set ps m h) (set bs m a) k (old_falling k d')
      (λ j b. sym (get_or-set_other ps m j h 0 (λ e. omega arith)))
      (λ j b. sym (get_or-set_other bs m j a 0 (λ e. omega arith))))

  noted_new : noted_word (set ps m h) (set bs m a) m ≡ noted_word ps bs h ++ (a ∷ [])
  noted_new =
      word_more (set ps m h) (set bs m a) m m noted_falling Q.visited.some (omega arith)
      ∙ ap (λ (i : ℕ). noted_word (set ps m h) (set bs m a) i ++ (get_or (set bs m a) m 0 ∷ [])) (get_or-set_same ps m h 0 hp)
      ∙ ap (λ (b : ℕ). noted_word (set ps m h) (set bs m a) h ++ (b ∷ [])) (get_or-set_same bs m a 0 hb)
      ∙ ap (λ (w : List ℕ). w ++ (a ∷ [])) (noted_old h l)

  -- Where the action writes different entries on the two charts, the entry's word is the first that separates them.
  pub queue_apart : Comparable c d → a < actions_of c
      → (entry (chart_system c) (chart_step c a (get_or ls h 0)) ≡ entry (chart_system d) (chart_step d a (get_or rs h 0)) → ⊥) → Noted c d (set ps m h) (set bs m a) m
  unfolding chart_system pair_at
  queue_apart C ha n =
      let w = noted_new in
      record {
        within = queue_room C Q;
        falling = noted_falling;
        of_actions = subst (Below (actions_of c)) (sym w) (below_snoc a (Q.visited.held h l).of_actions ha);
        separates =
            subst (FirstSeparating (chart_system c) (chart_system d) 0 0) (sym w)
            (visited_parts (chart_system c) (chart_system d) 0 0 (actions_of c) Q.visited (out_first c) (out_second C) l n);
      }

  -- Where it leads to blocks of different classes, these are a new pair, and their classes are merged.
  pub queue_new : {x y : ℕ} {cl' : List ℕ} → a < actions_of c → m < length ls → m < length rs → Stepped c d (get_or ls h 0) (get_or rs h 0) a x y
      → (get_or cl x 0 ≡ get_or cl (blocks_of c + y) 0 → ⊥) → Merged (blocks_of c + blocks_of d) x (blocks_of c + y) cl cl'
      → Queue c d cl' (set ls m x) (set rs m y) (set ps m h) (set bs m a) (m + 1) h (a + 1)
  unfolding chart_system pair_at
  queue_new {x} {y} {cl'} ha hl hr S apart M =
      let left_old : (k : ℕ) → k < m → get_or (set ls m x) k 0 ≡ get_or ls k 0 = λ k d'. get_or-set_other ls m k x 0 (λ e. omega arith) in
      let right_old : (k : ℕ) → k < m → get_or (set rs m y) k 0 ≡ get_or rs k 0 = λ k d'. get_or-set_other rs m k y 0 (λ e. omega arith) in
      let left-new = get_or-set_same ls m x 0 hl in
      let right_new = get_or-set_same rs m y 0 hr in
      record {
        visited =
            visited_new (chart_system c) (chart_system d) 0 0 (actions_of c) Q.visited l ha S.left_step S.right_step S.labels
            (λ k d' i. record { left = left_old k d' i; right = right_old k d' i; word = noted_old k d' i })
            (λ i. record { left = left-new i; right = right_new i; word = noted_new i });
        left_there =
            below_next m (λ k d'. omega (arith, left_old k d', Q.left_there k d')) (omega (arith, left-new, S.left_block));
        right_there =
            below_next m (λ k d'. omega (arith, right_old k d', Q.right_there k d')) (omega (arith, right_new, S.right_block));
        falling = λ k p b. noted_falling k p (omega arith);
        classes =
            classes_merged x (blocks_of c + y) Q.classes (omega (arith, S.left_block)) (omega (arith, S.right_block)) apart M left_old
            (λ k d'. ap (λ (j : ℕ). blocks_of c + j) (right_old k d')) left-new (ap (λ (j : ℕ). blocks_of c + j) right_new);
      }

-- all actions of a pair were looked at
pub queue_next : {c d cl ls rs ps bs : List ℕ} {m h a : ℕ} → actions_of c ≤ a → Queue c d cl ls rs ps bs m h a → Queue c d cl ls rs ps bs m (h + 1) 0
queue_next {c} {d} r Q =
    record {
      visited = visited_next (chart_system c) (chart_system d) 0 0 (actions_of c) Q.visited r;
      left_there = Q.left_there;
      right_there = Q.right_there;
      falling = Q.falling;
      classes = Q.classes;
    }

-- all actions of all pairs were looked at: no word separates the charts
pub queue_ended : {c d cl ls rs ps bs : List ℕ} {m h : ℕ} → Comparable c d → Queue c d cl ls rs ps bs m h 0 → m ≤ h → Alike (chart_system c) (chart_system d) 0 0
queue_ended {c} {d} C Q l = visited_all (chart_system c) (chart_system d) 0 0 (actions_of c) Q.visited (out_first c) (out_second C) l

-- charts whose blocks 0 have different labels are separated by the empty word, which is noted for entry 0 whatever the arrays hold
pub labels_apart : (c d ps bs : List ℕ) → Comparable c d → (label_of c 0 ≡ label_of d 0 → ⊥) → Noted c d ps bs 0
unfolding chart_system
labels_apart c d ps bs C n =
    let w = word_none ps bs in
    record {
      within = omega (arith, C.first_shaped.blocks_some);
      falling = λ j p b. absurd (omega arith);
      of_actions = subst (Below (actions_of c)) (sym w) below_nil;
      separates = subst (FirstSeparating (chart_system c) (chart_system d) 0 0) (sym w) (starts_apart (chart_system c) (chart_system d) 0 0 n);
    }
