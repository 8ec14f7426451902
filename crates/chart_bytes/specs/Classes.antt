-- Tables of classes: what the rounds of refinement in code hold.
use Rattle.std.specs.Prelude.{◌≡◌, refl, ◌⊎◌, Bool, true, false, ◌&&◌, List, ℕ, zero, suc, ◌+◌, ◌≤◌, ◌<◌, T, eqb, length, get_or, set}
use Rattle.std.proofs.Common.{sym, ap, subst, ◌∙◌, inl, inr, arith, add-one, get_or-set_same, get_or-set_other, eq-eqb, ne_eqb}
use Rattle.std.proofs.Math.Decide.{le_ind, ℕ_discrete}
use Rattle.systems.specs.Search.{run, all, least}
use Rattle.systems.proofs.Laws.{true_is, not_true, least_is, least_le, least_ext, run_ext, below_next}
use Rattle.answer_rules.proofs.Loops.{and_both, and_first, and_second, all_stop, all_ended}
use Rattle.model.specs.Chart.{actions_of, blocks_of, label_of, target_of, same_target, refines, round_class}
use Rattle.model.specs.ChartDepth.{depth_of}
use Rattle.model.specs.Rounds.{TargetsRight, Quiet, Parted}
use Rattle.model.proofs.Rounds.{changed_parted, quiet_from}
use Rattle.model.proofs.ChartDepthLaws.{depth_is}

-- what a table holds for a block
abbrev pub entry : List ℕ → ℕ → ℕ
entry f x = get_or f x 0

-- the table f holds the classes after k rounds
pub record Holds (c : List ℕ) (k : ℕ) (f : List ℕ) : Type 0 where
  pub at : (i : ℕ) → i < blocks_of c → get_or f i 0 ≡ round_class c k i

-- no block's class in the table f has a later number than the block
abbrev pub Ordered : List ℕ → List ℕ → Type 0
Ordered c f = (i : ℕ) → i < blocks_of c → get_or f i 0 ≤ i

-- two tables differ in one of the first n entries
pub record Differ (n : ℕ) (f g : List ℕ) : Type 0 where
  pub at : ℕ
  pub within : at < n
  pub differs : get_or f at 0 ≡ get_or g at 0 → ⊥

-- the table g is one round past the table f
pub record Refined (c f g : List ℕ) : Type 0 where
  pub at : (i : ℕ) → i < blocks_of c → get_or g i 0 ≡ least (refines c (entry f) i) (blocks_of c)

-- the least number that passes, found by a loop
pub found_least : (p : ℕ → Bool) (n j : ℕ) → j < n → ((k : ℕ) → k < j → p k ≡ false) → p j ≡ true → j ≡ least p n
found_least p n j h e t = sym (least_is p n j (omega arith) (λ l. true_is (p j) t) (λ k l q. not_true (p k) (e k l) q))

-- a store in a table: what it holds at i, and elsewhere
pub store_next : (f : List ℕ) (i v : ℕ) (q : ℕ → ℕ) → i < length f → v ≡ q i → ((k : ℕ) → k < i → get_or f k 0 ≡ q k)
    → (k : ℕ) → k < i + 1 → get_or (set f i v) k 0 ≡ q k
store_next f i v q h e g =
    below_next i (λ k l. get_or-set_other f i k v 0 (λ d. omega arith) ∙ g k l) (get_or-set_same f i v 0 h ∙ e)

-- the test of two targets, as the code finds it
pub same_barred : (f : ℕ → ℕ) (t u : ℕ) → t ≡ 255 → eqb u 255 ≡ same_target f t u
unfolding same_target
same_barred f t u e = rw (eq-eqb t 255 e, same_target)

pub same_opened : (f : ℕ → ℕ) (t u : ℕ) → (t ≡ 255 → ⊥) → u ≡ 255 → false ≡ same_target f t u
unfolding same_target
same_opened f t u n e = rw (ne_eqb t 255 n, eq-eqb u 255 e, same_target)

pub same_classed : (f : ℕ → ℕ) (t u : ℕ) → (t ≡ 255 → ⊥) → (u ≡ 255 → ⊥) → eqb (f t) (f u) ≡ same_target f t u
unfolding same_target
same_classed f t u n e = rw (ne_eqb t 255 n, ne_eqb u 255 e, same_target)

pub same_refl : (f : ℕ → ℕ) (t : ℕ) → same_target f t t ≡ true
same_refl f t = go (ℕ_discrete t 255)
  where
    go : Dec (t ≡ 255) → same_target f t t ≡ true
    go (yes e) = sym (same_barred f t t e) ∙ eq-eqb t 255 e
    go (no n) = sym (same_classed f t t n n) ∙ eq-eqb (f t) (f t) refl

all_trues : (n : ℕ) → all (λ a. true) n ≡ true
unfolding run
all_trues zero = refl
all_trues (suc n) = and_both (all_trues n) refl

-- a block agrees with itself
pub refines_refl : (c : List ℕ) (f : ℕ → ℕ) (i : ℕ) → refines c f i i ≡ true
unfolding refines
refines_refl c f i =
    and_both (eq-eqb (f i) (f i) refl)
    (run_ext true ◌&&◌ (λ a. same_target f (target_of c i a) (target_of c i a)) (λ a. true) (actions_of c) (λ a h. same_refl f (target_of c i a)) ∙ all_trues (actions_of c))

same_eqb : {a b x y : ℕ} → a ≡ x → b ≡ y → eqb a b ≡ eqb x y
same_eqb p q = rw (p, q) refl

-- tests of targets and blocks depend on the blocks' classes alone
same_ext : (f g : ℕ → ℕ) (n t u : ℕ) → n ≤ 255 → ((i : ℕ) → i < n → f i ≡ g i) → (t < n) ⊎ (t ≡ 255) → (u < n) ⊎ (u ≡ 255) → same_target f t u ≡ same_target g t u
same_ext f g n t u few e (inr h) q = sym (same_barred f t u h) ∙ same_barred g t u h
same_ext f g n t u few e (inl h) (inr q) = sym (same_opened f t u (λ d. omega arith) q) ∙ same_opened g t u (λ d. omega arith) q
same_ext f g n t u few e (inl h) (inl q) =
    sym (same_classed f t u (λ d. omega arith) (λ d. omega arith)) ∙ same_eqb (e t h) (e u q) ∙ same_classed g t u (λ d. omega arith) (λ d. omega arith)

refines_ext : (c : List ℕ) (f g : ℕ → ℕ) → blocks_of c ≤ 255 → TargetsRight c → ((i : ℕ) → i < blocks_of c → f i ≡ g i)
    → (i j : ℕ) → i < blocks_of c → j < blocks_of c → refines c f i j ≡ refines c g i j
unfolding refines
refines_ext c f g few right e i j hi hj =
    ap (λ (b : Bool). b && all (λ a. same_target f (target_of c j a) (target_of c i a)) (actions_of c)) (same_eqb (e j hj) (e i hi))
    ∙ ap (λ (b : Bool). eqb (g j) (g i) && b)
    (run_ext true ◌&&◌ (λ a. same_target f (target_of c j a) (target_of c i a)) (λ a. same_target g (target_of c j a) (target_of c i a)) (actions_of c)
    (λ a h. same_ext f g (blocks_of c) (target_of c j a) (target_of c i a) few e (right j a hj h) (right i a hi h)))

class_ext : (c : List ℕ) (f g : ℕ → ℕ) → blocks_of c ≤ 255 → TargetsRight c → ((i : ℕ) → i < blocks_of c → f i ≡ g i)
    → (i : ℕ) → i < blocks_of c → least (refines c f i) (blocks_of c) ≡ least (refines c g i) (blocks_of c)
class_ext c f g few right e i hi =
    least_ext (refines c f i) (refines c g i) (blocks_of c)
    (λ j hj. let q = refines_ext c f g few right e i j hi hj in (λ t. subst T q t, λ t. subst T (sym q) t))

-- the classes after k rounds have numbers of blocks that come no later
pub holds_ordered : (c f : List ℕ) (k : ℕ) → Holds c k f → Ordered c f
unfolding round_class
holds_ordered c f zero h i l =
    subst (λ (r : ℕ). r ≤ i) (sym (h.at i l)) (least_le (λ j. eqb (label_of c j) (label_of c i)) (blocks_of c) i (true_is (eqb (label_of c i) (label_of c i)) (eq-eqb (label_of c i) (label_of c i) refl)))
holds_ordered c f (suc k) h i l =
    subst (λ (r : ℕ). r ≤ i) (sym (h.at i l))
    (least_le (refines c (round_class c k) i) (blocks_of c) i (true_is (refines c (round_class c k) i i) (refines_refl c (round_class c k) i)))

-- a round past the classes after k rounds gives those after k + 1
pub holds_next : (c : List ℕ) → blocks_of c ≤ 255 → TargetsRight c → {k : ℕ} {f g : List ℕ} → Holds c k f → Refined c f g → Holds c (suc k) g
unfolding round_class
holds_next c few right {k} {f} h r = record { at = λ i l. r.at i l ∙ class_ext c (entry f) (round_class c k) few right h.at i l }

-- where a round changes nothing, no later round does
pub holds_still : (c : List ℕ) → blocks_of c ≤ 255 → TargetsRight c → {k : ℕ} {f : List ℕ} (m : ℕ) → k ≤ m → Holds c k f → Refined c f f → Holds c m f
holds_still c few right {k} {f} m l h r = le_ind (λ n. Holds c n f) h (λ n b p. holds_next c few right p r) m l

-- two blocks have one label
abbrev pub same_label : List ℕ → ℕ → ℕ → Bool
same_label c i j = eqb (label_of c j) (label_of c i)

-- the searches for the least block of a class, as the code makes them
pub label_found : (c : List ℕ) (i j : ℕ) {l m : ℕ} → j ≤ i → i < blocks_of c → ((k : ℕ) → k < j → same_label c i k ≡ false)
    → m ≡ label_of c j → l ≡ label_of c i → m ≡ l → (j ≡ round_class c 0 i) × (j ≤ i)
unfolding round_class
label_found c i j h b e p q d = (found_least (same_label c i) (blocks_of c) j (omega arith) e (eq-eqb (label_of c j) (label_of c i) (sym p ∙ d ∙ q)), h)

pub label_other : (c : List ℕ) (i j : ℕ) {l m : ℕ} → m ≡ label_of c j → l ≡ label_of c i → (m ≡ l → ⊥) → same_label c i j ≡ false
label_other c i j p q n = ne_eqb (label_of c j) (label_of c i) (λ d. n (p ∙ d ∙ sym q))

pub class_found : (c f : List ℕ) (i j : ℕ) → j ≤ i → i < blocks_of c → ((k : ℕ) → k < j → refines c (entry f) i k ≡ false)
    → refines c (entry f) i j ≡ true → (j ≡ least (refines c (entry f) i) (blocks_of c)) × (j ≤ i)
class_found c f i j h b e t = (found_least (refines c (entry f) i) (blocks_of c) j (omega arith) e t, h)

-- the test of two blocks, as the code makes it
abbrev pub same_at : List ℕ → List ℕ → ℕ → ℕ → ℕ → Bool
same_at c f i j a = same_target (entry f) (target_of c j a) (target_of c i a)

pub agree_first : (c f : List ℕ) (i j : ℕ) → (entry f j ≡ entry f i → ⊥) → false ≡ refines c (entry f) i j
unfolding refines
agree_first c f i j n = sym (and_first (all (same_at c f i j) (actions_of c)) (ne_eqb (entry f j) (entry f i) n))

-- no block below a block's class has that class
pub class_below : (c f : List ℕ) (i : ℕ) → Ordered c f → i < blocks_of c → (k : ℕ) → k < entry f i → refines c (entry f) i k ≡ false
class_below c f i o h k l =
    let b = o i h in
    sym (agree_first c f i k (λ e. let p = o k (omega arith) in omega arith))

pub agree_stop : (c f : List ℕ) (i j a : ℕ) → a < actions_of c → same_at c f i j a ≡ false → false ≡ refines c (entry f) i j
unfolding refines
agree_stop c f i j a h e = sym (and_second (eqb (entry f j) (entry f i)) (all_stop (same_at c f i j) a (actions_of c) e h))

pub agree_all : (c f : List ℕ) (i j a : ℕ) → entry f j ≡ entry f i → all (same_at c f i j) a ≡ true → a ≤ actions_of c → actions_of c ≤ a
    → true ≡ refines c (entry f) i j
unfolding refines
agree_all c f i j a e h l m = sym (and_both (eq-eqb (entry f j) (entry f i) e) (sym (all_ended (same_at c f i j) a (actions_of c) h l m)))

pub agree_at : (c f : List ℕ) (i j a t u : ℕ) {b : Bool} → t ≡ target_of c j a → u ≡ target_of c i a → b ≡ same_target (entry f) t u → same_at c f i j a ≡ b
agree_at c f i j a t u e h q = sym (q ∙ ap (λ (x : ℕ). same_target (entry f) x u) e ∙ ap (same_target (entry f) (target_of c j a)) h)

-- a round that parts nothing, and one whose classes are taken over
pub settled_same : (c f g : List ℕ) (n : ℕ) → n ≡ blocks_of c → Refined c f g → ((i : ℕ) → i < n → get_or f i 0 ≡ get_or g i 0) → Refined c f f
settled_same c f g n e r h = record { at = λ i l. h i (omega arith) ∙ r.at i l }

pub settled_moved : (c f g h : List ℕ) (n : ℕ) → n ≡ blocks_of c → Refined c f g → ((i : ℕ) → i < n → get_or h i 0 ≡ get_or g i 0) → Refined c f h
settled_moved c f g h n e r k = record { at = λ i l. k i (omega arith) ∙ r.at i l }

-- where they differ from those before
pub differ_moved : (f g h : List ℕ) {m n : ℕ} → n ≡ m → Differ n f g → ((i : ℕ) → i < n → get_or h i 0 ≡ get_or g i 0) → Differ m f h
differ_moved f g h e d k =
    let b = d.within in
    record { at = d.at; within = omega arith; differs = λ q. d.differs (q ∙ k d.at b) }

-- one more round
pub holds_more : (c : List ℕ) → blocks_of c ≤ 255 → TargetsRight c → {k : ℕ} {f g : List ℕ} → Holds c k f → Refined c f g → Holds c (k + 1) g
holds_more c few right h r = rw add-one (holds_next c few right h r)

-- as many rounds as there are blocks
pub holds_all : (c : List ℕ) {k : ℕ} {f : List ℕ} → k ≤ blocks_of c → blocks_of c ≤ k → Holds c k f → Holds c (blocks_of c) f
holds_all c {k} {f} h l p = let z : k ≡ blocks_of c = omega arith in subst (λ (n : ℕ). Holds c n f) z p

-- a round that changed nothing
pub holds_stopped : (c : List ℕ) → blocks_of c ≤ 255 → TargetsRight c → {k : ℕ} {f g : List ℕ} → k ≤ blocks_of c → Holds c k f → Refined c f g → g ≡ f → Holds c (blocks_of c) g
holds_stopped c few right {k} {f} {g} l h r e =
    subst (Holds c (blocks_of c)) (sym e) (holds_still c few right (blocks_of c) l h (subst (Refined c f) e r))

-- a round that changes an entry parts two blocks
pub differ_parted : (c : List ℕ) → blocks_of c ≤ 255 → TargetsRight c → {k : ℕ} {f g : List ℕ} → Holds c k f → Refined c f g → Differ (blocks_of c) f g → Parted c k
differ_parted c few right {k} h r d =
    changed_parted c few right k d.at d.within
    (λ e. d.differs (h.at d.at d.within ∙ sym e ∙ sym ((holds_next c few right h r).at d.at d.within)))

-- one that changes nothing is quiet
same_quiet : (c : List ℕ) → blocks_of c ≤ 255 → TargetsRight c → {k : ℕ} {f : List ℕ} → Holds c k f → Refined c f f → Quiet c k
same_quiet c few right h r i j hi hj e =
    let n = holds_next c few right h r in
    sym (n.at i hi) ∙ h.at i hi ∙ e ∙ sym (h.at j hj) ∙ n.at j hj

-- the depth, where k rounds part blocks and the next changes nothing
pub depth_stopped : (c : List ℕ) → blocks_of c ≤ 255 → TargetsRight c → {k : ℕ} {f g : List ℕ} → ((m : ℕ) → m < k → Parted c m) → Holds c k f → Refined c f g → g ≡ f
    → k ≡ depth_of c
depth_stopped c few right {k} {f} p h r e = sym (depth_is c few right k p (same_quiet c few right h (subst (Refined c f) e r)))

-- or where all rounds part some
pub depth_all : (c : List ℕ) → blocks_of c ≤ 255 → TargetsRight c → {k n : ℕ} → n ≡ blocks_of c → k ≤ n → n ≤ k → ((m : ℕ) → m < k → Parted c m) → n ≡ depth_of c
depth_all c few right e l m p =
    e ∙ sym (depth_is c few right (blocks_of c) (λ i h. p i (omega arith)) (quiet_from c few right (blocks_of c) (omega arith)))
