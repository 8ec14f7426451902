-- Classes of nodes, by an array that holds for each node the number of its class, which is that of a node of the class. Two classes are merged for each pair of
-- the queue, so that there are fewer pairs than nodes.
use Rattle.std.specs.Prelude.{ℕ, ◌+◌, ◌≤◌, ◌<◌, ◌≡◌, refl, Bool, true, false, List, eqb, length, get_or, set}
use Rattle.std.proofs.Math.Decide.{ℕ_discrete}
use Rattle.std.proofs.Common.{arith, sym, ap, ◌∙◌, length-set, get_or-set_other, eq-eqb, ne_eqb}
use Rattle.systems.specs.Search.{count}
use Rattle.systems.proofs.Laws.{true_is, count_is, count_some, count_less}
use Rattle.systems.specs.System.{Reading}
use Rattle.chart_bytes.specs.Classes.{store_next}

-- the number of a class once the nodes of class `from` are in class `to`
unfoldable pub merged : ℕ → ℕ → ℕ → ℕ
merged from to v = elim (eqb v from) [ true ↦ to | false ↦ v ]

pub merged_moved : (from to v : ℕ) → v ≡ from → to ≡ merged from to v
unfolding merged
merged_moved from to v e = rw (eq-eqb v from e, merged) refl

pub merged_stays : (from to v : ℕ) → (v ≡ from → ⊥) → v ≡ merged from to v
unfolding merged
merged_stays from to v n = rw (ne_eqb v from n, merged) refl

-- a node after which its class is named
abbrev pub names : (ℕ → ℕ) → ℕ → Bool
names cl z = eqb (cl z) z

-- The classes of n nodes once those of m pairs of nodes, lo k and hi k, are merged.
pub record Classes (n m : ℕ) (lo hi cl : ℕ → ℕ) : Type 0 where
  pub within : (z : ℕ) → z < n → cl z < n
  pub named : (z : ℕ) → z < n → cl (cl z) ≡ cl z
  pub counted : count (names cl) n + m ≡ n
  -- nodes of one class are joined by a chain of pairs: whatever agrees on each pair agrees on them
  pub joins : (f : ℕ → Reading) → ((k : ℕ) → k < m → f (lo k) ≡ f (hi k)) → (x y : ℕ) → x < n → y < n → cl x ≡ cl y → f x ≡ f y

-- at first each node is a class of its own
pub classes_begun : (n : ℕ) (lo hi cl : ℕ → ℕ) → ((z : ℕ) → z < n → cl z ≡ z) → Classes n 0 lo hi cl
classes_begun n lo hi cl e =
    record {
      within = λ z h. omega (arith, e z h);
      named = λ z h. ap cl (e z h);
      counted = omega (arith, count_is (names cl) n n (omega arith) (λ i h. true_is (names cl i) (eq-eqb (cl i) i (e i h))) (λ i a b t. omega arith));
      joins = λ f H x y hx hy q. ap f (sym (e x hx) ∙ q ∙ e y hy);
    }

-- some class is left, so there are fewer pairs than nodes
pub classes_room : {n m : ℕ} {lo hi cl : ℕ → ℕ} → Classes n m lo hi cl → 0 < n → m < n
classes_room {n} {m} {lo} {hi} {cl} C h =
    omega (arith, C.counted, count_some (names cl) n (cl 0) (C.within 0 h) (true_is (names cl (cl 0)) (eq-eqb (cl (cl 0)) (cl 0) (C.named 0 h))))

-- the classes of the nodes of one more pair, which are different, are merged
module _ {n m : ℕ} {lo hi lo' hi' cl cl' : ℕ → ℕ} (x y : ℕ) (C : Classes n m lo hi cl) (hx : x < n) (hy : y < n) (apart : cl x ≡ cl y → ⊥)
    (M : (z : ℕ) → z < n → cl' z ≡ merged (cl y) (cl x) (cl z)) (L : (k : ℕ) → k < m → lo' k ≡ lo k) (H : (k : ℕ) → k < m → hi' k ≡ hi k)
    (l : lo' m ≡ x) (h : hi' m ≡ y) where
  moved : (z : ℕ) → z < n → cl z ≡ cl y → cl' z ≡ cl x
  moved z d e = M z d ∙ sym (merged_moved (cl y) (cl x) (cl z) e)

  stays : (z : ℕ) → z < n → (cl z ≡ cl y → ⊥) → cl' z ≡ cl z
  stays z d e = M z d ∙ sym (merged_stays (cl y) (cl x) (cl z) e)

  -- where the node x is, nothing moves
  merged_named : (z : ℕ) → z < n → cl' (cl' z) ≡ cl' z
  merged_named z d = go (ℕ_discrete (cl z) (cl y))
    where
      go : Dec (cl z ≡ cl y) → cl' (cl' z) ≡ cl' z
      go (yes e) =
          let r = moved z d e in
          ap cl' r ∙ stays (cl x) (C.within x hx) (λ q. apart (sym (C.named x hx) ∙ q)) ∙ C.named x hx ∙ sym r
      go (no e) =
          let r = stays z d e in
          ap cl' r ∙ stays (cl z) (C.within z d) (λ q. e (sym (C.named z d) ∙ q)) ∙ C.named z d ∙ sym r

  merged_within : (z : ℕ) → z < n → cl' z < n
  merged_within z d = go (ℕ_discrete (cl z) (cl y))
    where
      go : Dec (cl z ≡ cl y) → cl' z < n
      go (yes e) = omega (arith, moved z d e, C.within x hx)
      go (no e) = omega (arith, stays z d e, C.within z d)

  -- the node that named the class of y names none any more, and all others do as before
  same_name : (z : ℕ) → z < n → (z ≡ cl y → ⊥) → names cl z ≡ names cl' z
  same_name z d n' = go (ℕ_discrete (cl z) (cl y))
    where
      go : Dec (cl z ≡ cl y) → names cl z ≡ names cl' z
      go (yes e) =
          ne_eqb (cl z) z (λ q. n' (sym q ∙ e))
          ∙ sym (ne_eqb (cl' z) z (λ q. apart (sym (C.named x hx) ∙ ap cl (sym (moved z d e) ∙ q) ∙ e)))
      go (no e) = ap (λ (v : ℕ). eqb v z) (sym (stays z d e))

  merged_counted : count (names cl') n + (m + 1) ≡ n
  merged_counted =
      let a = eq-eqb (cl (cl y)) (cl y) (C.named y hy) in
      let b = ne_eqb (cl' (cl y)) (cl y) (λ q. apart (sym (moved (cl y) (C.within y hy) (C.named y hy)) ∙ q)) in
      omega (arith, C.counted, count_less (names cl) (names cl') n (cl y) (C.within y hy) a b same_name)

  merged_joins : (f : ℕ → Reading) → ((k : ℕ) → k < m + 1 → f (lo' k) ≡ f (hi' k)) → (u v : ℕ) → u < n → v < n → cl' u ≡ cl' v → f u ≡ f v
  merged_joins f F u v hu hv e = go (ℕ_discrete (cl u) (cl y)) (ℕ_discrete (cl v) (cl y))
    where
      old : (u v : ℕ) → u < n → v < n → cl u ≡ cl v → f u ≡ f v
      old = C.joins f (λ k d. ap f (sym (L k d)) ∙ F k (omega arith) ∙ ap f (H k d))

      new : f x ≡ f y
      new = ap f (sym l) ∙ F m (omega arith) ∙ ap f h

      go : Dec (cl u ≡ cl y) → Dec (cl v ≡ cl y) → f u ≡ f v
      go (yes p) (yes q) = old u v hu hv (p ∙ sym q)
      go (yes p) (no q) = old u y hu hy p ∙ sym new ∙ old x v hx hv (sym (moved u hu p) ∙ e ∙ stays v hv q)
      go (no p) (yes q) = old u x hu hx (sym (stays u hu p) ∙ e ∙ moved v hv q) ∙ new ∙ old y v hy hv (sym q)
      go (no p) (no q) = old u v hu hv (sym (stays u hu p) ∙ e ∙ stays v hv q)

  pub classes_merged : Classes n (m + 1) lo' hi' cl'
  classes_merged = record { within = merged_within; named = merged_named; counted = merged_counted; joins = merged_joins }

-- An array in which the first z nodes of class `from` were put into class `to`.
pub record Merging (old : List ℕ) (from to z : ℕ) (cl : List ℕ) : Type 0 where
  pub same_length : length cl ≡ length old
  pub done : (k : ℕ) → k < z → get_or cl k 0 ≡ merged from to (get_or old k 0)
  pub rest : (k : ℕ) → z ≤ k → get_or cl k 0 ≡ get_or old k 0

pub merging_begun : (old : List ℕ) (from to : ℕ) → Merging old from to 0 old
merging_begun old from to = record { same_length = refl; done = λ k h. absurd (omega arith); rest = λ k h. refl }

pub merging_more : {old cl : List ℕ} {from to z : ℕ} (v : ℕ) → Merging old from to z cl → z < length cl → v ≡ merged from to (get_or cl z 0)
    → Merging old from to (z + 1) (set cl z v)
merging_more {old} {cl} {from} {to} {z} v M h e =
    record {
      same_length = length-set cl z v ∙ M.same_length;
      done = store_next cl z v (λ k. merged from to (get_or old k 0)) h (e ∙ ap (merged from to) (M.rest z (omega arith))) M.done;
      rest = λ k l. get_or-set_other cl z k v 0 (λ q. omega arith) ∙ M.rest k (omega arith);
    }
