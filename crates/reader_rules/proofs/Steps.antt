-- Laws of what is handed out, as the code finds it.
use Rattle.std.specs.Prelude.{◌≡◌, refl, Bool, true, false, ◌&&◌, List, [], ◌∷◌, ℕ, ◌+◌, ◌≤◌, ◌<◌, ltb, length, get_or, set, Option, Some, None, Ok, Err}
use Rattle.std.proofs.Common.{sym, ap, ◌∙◌, ⊎_elim, arith, eq-or-lt_of_le, length-set, ext_get_or, get_or-set_same, get_or-set_other, lt-ltb, le-ltb, ltb-true}
use Rattle.std.proofs.Math.Decide.{dec_le}
use Rattle.systems.specs.Lists.{collect}
use Rattle.systems.proofs.Lists.{length_each, get_d_each}
use Rattle.answer_rules.specs.declared.Refusal.{Refusal}
use Rattle.answer_rules.specs.Refusal.{Checked}
use Rattle.answer_rules.proofs.Loops.{and_second}
use Rattle.model.specs.Chart.{blocks_of, label_of}
use Rattle.chart_bytes.specs.Header.{header_check}
use Rattle.chart_bytes.specs.HeaderLaws.{header_passed}
use Rattle.reader_rules.specs.declared.Block.{Block}
use Rattle.reader_rules.specs.Reading.{is_fine, has_block, eight_targets, targets_of, block_at, Step, block_step, none_step, step_at, after}

pub length_eight : (f : ℕ → ℕ) (n : ℕ) → length (eight_targets f n) ≡ 8
unfolding eight_targets
length_eight f n = length_each (λ a. elim (ltb a n) [ true ↦ f a | false ↦ 255 ]) 8

-- the array of a reader, filled by action
pub eight_none : (f : ℕ → ℕ) → 255 ∷ 255 ∷ 255 ∷ 255 ∷ 255 ∷ 255 ∷ 255 ∷ 255 ∷ [] ≡ eight_targets f 0
unfolding eight_targets collect
eight_none f = refl

pub eight_inside : (f : ℕ → ℕ) (n i : ℕ) → i < 8 → i < n → get_or (eight_targets f n) i 0 ≡ f i
unfolding eight_targets
eight_inside f n i h l = get_d_each (λ a. elim (ltb a n) [ true ↦ f a | false ↦ 255 ]) 8 0 i h ∙ rw (lt-ltb i n l) refl

eight_past : (f : ℕ → ℕ) (n i : ℕ) → i < 8 → n ≤ i → get_or (eight_targets f n) i 0 ≡ 255
unfolding eight_targets
eight_past f n i h l = get_d_each (λ a. elim (ltb a n) [ true ↦ f a | false ↦ 255 ]) 8 0 i h ∙ rw (le-ltb i n l) refl

pub eight_more : (f : ℕ → ℕ) (n x : ℕ) → n < 8 → x ≡ f n → set (eight_targets f n) n x ≡ eight_targets f (n + 1)
eight_more f n x h e =
    ext_get_or 0 (set (eight_targets f n) n x) (eight_targets f (n + 1)) (length-set (eight_targets f n) n x ∙ length_eight f n ∙ sym (length_eight f (n + 1)))
    (λ i l. at i (omega (arith, length-set (eight_targets f n) n x, length_eight f n)))
  where
    before : (i : ℕ) → i < 8 → i < n → get_or (set (eight_targets f n) n x) i 0 ≡ get_or (eight_targets f (n + 1)) i 0
    before i l k =
        get_or-set_other (eight_targets f n) n i x 0 (λ q. absurd (omega arith)) ∙ eight_inside f n i l k ∙ sym (eight_inside f (n + 1) i l (omega arith))

    here : (i : ℕ) → i ≡ n → get_or (set (eight_targets f n) n x) i 0 ≡ get_or (eight_targets f (n + 1)) i 0
    here i q =
        ap (λ (k : ℕ). get_or (set (eight_targets f n) n x) k 0) q
        ∙ get_or-set_same (eight_targets f n) n x 0 (omega (arith, length_eight f n))
        ∙ e
        ∙ sym (eight_inside f (n + 1) n h (omega arith))
        ∙ ap (λ (k : ℕ). get_or (eight_targets f (n + 1)) k 0) (sym q)

    after : (i : ℕ) → i < 8 → n < i → get_or (set (eight_targets f n) n x) i 0 ≡ get_or (eight_targets f (n + 1)) i 0
    after i l k =
        get_or-set_other (eight_targets f n) n i x 0 (λ q. absurd (omega arith))
        ∙ eight_past f n i l (omega arith)
        ∙ sym (eight_past f (n + 1) i l (omega arith))

    at : (i : ℕ) → i < 8 → get_or (set (eight_targets f n) n x) i 0 ≡ get_or (eight_targets f (n + 1)) i 0
    at i l = by_order (dec_le n i)
      where
        by_order : Dec (n ≤ i) → get_or (set (eight_targets f n) n x) i 0 ≡ get_or (eight_targets f (n + 1)) i 0
        by_order (yes k) = ⊎_elim (λ q. here i (sym q)) (λ m. after i l m) (eq-or-lt_of_le k)
        by_order (no k) = before i l (omega (arith, k))

-- what was handed out, by cases
chosen : (c : List ℕ) (i : ℕ) (b : Bool) → has_block c i ≡ b → step_at c i ≡ elim b [ true ↦ block_step c i | false ↦ none_step i ]
unfolding step_at
chosen c i b e = ap (λ (t : Bool). elim t [ true ↦ block_step c i | false ↦ none_step i ]) e

had : (c : List ℕ) (i : ℕ) {h k : Checked} → h ≡ header_check c → h ≡ k → has_block c i ≡ is_fine k && ltb i (blocks_of c)
unfolding has_block
had c i e q = ap (λ (k : Checked). is_fine k && ltb i (blocks_of c)) (sym e ∙ q)

pub step_headless : (c : List ℕ) (i : ℕ) {h : Checked} {why : Refusal} → h ≡ header_check c → h ≡ Err why → step_at c i ≡ none_step i
unfolding is_fine
step_headless c i e q = chosen c i false (had c i e q)

pub step_block : (c : List ℕ) (i : ℕ) {h : Checked} → h ≡ header_check c → h ≡ Ok tt → i < blocks_of c → step_at c i ≡ block_step c i
unfolding is_fine
step_block c i e q l = chosen c i true (had c i e q ∙ lt-ltb i (blocks_of c) l)

pub step_past : (c : List ℕ) (i : ℕ) {h : Checked} → h ≡ header_check c → h ≡ Ok tt → blocks_of c ≤ i → step_at c i ≡ none_step i
unfolding is_fine
step_past c i e q l = chosen c i false (had c i e q ∙ le-ltb i (blocks_of c) l)

-- past the number of blocks nothing is handed out, whatever the bytes
pub none_past : (c : List ℕ) (i : ℕ) → blocks_of c ≤ i → step_at c i ≡ none_step i
unfolding has_block
none_past c i h = chosen c i false (ap (λ (b : Bool). is_fine (header_check c) && b) (le-ltb i (blocks_of c) h) ∙ and_second (is_fine (header_check c)) refl)

-- none is handed out
pub hands_none : (c : List ℕ) (i : ℕ) → step_at c i ≡ none_step i → None ≡ (step_at c i).block
unfolding none_step
hands_none c i e = sym (ap (λ (s : Step). s.block) e)

-- a block is handed out
pub hands_block : (c : List ℕ) (i : ℕ) {b : Block} → step_at c i ≡ block_step c i → b ≡ block_at c i → Some b ≡ (step_at c i).block
unfolding block_step
hands_block c i e q = ap Some q ∙ sym (ap (λ (s : Step). s.block) e)

pub block_as : (c : List ℕ) (i : ℕ) {l : ℕ} {t : List ℕ} → l ≡ label_of c i → t ≡ targets_of c i → ◌≡◌ {A = Block} (record { label = l; targets = t }) (block_at c i)
unfolding block_at
block_as c i {l} {t} e q = λ k. record { label = e k; targets = q k }

both_second : (a b : Bool) → (a && b) ≡ true → b ≡ true
both_second true b e = e
both_second false b e = absurd cc

both_first : (a b : Bool) → (a && b) ≡ true → a ≡ true
both_first true b e = refl
both_first false b e = absurd cc

fine : (r : Checked) → is_fine r ≡ true → r ≡ Ok tt
unfolding is_fine
fine (Ok _) e = refl
fine (Err why) e = absurd cc

-- where a block is handed out the reader moves on, and where none is it stays
moves : (c : List ℕ) (i : ℕ) (t : Bool) → has_block c i ≡ t → {b : Block} → (step_at c i).block ≡ Some b → ((step_at c i).next ≡ i + 1) × (i < 255)
unfolding block_step none_step has_block
moves c i true e q =
    let l = ltb-true i (blocks_of c) (both_second (is_fine (header_check c)) (ltb i (blocks_of c)) e) in
    let s = (header_passed c (fine (header_check c) (both_first (is_fine (header_check c)) (ltb i (blocks_of c)) e))).1 in
    (ap (λ (s : Step). s.next) (chosen c i true e), omega (arith, s.blocks_few))
moves c i false e q = let n = ap (λ (s : Step). s.block) (chosen c i false e) in absurd cc

pub step_moves : (c : List ℕ) (i : ℕ) {b : Block} → (step_at c i).block ≡ Some b → ((step_at c i).next ≡ i + 1) × (i < 255)
step_moves c i = moves c i (has_block c i) refl

stays : (c : List ℕ) (i : ℕ) (t : Bool) → has_block c i ≡ t → (step_at c i).block ≡ None → (step_at c i).next ≡ i
unfolding block_step none_step
stays c i true e q = let n = ap (λ (s : Step). s.block) (chosen c i true e) in absurd cc
stays c i false e q = ap (λ (s : Step). s.next) (chosen c i false e)

pub step_stays : (c : List ℕ) (i : ℕ) → (step_at c i).block ≡ None → (step_at c i).next ≡ i
step_stays c i = stays c i (has_block c i) refl

-- so what is handed out tells which block is next
pub next_told : (c : List ℕ) (i : ℕ) {o : Option Block} → o ≡ (step_at c i).block → (step_at c i).next ≡ after i o
unfolding after
next_told c i {o = Some b} e = (step_moves c i (sym e)).0
next_told c i {o = None} e = step_stays c i (sym e)
