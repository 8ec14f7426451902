-- What a reader's calls give together: every block in order, then none for ever; and the chart's bytes back. Statements first.
use Rattle.std.specs.Prelude.{◌≡◌, refl, List, ◌++◌, ℕ, zero, suc, ◌+◌, ◌*◌, ◌≤◌, ◌<◌, length, take, drop, Result, Ok, Err}
use Rattle.std.proofs.Common.{sym, ap, ◌∙◌, arith, length-drop, ext_get_or, get_or-take, get_or-drop, length-take-le, take-add, take_all, drop-drop}
use Rattle.std.proofs.Math.Decide.{dec_le}
use Rattle.integers.specs.LittleEndian.{Bytes, split}
use Rattle.integers.proofs.LittleEndian.{split_joined, unsigned_at_joined}
use Rattle.systems.specs.Lists.{collect}
use Rattle.systems.proofs.Lists.{collect_ext}
use Rattle.answer_rules.specs.declared.Refusal.{Refusal}
use Rattle.answer_rules.specs.Refusal.{Checked}
use Rattle.answer_rules.specs.Stages.{and_then}
use Rattle.answer_rules.proofs.Stages.{then_fine, refused}
use Rattle.model.specs.Chart.{actions_of, blocks_of, record_at, label_of, target_of}
use Rattle.chart_bytes.specs.Header.{header_check}
use Rattle.chart_bytes.specs.Shape.{Shaped, record_fits}
use Rattle.chart_bytes.specs.HeaderLaws.{header_passed}
use Rattle.chart_form.specs.Form.{limits_check, numbers_check, bars_check}
use Rattle.chart.specs.Check.{classes_check, form_check, chart_check}
use Rattle.reader_rules.specs.Reading.{targets_of, block_at, Step, block_step, none_step, step_at, opening_of}
use Rattle.reader_rules.proofs.Steps.{eight_inside, length_eight, step_headless, step_block, none_past}
use Rattle.reader_rules.specs.Theorems.{next_from, handed_from, handed_out, InOrder, record_of, rewritten}

-- the header of an accepted chart
header_fine : (c : List ℕ) → chart_check c ≡ Ok tt → header_check c ≡ Ok tt
unfolding chart_check form_check
header_fine c e =
    let (f, r) = then_fine (form_check c) (classes_check c) e in
    let (h, q) = then_fine (header_check c) (and_then (limits_check c) (and_then (numbers_check c) (bars_check c))) f in
    h

at_block : (c : List ℕ) → chart_check c ≡ Ok tt → (i : ℕ) → i < blocks_of c → step_at c i ≡ block_step c i
at_block c e i h = step_block c i (sym (header_fine c e)) refl h

-- up to the end call k is at block k
next_inside : (c : List ℕ) → chart_check c ≡ Ok tt → (k : ℕ) → k ≤ blocks_of c → next_from c 0 k ≡ k
unfolding next_from block_step
next_inside c e zero h = refl
next_inside c e (suc k) h =
    ap (λ (i : ℕ). (step_at c i).next) (next_inside c e k (omega arith)) ∙ ap (λ (s : Step). s.next) (at_block c e k (omega arith)) ∙ omega arith

-- where nothing is handed out, the reader stays and nothing is handed out for ever
next_stays : (c : List ℕ) (i : ℕ) → step_at c i ≡ none_step i → (k : ℕ) → next_from c i k ≡ i
unfolding next_from none_step
next_stays c i e zero = refl
next_stays c i e (suc k) = ap (λ (j : ℕ). (step_at c j).next) (next_stays c i e k) ∙ ap (λ (s : Step). s.next) e

none_for_ever : (c : List ℕ) (i : ℕ) → step_at c i ≡ none_step i → (k : ℕ) → handed_from c i k ≡ none_step i
unfolding handed_from
none_for_ever c i e k = ap (step_at c) (next_stays c i e k) ∙ e

-- and behind it stays there
next_past : (c : List ℕ) → chart_check c ≡ Ok tt → (k : ℕ) → blocks_of c ≤ k → next_from c 0 k ≡ blocks_of c
unfolding next_from none_step
next_past c e zero h = omega arith
next_past c e (suc k) h = by_order (next_past c e k) (dec_le (blocks_of c) k)
  where
    by_order : (blocks_of c ≤ k → next_from c 0 k ≡ blocks_of c) → Dec (blocks_of c ≤ k) → next_from c 0 (suc k) ≡ blocks_of c
    by_order f (yes l) = ap (λ (i : ℕ). (step_at c i).next) (f l) ∙ ap (λ (s : Step). s.next) (none_past c (blocks_of c) (omega arith))
    by_order f (no l) = next_inside c e (suc k) (omega arith) ∙ omega arith

pub in_order : (c : List ℕ) → chart_check c ≡ Ok tt → InOrder c
unfolding handed_from opening_of and_then
in_order c e = record {
  opens = ap (λ (r : Checked). and_then r (first c)) e;
  blocks = λ k h. ap (step_at c) (next_inside c e k (omega arith)) ∙ at_block c e k h;
  none_left = λ k h. ap (step_at c) (next_past c e k h) ∙ none_past c (blocks_of c) (omega arith);
}
  where
    first : List ℕ → Result ℕ Refusal
    first c = Ok 0

-- A refused chart gives no reader, and one that stands at block 255 has nothing to hand out.
pub refused_none : (c : List ℕ) → Bytes c → (why : Refusal) → chart_check c ≡ Err why
    → (opening_of c ≡ Err why) × ((k : ℕ) → handed_from c 255 k ≡ none_step 255)
unfolding opening_of
refused_none c B why e = (sym (refused (Ok 0) e), none_for_ever c 255 (none_past c 255 (omega (arith, B 6))))

-- Over bytes whose header is wrong nothing is handed out, wherever a reader stands,
pub headless_none : (c : List ℕ) (why : Refusal) → header_check c ≡ Err why → (i k : ℕ) → handed_from c i k ≡ none_step i
headless_none c why e i = none_for_ever c i (step_headless c i (sym e) refl)

-- and behind the last block nothing is, whatever the bytes.
pub past_none : (c : List ℕ) (i : ℕ) → blocks_of c ≤ i → (k : ℕ) → handed_from c i k ≡ none_step i
past_none c i h = none_for_ever c i (none_past c i h)

-- a chart over which a reader was opened has a header that is right
pub opened_shaped : (c : List ℕ) {i : ℕ} → opening_of c ≡ Ok i → Shaped c
unfolding opening_of and_then
opened_shaped c {i} e = (header_passed c (header_fine c (passes (chart_check c) e))).1
  where
    passes : (r : Checked) → ◌≡◌ {A = Result ℕ Refusal} (and_then r (Ok 0)) (Ok i) → r ≡ Ok tt
    passes (Ok _) q = refl
    passes (Err why) q = absurd cc

-- pieces of one width, one behind the other, are the front of the list that they were taken from
collect_pieces : (w : ℕ) (l : List ℕ) (n : ℕ) → collect (λ k. take w (drop (k * w) l)) n ≡ take (n * w) l
unfolding collect
collect_pieces w l zero = let z : 0 ≡ 0 * w = omega arith in ap (λ (k : ℕ). take k l) z
collect_pieces w l (suc n) =
    let z : n * w + w ≡ suc n * w = omega arith in
    ap (λ (x : List ℕ). x ++ take w (drop (n * w) l)) (collect_pieces w l n) ∙ sym (take-add (n * w) w l) ∙ ap (λ (k : ℕ). take k l) z

-- a block's record as the chart has it
label_bytes_lem : (c : List ℕ) → Bytes c → Shaped c → (i : ℕ) → i < blocks_of c → split 2 (label_of c i) ≡ take 2 (drop (record_at c i) c)
unfolding label_of record_at
label_bytes_lem c B s i h =
    ap (split 2) (unsigned_at_joined 2 c (record_at c i))
    ∙ split_joined 2 (drop (record_at c i) c) (λ k. rw (get_or-drop (record_at c i) c k 0) (B (record_at c i + k))) (omega (arith, length-drop (record_at c i) c, record_fits c s i h))

target_bytes : (c : List ℕ) → Shaped c → (i : ℕ) → i < blocks_of c → take (actions_of c) (targets_of c i) ≡ take (actions_of c) (drop (record_at c i + 2) c)
unfolding targets_of target_of record_at
target_bytes c s i h =
    ext_get_or 0 (take a (targets_of c i)) (take a (drop (record_at c i + 2) c)) (front ∙ sym back)
    (λ j l.
    let b : j < a = omega (arith, front) in
    get_or-take a (targets_of c i) j 0 b
    ∙ eight_inside (target_of c i) a j (omega (arith, s.actions_few)) b
    ∙ sym (get_or-drop (record_at c i + 2) c j 0)
    ∙ sym (get_or-take a (drop (record_at c i + 2) c) j 0 b))
  where
    a : ℕ
    a = actions_of c

    front : length (take (actions_of c) (targets_of c i)) ≡ actions_of c
    front = length-take-le (actions_of c) (targets_of c i) (omega (arith, length_eight (target_of c i) (actions_of c), s.actions_few))

    back : length (take (actions_of c) (drop (record_at c i + 2) c)) ≡ actions_of c
    back = length-take-le (actions_of c) (drop (record_at c i + 2) c) (omega (arith, length-drop (record_at c i + 2) c, record_fits c s i h))

record_back : (c : List ℕ) → Bytes c → Shaped c → (i : ℕ) → i < blocks_of c
    → record_of (actions_of c) (block_step c i).block ≡ take (2 + actions_of c) (drop (i * (2 + actions_of c)) (drop 7 c))
unfolding record_of block_step block_at record_at
record_back c B s i h =
    ap (λ (x : List ℕ). x ++ take (actions_of c) (targets_of c i)) (label_bytes_lem c B s i h)
    ∙ ap (λ (x : List ℕ). take 2 (drop (record_at c i) c) ++ x) (target_bytes c s i h ∙ ap (take (actions_of c)) (sym (drop-drop 2 (record_at c i) c)))
    ∙ sym (take-add 2 (actions_of c) (drop (record_at c i) c))
    ∙ ap (take (2 + actions_of c)) (sym (drop-drop (i * (2 + actions_of c)) 7 c))

-- Reading all blocks and writing them again under the same header gives the chart's bytes back.
pub round_trip : (c : List ℕ) → Bytes c → chart_check c ≡ Ok tt → rewritten c ≡ c
unfolding rewritten record_at
round_trip c B e =
    ap (λ (x : List ℕ). take 7 c ++ x)
    (collect_ext (λ k. record_of (actions_of c) (handed_out c k).block) (λ k. take w (drop (k * w) (drop 7 c))) (blocks_of c)
    (λ k h. ap (λ (s : Step). record_of (actions_of c) s.block) ((in_order c e).blocks k h) ∙ record_back c B s k h)
    ∙ collect_pieces w (drop 7 c) (blocks_of c))
    ∙ sym (take-add 7 (blocks_of c * w) c)
    ∙ take_all (7 + blocks_of c * w) c (omega (arith, s.length_right))
  where
    s : Shaped c
    s = (header_passed c (header_fine c e)).1

    w : ℕ
    w = 2 + actions_of c
