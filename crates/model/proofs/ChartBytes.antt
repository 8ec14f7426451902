-- The fields of a sheet's chart, read back from its bytes, and that the fields determine the bytes.
use Rattle.std.specs.Prelude.{◌≡◌, refl, ◌↔◌, List, [], ◌∷◌, ◌++◌, ℕ, zero, suc, ◌+◌, ◌*◌, ◌-◌, ◌/◌, ◌%◌, ◌≤◌, ◌<◌, length, get_or, take, drop, Option, Some, None}
use Rattle.std.proofs.Common.{sym, ap, subst, ◌∙◌, append_assoc, append-nil, mul-le-mul_right, mod-lt, div-add-mod', lt_of_mul-lt-mul_right, arith, length-append, length-drop, get_or-append-add, get_or-take, get_or-drop, ext_get_or}
use Rattle.std.proofs.Math.Decide.{dec_lt}
use Rattle.std.proofs.Math.ListN.{get_or-append}
use Rattle.std.proofs.Math.Seq.{drop-append-add}
use Rattle.integers.specs.LittleEndian.{split, joined, unsigned_at, Bytes}
use Rattle.integers.proofs.LittleEndian.{bytes_none, bytes_more, bytes_append, length_split, split_bytes, joined_split, split_joined}
use Rattle.systems.specs.Lists.{collect, Wide}
use Rattle.systems.proofs.Lists.{length_collect, drop_collect, length_each, get_d_each}
use Rattle.exploration.proofs.Places.{place_le}
use Rattle.model.specs.Sheet.{Configuration, Region, Sheet, nowhere, region_of, region_number, step, Each, each_more, RegionFits, WellFormed}
use Rattle.model.specs.Blocks.{same_class, blocks, block_at, target_byte, chart_record, chart_mark, chart_of}
use Rattle.model.specs.Chart.{actions_of, blocks_of, record_at, label_of, target_of}
use Rattle.model.specs.ChartBytes.{Shaped, SameFields, SameEntries}

pub label_lt : {V# A# : ℕ} (l : List Region) (i : ℕ) → Each (RegionFits V# A#) l → (get_or l i nowhere).label < 65535
label_lt [] i e = omega arith
label_lt (r ∷ l) zero (each_more f e) = f.label_fits
label_lt (r ∷ l) (suc i) (each_more f e) = label_lt l i e

bytes_collect : (f : ℕ → List ℕ) (n : ℕ) → ((i : ℕ) → i < n → Bytes (f i)) → Bytes (collect f n)
unfolding collect
bytes_collect f zero b = bytes_none
bytes_collect f (suc n) b = bytes_append (collect f n) (f n) (bytes_collect f n (λ i h. b i (omega arith))) (b n (omega arith))

-- mark and counts, and the records
head_of : Sheet → List ℕ
head_of s = chart_mark ++ (s.actions ∷ length (blocks s) ∷ [])

chart_of_parts : (s : Sheet) → chart_of s ≡ head_of s ++ collect (chart_record s) (length (blocks s))
unfolding chart_of head_of
chart_of_parts s = refl

pub chart_of_mark : (s : Sheet) → take 5 (chart_of s) ≡ chart_mark
unfolding chart_of
chart_of_mark s = refl

pub chart_of_actions : (s : Sheet) → actions_of (chart_of s) ≡ s.actions
unfolding chart_of
chart_of_actions s = refl

pub chart_of_blocks : (s : Sheet) → blocks_of (chart_of s) ≡ length (blocks s)
unfolding chart_of
chart_of_blocks s = refl

record_length : (s : Sheet) (i : ℕ) → length (chart_record s i) ≡ 2 + s.actions
unfolding chart_record
record_length s i =
    omega (
      arith,
      length-append (split 2 (region_of s (block_at s i)).label) (collect (λ a. target_byte s (step s a (block_at s i)) ∷ []) s.actions),
      length_split 2 (region_of s (block_at s i)).label,
      length_each (λ a. target_byte s (step s a (block_at s i))) s.actions,
    )

records_wide : (s : Sheet) → Wide (2 + s.actions) (chart_record s) (length (blocks s))
records_wide s i h = record_length s i

pub chart_of_length : (s : Sheet) → length (chart_of s) ≡ record_at (chart_of s) (length (blocks s))
unfolding record_at chart_of
chart_of_length s = omega (arith, length_collect (2 + s.actions) (chart_record s) (length (blocks s)) (records_wide s))

-- what follows record i
after : Sheet → ℕ → List ℕ
after s i = drop (suc i * (2 + s.actions)) (collect (chart_record s) (length (blocks s)) ++ [])

drop_record : (s : Sheet) (i : ℕ) → i < length (blocks s) → drop (record_at (chart_of s) i) (chart_of s) ≡ chart_record s i ++ after s i
unfolding record_at chart_of head_of after
drop_record s i h =
    drop-append-add (head_of s) (collect (chart_record s) (length (blocks s))) (i * (2 + s.actions))
    ∙ ap (drop (i * (2 + s.actions))) (sym (append-nil (collect (chart_record s) (length (blocks s)))))
    ∙ drop_collect (2 + s.actions) (chart_record s) (length (blocks s)) [] (records_wide s) i h

-- the targets of block i
targets_of : Sheet → ℕ → List ℕ
targets_of s i = collect (λ a. target_byte s (step s a (block_at s i)) ∷ []) s.actions

pub chart_of_label : (s : Sheet) → WellFormed s → (i : ℕ) → i < length (blocks s) → label_of (chart_of s) i ≡ (region_of s (block_at s i)).label
unfolding label_of unsigned_at chart_record targets_of region_of
chart_of_label s w i h =
    ap (joined 2) (drop_record s i h ∙ append_assoc (split 2 (region_of s (block_at s i)).label) (targets_of s i) (after s i))
    ∙ joined_split 2 (region_of s (block_at s i)).label (targets_of s i ++ after s i) (omega (arith, label_lt s.regions (region_number s (block_at s i)) w.regions_fit))

pub chart_of_target : (s : Sheet) (i a : ℕ) → i < length (blocks s) → a < s.actions → target_of (chart_of s) i a ≡ target_byte s (step s a (block_at s i))
unfolding target_of chart_record targets_of
chart_of_target s i a h b =
    let r = record_at (chart_of s) i in
    let e : r + 2 + a ≡ r + (2 + a) = omega arith in
    let l = record_length s i in
    ap (λ (k : ℕ). get_or (chart_of s) k 0) e
    ∙ sym (get_or-drop r (chart_of s) (2 + a) 0)
    ∙ ap (λ z. get_or z (2 + a) 0) (drop_record s i h)
    ∙ get_or-append (chart_record s i) (after s i) 0 (2 + a) (omega arith)
    ∙ sym (ap (λ (k : ℕ). get_or (chart_record s i) (k + a) 0) (length_split 2 (region_of s (block_at s i)).label))
    ∙ get_or-append-add (split 2 (region_of s (block_at s i)).label) (targets_of s i) a 0
    ∙ get_d_each (λ a. target_byte s (step s a (block_at s i))) s.actions 0 a b

target_lt : (s : Sheet) → length (blocks s) ≤ 255 → (o : Option Configuration) → target_byte s o < 256
unfolding target_byte
target_lt s few None = omega arith
target_lt s few (Some y) = omega (arith, place_le (same_class s) (blocks s) y)

-- the chart's bytes are bytes
pub chart_of_bytes : (s : Sheet) → WellFormed s → length (blocks s) ≤ 255 → Bytes (chart_of s)
unfolding chart_of chart_record
chart_of_bytes s w few =
    bytes_append chart_mark (s.actions ∷ length (blocks s) ∷ collect (chart_record s) (length (blocks s))) mark
    (bytes_more s.actions (length (blocks s) ∷ collect (chart_record s) (length (blocks s))) (omega (arith, w.actions_few))
    (bytes_more (length (blocks s)) (collect (chart_record s) (length (blocks s))) (omega arith)
    (bytes_collect (chart_record s) (length (blocks s)) one)))
  where
    mark : Bytes chart_mark
    mark =
        bytes_more 66 (67 ∷ 72 ∷ 1 ∷ 0 ∷ []) (omega arith)
        (bytes_more 67 (72 ∷ 1 ∷ 0 ∷ []) (omega arith)
        (bytes_more 72 (1 ∷ 0 ∷ []) (omega arith) (bytes_more 1 (0 ∷ []) (omega arith) (bytes_more 0 [] (omega arith) bytes_none))))

    one : (i : ℕ) → i < length (blocks s) → Bytes (chart_record s i)
    one i h =
        bytes_append (split 2 (region_of s (block_at s i)).label) (collect (λ a. target_byte s (step s a (block_at s i)) ∷ []) s.actions)
        (split_bytes 2 (region_of s (block_at s i)).label)
        (bytes_collect (λ a. target_byte s (step s a (block_at s i)) ∷ []) s.actions
        (λ a b. bytes_more (target_byte s (step s a (block_at s i))) [] (target_lt s few (step s a (block_at s i))) bytes_none))

-- the two bytes of a label
label_bytes_lem : (c : List ℕ) → Shaped c → (i r : ℕ) → i < blocks_of c → r < 2 → get_or c (record_at c i + r) 0 ≡ get_or (split 2 (label_of c i)) r 0
unfolding label_of unsigned_at record_at
label_bytes_lem c p i r h b =
    sym (get_or-drop (record_at c i) c r 0)
    ∙ sym (get_or-take 2 (drop (record_at c i) c) r 0 b)
    ∙ sym (ap (λ z. get_or z r 0) (split_joined 2 (drop (record_at c i) c) (λ k. subst (λ (z : ℕ). z < 256) (sym (get_or-drop (record_at c i) c k 0)) (p.bytes (record_at c i + k))) room))
  where
    room : 2 ≤ length (drop (record_at c i) c)
    room = omega (arith, length-drop (record_at c i) c, p.length_right, mul-le-mul_right (2 + actions_of c) h)

-- Charts with the same fields are the same bytes.
pub same_fields : (c d : List ℕ) → Shaped c → Shaped d → SameFields c d → c ≡ d
unfolding record_at target_of
same_fields c d p q f = ext_get_or 0 c d same_length (λ j h. low j h (dec_lt j 5))
  where
    same_record : (i : ℕ) → record_at c i ≡ record_at d i
    same_record i = ap (λ (z : ℕ). 7 + i * (2 + z)) f.actions

    same_length : length c ≡ length d
    same_length = p.length_right ∙ same_record (blocks_of c) ∙ ap (record_at d) f.blocks ∙ sym q.length_right

    in_record : (i r : ℕ) → i < blocks_of c → r < 2 + actions_of c → Dec (r < 2) → get_or c (record_at c i + r) 0 ≡ get_or d (record_at c i + r) 0
    in_record i r h b (yes l) =
        label_bytes_lem c p i r h l
        ∙ ap (λ (z : ℕ). get_or (split 2 z) r 0) (f.labels i h)
        ∙ sym (label_bytes_lem d q i r (subst (λ (z : ℕ). i < z) f.blocks h) l)
        ∙ ap (λ (z : ℕ). get_or d (z + r) 0) (sym (same_record i))
    in_record i r h b (no l) =
        let e : record_at c i + r ≡ record_at c i + 2 + (r - 2) = omega arith in
        ap (λ (z : ℕ). get_or c z 0) e
        ∙ f.targets i (r - 2) h (omega arith)
        ∙ ap (λ (z : ℕ). get_or d (z + 2 + (r - 2)) 0) (sym (same_record i))
        ∙ ap (λ (z : ℕ). get_or d z 0) (sym e)

    high : (j : ℕ) → j < length c → 7 ≤ j → get_or c j 0 ≡ get_or d j 0
    high j h l =
        let w = 2 + actions_of c in
        let i = (j - 7) / w in
        let r = (j - 7) % w in
        let e = div-add-mod' (j - 7) w in
        let e' : j ≡ record_at c i + r = omega arith in
        let n = p.length_right in
        let b = lt_of_mul-lt-mul_right w {m = i} {n = blocks_of c} (omega arith) in
        subst (λ (z : ℕ). get_or c z 0 ≡ get_or d z 0) (sym e') (in_record i r b (mod-lt (j - 7) (omega arith)) (dec_lt r 2))

    low : (j : ℕ) → j < length c → Dec (j < 5) → get_or c j 0 ≡ get_or d j 0
    low j h (yes l) =
        let a = get_or-take 5 c j 0 l in
        let b = get_or-take 5 d j 0 l in
        let m = p.mark in
        let n = q.mark in
        cc
    low j h (no l) = go (dec_lt j 6) (dec_lt j 7)
      where
        go : Dec (j < 6) → Dec (j < 7) → get_or c j 0 ≡ get_or d j 0
        go (yes m) n = subst (λ (z : ℕ). get_or c z 0 ≡ get_or d z 0) (omega arith) f.actions
        go (no m) (yes n) = subst (λ (z : ℕ). get_or c z 0 ≡ get_or d z 0) (omega arith) f.blocks
        go (no m) (no n) = high j h (omega arith)

pub fields_of_bytes : (c d : List ℕ) → c ≡ d → SameFields c d
fields_of_bytes c d e =
    record {
      actions = ap actions_of e;
      blocks = ap blocks_of e;
      labels = λ i h. ap (λ z. label_of z i) e;
      targets = λ i a h b. ap (λ z. target_of z i a) e;
    }

-- A sheet's chart has the chart's shape.
pub chart_of_shaped : (s : Sheet) → WellFormed s → length (blocks s) ≤ 255 → Shaped (chart_of s)
chart_of_shaped s w few =
    record {
      mark = chart_of_mark s;
      length_right = chart_of_length s ∙ ap (record_at (chart_of s)) (sym (chart_of_blocks s));
      bytes = chart_of_bytes s w few;
    }

-- That is so exactly where the charts are the same bytes.
pub same_entries : (s t : Sheet) → WellFormed s → WellFormed t → length (blocks s) ≤ 255 → length (blocks t) ≤ 255 → (chart_of s ≡ chart_of t) ↔ SameEntries s t
same_entries s t w v few few' = (to, from)
  where
    to : chart_of s ≡ chart_of t → SameEntries s t
    to e =
        let f = fields_of_bytes (chart_of s) (chart_of t) e in
        let n : length (blocks s) ≡ length (blocks t) = sym (chart_of_blocks s) ∙ f.blocks ∙ chart_of_blocks t in
        let m : s.actions ≡ t.actions = sym (chart_of_actions s) ∙ f.actions ∙ chart_of_actions t in
        record {
          actions = m;
          count = n;
          labels =
              λ i h.
              sym (chart_of_label s w i h)
              ∙ f.labels i (subst (λ (z : ℕ). i < z) (sym (chart_of_blocks s)) h)
              ∙ chart_of_label t v i (subst (λ (z : ℕ). i < z) n h);
          targets =
              λ i a h b.
              sym (chart_of_target s i a h b)
              ∙ f.targets i a (subst (λ (z : ℕ). i < z) (sym (chart_of_blocks s)) h) (subst (λ (z : ℕ). a < z) (sym (chart_of_actions s)) b)
              ∙ chart_of_target t i a (subst (λ (z : ℕ). i < z) n h) (subst (λ (z : ℕ). a < z) m b);
        }

    from : SameEntries s t → chart_of s ≡ chart_of t
    from e =
        let n = e.count in
        let m = e.actions in
        same_fields (chart_of s) (chart_of t) (chart_of_shaped s w few) (chart_of_shaped t v few')
        (record {
          actions = chart_of_actions s ∙ m ∙ sym (chart_of_actions t);
          blocks = chart_of_blocks s ∙ n ∙ sym (chart_of_blocks t);
          labels =
              λ i h.
              let h' = subst (λ (z : ℕ). i < z) (chart_of_blocks s) h in
              chart_of_label s w i h' ∙ e.labels i h' ∙ sym (chart_of_label t v i (subst (λ (z : ℕ). i < z) n h'));
          targets =
              λ i a h b.
              let h' = subst (λ (z : ℕ). i < z) (chart_of_blocks s) h in
              let b' = subst (λ (z : ℕ). a < z) (chart_of_actions s) b in
              chart_of_target s i a h' b'
              ∙ e.targets i a h' b'
              ∙ sym (chart_of_target t i a (subst (λ (z : ℕ). i < z) n h') (subst (λ (z : ℕ). a < z) m b'));
        })
