-- The bytes of the chart as the arrays give them, and that they are those of the table's chart.
use Rattle.std.specs.Prelude.{◌≡◌, refl, List, [], ◌∷◌, ◌++◌, ℕ, ◌+◌, ◌*◌, ◌/◌, ◌%◌, ◌≤◌, ◌<◌, length, get_or, drop}
use Rattle.std.proofs.Common.{sym, ap, ◌∙◌, add-zero, mod-eq_of_lt, arith, length-append, get_or-drop}
use Rattle.integers.specs.LittleEndian.{Bytes, split, joined, unsigned_at}
use Rattle.integers.proofs.LittleEndian.{length_split}
use Rattle.systems.specs.Lists.{collect}
use Rattle.systems.proofs.Lists.{length_collect, length_each}
use Rattle.answer_rules.specs.Run.{overwrite}
use Rattle.model.specs.Blocks.{chart_mark}
use Rattle.sheet_rules.specs.Layout.{region_place, label_at}
use Rattle.table_rules.specs.Arrays.{region_in, target_in}
use Rattle.writing.specs.Numbers.{entry_in}
use Rattle.writing.specs.Stored.{stored, stored_behind, stored_front}

-- mark, version, number of actions, number of blocks
unfoldable pub header_bytes : ℕ → ℕ → List ℕ
header_bytes actions n = chart_mark ++ (actions ∷ n ∷ [])

-- the numbers of row i's targets
abbrev pub target_byte : List ℕ → List ℕ → ℕ → ℕ → List ℕ
target_byte t number i a = entry_in number (target_in t i a) ∷ []

unfoldable pub target_bytes : List ℕ → List ℕ → ℕ → ℕ → List ℕ
target_bytes t number i actions = collect (target_byte t number i) actions

-- the record of row i
unfoldable pub record_bytes : List ℕ → List ℕ → List ℕ → List ℕ → ℕ → ℕ → List ℕ
record_bytes s h t number actions i = split 2 (label_at s (region_in h i)) ++ target_bytes t number i actions

-- the record of the row that has number k
abbrev pub ordered_bytes : List ℕ → List ℕ → List ℕ → List ℕ → List ℕ → ℕ → ℕ → List ℕ
ordered_bytes s h t order number actions k = record_bytes s h t number actions (entry_in order k)

-- the records of n rows in their order
unfoldable pub records_bytes : List ℕ → List ℕ → List ℕ → List ℕ → List ℕ → ℕ → ℕ → List ℕ
records_bytes s h t order number actions n = collect (ordered_bytes s h t order number actions) n

-- the chart
unfoldable pub chart_bytes : List ℕ → List ℕ → List ℕ → List ℕ → List ℕ → ℕ → ℕ → List ℕ
chart_bytes s h t order number actions n = header_bytes actions n ++ records_bytes s h t order number actions n

-- the first n rows of the order are rows, and their homes are regions
abbrev pub Placed : List ℕ → List ℕ → ℕ → ℕ → Type 0
Placed h order regions n = (k : ℕ) → k < n → (entry_in order k < 255) × (region_in h (entry_in order k) < regions)

pub targets_length : (t number : List ℕ) (i actions : ℕ) → length (target_bytes t number i actions) ≡ actions
unfolding target_bytes
targets_length t number i actions = length_each (λ a. entry_in number (target_in t i a)) actions

pub record_length : (s h t number : List ℕ) (actions i : ℕ) → length (record_bytes s h t number actions i) ≡ 2 + actions
unfolding record_bytes
record_length s h t number actions i =
    omega (arith, length-append (split 2 (label_at s (region_in h i))) (target_bytes t number i actions), length_split 2 (label_at s (region_in h i)), targets_length t number i actions)

pub records_length : (s h t order number : List ℕ) (actions k : ℕ) → length (collect (ordered_bytes s h t order number actions) k) ≡ k * (2 + actions)
records_length s h t order number actions k =
    length_collect (2 + actions) (ordered_bytes s h t order number actions) k (λ i l. record_length s h t number actions (entry_in order i))

-- two bytes that stand in a list are those of the number that they give
two_bytes : (x y : ℕ) → x < 256 → y < 256 → split 2 (x + 256 * (y + 256 * 0)) ≡ x ∷ y ∷ []
unfolding split
two_bytes x y h k =
    let a : (x + 256 * (y + 256 * 0)) % 256 ≡ x = omega arith in
    let q : (x + 256 * (y + 256 * 0)) / 256 ≡ y = omega arith in
    let b = ap (λ (k : ℕ). k % 256) q ∙ mod-eq_of_lt k in
    λ i. a i ∷ b i ∷ []

pub label_bytes_lem : (s : List ℕ) (r p : ℕ) → Bytes s → p ≡ region_place s r → get_or s p 0 ∷ get_or s (p + 1) 0 ∷ [] ≡ split 2 (label_at s r)
unfolding label_at unsigned_at joined
label_bytes_lem s r p B e =
    let x : get_or (drop p s) 0 0 ≡ get_or s p 0 = get_or-drop p s 0 0 ∙ ap (λ (k : ℕ). get_or s k 0) (add-zero p) in
    let y : get_or (drop 1 (drop p s)) 0 0 ≡ get_or s (p + 1) 0 = get_or-drop 1 (drop p s) 0 0 ∙ get_or-drop p s 1 0 in
    sym (two_bytes (get_or s p 0) (get_or s (p + 1) 0) (B p) (B (p + 1)))
    ∙ ap (split 2) (sym (λ i. x i + 256 * (y i + 256 * 0)))
    ∙ ap (λ (k : ℕ). split 2 (joined 2 (drop k s))) e

-- a record is stored
pub record_stored : (s h t number d e f : List ℕ) (actions i at p : ℕ) → Bytes s → p ≡ region_place s (region_in h i)
    → e ≡ stored d at (get_or s p 0 ∷ get_or s (p + 1) 0 ∷ []) → f ≡ stored e (at + 2) (target_bytes t number i actions)
    → f ≡ stored d at (record_bytes s h t number actions i)
unfolding record_bytes
record_stored s h t number d e f actions i at p B q x y =
    let l = label_bytes_lem s (region_in h i) p B q in
    stored_behind (split 2 (label_at s (region_in h i))) (target_bytes t number i actions) d e f at (at + 2) (x ∙ ap (stored d at) l) y (omega (arith, length_split 2 (label_at s (region_in h i))))

-- and so is the chart
pub chart_stored : (s h t order number d e f : List ℕ) (actions n : ℕ) → 7 + n * (2 + actions) ≤ length d
    → e ≡ stored d 0 (header_bytes actions n) → f ≡ stored e 7 (records_bytes s h t order number actions n)
    → f ≡ overwrite (chart_bytes s h t order number actions n) d
unfolding chart_bytes header_bytes records_bytes
chart_stored s h t order number d e f actions n r x y =
    stored_behind (header_bytes actions n) (records_bytes s h t order number actions n) d e f 0 7 x y refl
    ∙ stored_front (chart_bytes s h t order number actions n) d
    (omega (arith, length-append (header_bytes actions n) (records_bytes s h t order number actions n), records_length s h t order number actions n))
