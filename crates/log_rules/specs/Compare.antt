-- Two logs of the same run (document 02, U11): the first index where they differ, and what is left of the longer. Definitions only. A log is a
-- list of labels.
use Rattle.std.specs.Prelude.{◌≡◌, Bool, true, false, not, List, [], ◌∷◌, ◌++◌, ℕ, ◌+◌, ◌*◌, ◌≤◌, ◌<◌, min, eqb, ltb, length, get_or, drop}
use Rattle.std.specs.Borrow.{Bor}
use Rattle.systems.specs.Lists.{collect}

-- how many indices both logs have: the length of the shorter
abbrev pub shorter : List ℕ → List ℕ → ℕ
shorter a b = min (length a) (length b)

-- whether they differ at an index that both have
abbrev pub differ : List ℕ → List ℕ → ℕ → Bool
differ a b i = not (eqb (get_or a i 0) (get_or b i 0))

-- every number below n that passes a test, in order
unfoldable pub listed : (ℕ → Bool) → ℕ → List ℕ
listed p = collect (λ i. elim (p i) [ true ↦ i ∷ [] | false ↦ [] ])

-- Both compared in full: every index where they differ.
abbrev pub differences : List ℕ → List ℕ → List ℕ
differences a b = listed (differ a b) (shorter a b)

-- The first of them; where no index differs, the length of the shorter.
unfoldable pub first_difference : List ℕ → List ℕ → ℕ
first_difference a b = get_or (differences a b) 0 (shorter a b)

-- a part of one of two logs that goes to its end (a suffix): of which log it is, and the index where it starts
pub data Tail : Type 0 where
  of_first : ℕ → Tail
  of_second : ℕ → Tail

-- the rest of the longer log, behind as many entries as the shorter has; of the first where they are of one length
unfoldable pub left : List ℕ → List ℕ → Tail
left a b = elim (ltb (length a) (length b)) [ true ↦ of_second (length a) | false ↦ of_first (length b) ]

-- The rest: where no index differs, one log is the beginning (a prefix) of the other, and it is the rest of the longer. Logs that differ give
-- the empty rest of the first.
unfoldable pub rest_of : List ℕ → List ℕ → Tail
rest_of a b = elim (differences a b) [ [] ↦ left a b | i ∷ more ↦ of_first (length a) ]

-- what a part holds
unfoldable pub held : Tail → List ℕ → List ℕ → List ℕ
held (of_first i) a b = drop i a
held (of_second i) a b = drop i b

-- it starts in that log, or just behind its last entry
unfoldable pub Inside : Tail → List ℕ → List ℕ → Type 0
Inside (of_first i) a b = i ≤ length a
Inside (of_second i) a b = i ≤ length b

-- a slice as its holder sees it: where its first entry lies, as a block of memory and a byte in that block, and what it holds
pub record Lent : Type 0 where
  pub place : ℕ × ℕ
  pub entries : List ℕ

abbrev pub lent : Bor (List ℕ) → Lent
lent r = record { place = r.ref_ptr; entries = r.now }

-- the part of a lent log from an index on, in that log's own memory: an entry takes two bytes
abbrev pub lent_from : Bor (List ℕ) → ℕ → Lent
lent_from r i = record { place = (r.ref_ptr.0, r.ref_ptr.1 + i * 2); entries = drop i r.now }

-- a part of one of two lent logs
unfoldable pub part_of : Tail → Bor (List ℕ) → Bor (List ℕ) → Lent
part_of (of_first i) first second = lent_from first i
part_of (of_second i) first second = lent_from second i

-- What the first difference of two logs is: an index with all before it in both, where they agree, and where they differ if both have it too.
pub record IsFirst (a b : List ℕ) (i : ℕ) : Type 0 where
  pub within : i ≤ shorter a b
  pub agree : (k : ℕ) → k < i → get_or a k 0 ≡ get_or b k 0
  pub apart : i < shorter a b → get_or a i 0 ≡ get_or b i 0 → ⊥

-- a log is the beginning of another: the other is that log and something more, or nothing more
abbrev pub Beginning : List ℕ → List ℕ → Type 0
Beginning a b = (c : List ℕ) × (b ≡ a ++ c)

-- Two pairs of logs give the same index and rests that hold the same; where the first logs are of one length, the same part as the rest.
pub record SameAnswers (a b c d : List ℕ) : Type 0 where
  pub index : first_difference c d ≡ first_difference a b
  pub rest : length c ≡ length a → rest_of c d ≡ rest_of a b
  pub holds : held (rest_of c d) c d ≡ held (rest_of a b) a b
