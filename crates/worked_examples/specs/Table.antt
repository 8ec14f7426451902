-- The worked examples of document 01, and some of document 02 (ways of U1, evidence of U2, version 2 of U4, depths of U6, counts of U13), computed on the
-- definitions: a row for each, one test over the table, one proof.
use Rattle.std.specs.Prelude.{Bool, true, false, ◌&&◌, List, [], ◌∷◌, ℕ, suc, eqb, set, ℤ, pos, negsuc, Option, Some, None, Ok, Err}
use Rattle.std.specs.Int.Signed.{le_z}
use Rattle.integers.specs.declared.Range.{Range}
use Rattle.integers.specs.Inverse.{inverse}
use Rattle.systems.specs.System.{same_numbers, same_index}
use Rattle.model.specs.declared.Rule.TheVariants.{Carry}
use Rattle.model.specs.Sheet.{Move, Barred, Open, Region, Sheet, sheet_reading}
use Rattle.model.specs.Blocks.{blocks, chart_of, box_list_of}
use Rattle.model.specs.ChartDepth.{depth_of, depth_limit}
use Rattle.sheet_rules.specs.Decode.{decode}
use Rattle.congruence_rules.specs.Congruence.{counts_left}
use Rattle.access_rules.specs.Access.{way_to}
use Rattle.separation_rules.specs.Separation.{evidence}
use Rattle.sheet_rules.specs.Check.{sheet_check}
use Rattle.answer_rules.specs.Refusal.{Checked, number_of}

-- one example: what is computed, and what document 01 says it is
pub data Row : Type 0 where
  -- the inverse of factor and offset into a range
  inverse_row : ℤ → ℤ → Range → Range → Row
  -- a sheet's chart
  chart_row : Sheet → List ℕ → Row
  -- a sheet's bytes, accepted, and its chart
  accepted_row : List ℕ → List ℕ → Row
  -- bytes that are refused, with a number and a place
  refused_row : List ℕ → ℕ → ℕ → Row
  -- a sheet's box list, with so many bytes a bound
  boxes_row : ℕ → Sheet → List ℕ → Row
  -- an action sequence's entries and the index of its first barred action
  reading_row : Sheet → List ℕ → List ℕ → Option ℕ → Row
  -- a chart's settling depth, and the greatest that its blocks and labels allow
  depth_row : List ℕ → ℕ → ℕ → Row
  -- a sheet, a block of its chart, and the way to it
  way_row : Sheet → ℕ → List ℕ → Row
  -- two charts, and the sequence that parts them, or none where they are equal in behaviour
  part_row : List ℕ → List ℕ → Option (List ℕ) → Row
  -- a counter that goes round: modulus, start, wanted value and increments, and the eight counts, or no list where they are left as they were
  counts_row : ℕ → ℕ → ℕ → List ℕ → List ℕ → Row

unfoldable pub same_z : ℤ → ℤ → Bool
same_z a b = le_z a b && le_z b a

unfoldable pub same_word : Option (List ℕ) → Option (List ℕ) → Bool
same_word None None = true
same_word None (Some w) = false
same_word (Some v) None = false
same_word (Some v) (Some w) = same_numbers v w

-- a check passed
unfoldable pub accepts : Checked → Bool
accepts (Ok _) = true
accepts (Err why) = false

-- it refused by a number and a place
unfoldable pub refuses : Checked → ℕ → ℕ → Bool
refuses (Ok _) n p = false
refuses (Err why) n p = eqb (number_of why.reason) n && eqb why.returned p

unfoldable pub test : Row → Bool
test (inverse_row f b r q) = same_z (inverse f b r).low q.low && same_z (inverse f b r).high q.high
test (chart_row s l) = same_numbers (chart_of s) l
test (accepted_row s l) = accepts (sheet_check s) && same_numbers (chart_of (decode s)) l
test (refused_row s n p) = refuses (sheet_check s) n p
test (boxes_row n s l) = same_numbers (box_list_of n s) l
test (reading_row s w l b) = same_numbers (sheet_reading s w).entries l && same_index (sheet_reading s w).barred b
test (depth_row c d n) = eqb (depth_of c) d && eqb (depth_limit c) n
test (way_row s k w) = same_numbers (way_to s k) w
test (part_row c d o) = same_word (evidence c d) o
test (counts_row m s w xs l) = same_numbers (counts_left m s w xs []) l

-- every row passes
unfoldable pub passes : List Row → Bool
passes [] = true
passes (r ∷ l) = test r && passes l

-- a chart by its number of actions, its number of blocks and its records
unfoldable pub chart : ℕ → ℕ → List ℕ → List ℕ
chart actions blocks records = 66 ∷ 67 ∷ 72 ∷ 1 ∷ 0 ∷ actions ∷ blocks ∷ records

-- sheets of one counter, one action and one state: each region has a label, bounds and a move
unfoldable pub region : ℕ → ℤ → ℤ → Move → Region
region label low high move = record { label = label; box = record { state = 0; ranges = (record { low = low; high = high }) ∷ [] }; moves = move ∷ [] }

-- the same with a move for each of two actions
unfoldable pub two_moves : ℕ → ℤ → ℤ → Move → Move → Region
two_moves label low high move other = record { label = label; box = (region label low high move).box; moves = move ∷ other ∷ [] }

unfoldable pub carry : ℤ → ℤ → Move
carry factor offset = Open 0 (Carry 0 factor offset ∷ [])

unfoldable pub sheet : List Region → ℤ → Sheet
sheet regions start = record { counters = 1; actions = 1; regions = regions; start = record { state = 0; values = start ∷ [] } }

-- the sheet of 43 bytes
unfoldable pub first : Sheet
first = sheet (region 10 (pos 0) (pos 7) (carry (pos 2) (pos 1)) ∷ region 20 (pos 8) (pos 15) Barred ∷ []) (pos 2)

-- its bytes
unfoldable pub bytes : List ℕ
bytes =
    77 ∷ 83 ∷ 72 ∷ 1 ∷ 0 ∷ 1 ∷ 1 ∷ 2 ∷ 0 ∷ 2 ∷ 0
    ∷ 10 ∷ 0 ∷ 0 ∷ 0 ∷ 0 ∷ 7 ∷ 0 ∷ 1 ∷ 0 ∷ 1 ∷ 0 ∷ 2 ∷ 1 ∷ 0 ∷ 0 ∷ 0
    ∷ 20 ∷ 0 ∷ 0 ∷ 8 ∷ 0 ∷ 15 ∷ 0 ∷ 0 ∷ 0 ∷ 0 ∷ 0 ∷ 0 ∷ 0 ∷ 0 ∷ 0 ∷ 0
    ∷ []

-- the same as version 2
unfoldable pub wide_bytes : List ℕ
wide_bytes =
    77 ∷ 83 ∷ 72 ∷ 2 ∷ 0 ∷ 1 ∷ 1 ∷ 2 ∷ 0 ∷ 2 ∷ 0 ∷ 0 ∷ 0
    ∷ 10 ∷ 0 ∷ 0 ∷ 0 ∷ 0 ∷ 0 ∷ 0 ∷ 7 ∷ 0 ∷ 0 ∷ 0 ∷ 1 ∷ 0 ∷ 1 ∷ 0 ∷ 2 ∷ 1 ∷ 0 ∷ 0 ∷ 0
    ∷ 20 ∷ 0 ∷ 0 ∷ 8 ∷ 0 ∷ 0 ∷ 0 ∷ 15 ∷ 0 ∷ 0 ∷ 0 ∷ 0 ∷ 0 ∷ 0 ∷ 0 ∷ 0 ∷ 0 ∷ 0 ∷ 0 ∷ 0
    ∷ []

-- bytes with others from a place on
unfoldable pub changed : List ℕ → ℕ → List ℕ → List ℕ
changed s at [] = s
changed s at (b ∷ l) = changed (set s at b) (suc at) l

-- factor -1, offset -1 on one region -8..7
unfoldable pub mirror : Sheet
mirror = sheet (region 10 (negsuc 7) (pos 7) (carry (negsuc 0) (negsuc 0)) ∷ []) (pos 2)

-- 0..1000 by factor 2; 1001..2000 barred; start 0
unfoldable pub doubling : Sheet
doubling = sheet (region 10 (pos 0) (pos 1000) (carry (pos 2) (pos 0)) ∷ region 20 (pos 1001) (pos 2000) Barred ∷ []) (pos 0)

-- a counter from 0 to 3, to which the first action adds 1 and the second 2, where that is not too much
unfoldable pub steps : Sheet
steps =
    record {
      counters = 1;
      actions = 2;
      regions = two_moves 10 (pos 0) (pos 1) (carry (pos 1) (pos 1)) (carry (pos 1) (pos 2))
          ∷ two_moves 20 (pos 2) (pos 2) (carry (pos 1) (pos 1)) Barred
          ∷ two_moves 30 (pos 3) (pos 3) Barred Barred
          ∷ [];
      start = record { state = 0; values = pos 0 ∷ [] };
    }

unfoldable pub range : ℤ → ℤ → Range
range low high = record { low = low; high = high }

unfoldable pub table : List Row
table =
    -- P1
    chart_row first (66 ∷ 67 ∷ 72 ∷ 1 ∷ 0 ∷ 1 ∷ 3 ∷ 10 ∷ 0 ∷ 1 ∷ 10 ∷ 0 ∷ 2 ∷ 20 ∷ 0 ∷ 255 ∷ [])
    ∷ accepted_row bytes (66 ∷ 67 ∷ 72 ∷ 1 ∷ 0 ∷ 1 ∷ 3 ∷ 10 ∷ 0 ∷ 1 ∷ 10 ∷ 0 ∷ 2 ∷ 20 ∷ 0 ∷ 255 ∷ [])
    ∷ boxes_row 2 first (0 ∷ 2 ∷ 0 ∷ 3 ∷ 0 ∷ 0 ∷ 4 ∷ 0 ∷ 7 ∷ 0 ∷ 0 ∷ 8 ∷ 0 ∷ 15 ∷ 0 ∷ [])
    -- P2: offset 2 in place of 1
    ∷ refused_row (set bytes 23 2) 8 18
    -- P3: the second region's low 7
    ∷ refused_row (set bytes 30 7) 6 27
    -- P4: start 16
    ∷ refused_row (set bytes 9 16) 7 8
    -- P5
    ∷ chart_row mirror (66 ∷ 67 ∷ 72 ∷ 1 ∷ 0 ∷ 1 ∷ 1 ∷ 10 ∷ 0 ∷ 0 ∷ [])
    ∷ boxes_row 2 mirror (0 ∷ 248 ∷ 255 ∷ 7 ∷ 0 ∷ [])
    -- P6
    ∷ inverse_row (negsuc 2) (pos 0) (range (negsuc 6) (negsuc 1)) (range (pos 1) (pos 2))
    -- P7
    ∷ inverse_row (negsuc 2) (pos 0) (range (negsuc 1) (pos 7)) (range (negsuc 1) (pos 0))
    -- P8
    ∷ chart_row doubling (66 ∷ 67 ∷ 72 ∷ 1 ∷ 0 ∷ 1 ∷ 1 ∷ 10 ∷ 0 ∷ 0 ∷ [])
    ∷ boxes_row 2 doubling (0 ∷ 0 ∷ 0 ∷ 0 ∷ 0 ∷ [])
    -- P9, as U5 of document 02 has it
    ∷ reading_row first (0 ∷ 0 ∷ 0 ∷ []) (10 ∷ 10 ∷ 20 ∷ 65535 ∷ []) (Some 2)
    -- the ways to P1's blocks; to a block that one action reaches, though two of another would; and to one that 0, 1 and 1, 0 lead to
    ∷ way_row first 0 []
    ∷ way_row first 1 (0 ∷ [])
    ∷ way_row first 2 (0 ∷ 0 ∷ [])
    ∷ way_row steps 2 (1 ∷ [])
    ∷ way_row steps 3 (0 ∷ 1 ∷ [])
    -- the depths of P1's chart, of P5's, and of the first with three labels
    ∷ depth_row (66 ∷ 67 ∷ 72 ∷ 1 ∷ 0 ∷ 1 ∷ 3 ∷ 10 ∷ 0 ∷ 1 ∷ 10 ∷ 0 ∷ 2 ∷ 20 ∷ 0 ∷ 255 ∷ []) 1 1
    ∷ depth_row (66 ∷ 67 ∷ 72 ∷ 1 ∷ 0 ∷ 1 ∷ 1 ∷ 10 ∷ 0 ∷ 0 ∷ []) 0 0
    ∷ depth_row (66 ∷ 67 ∷ 72 ∷ 1 ∷ 0 ∷ 1 ∷ 3 ∷ 10 ∷ 0 ∷ 1 ∷ 30 ∷ 0 ∷ 2 ∷ 20 ∷ 0 ∷ 255 ∷ []) 0 0
    -- a chain of four blocks; a ring of four, which one action tells apart, where two labels would allow a depth of two
    ∷ depth_row (66 ∷ 67 ∷ 72 ∷ 1 ∷ 0 ∷ 1 ∷ 4 ∷ 10 ∷ 0 ∷ 1 ∷ 10 ∷ 0 ∷ 2 ∷ 10 ∷ 0 ∷ 3 ∷ 20 ∷ 0 ∷ 255 ∷ []) 2 2
    ∷ depth_row (66 ∷ 67 ∷ 72 ∷ 1 ∷ 0 ∷ 1 ∷ 4 ∷ 10 ∷ 0 ∷ 1 ∷ 10 ∷ 0 ∷ 2 ∷ 20 ∷ 0 ∷ 3 ∷ 20 ∷ 0 ∷ 0 ∷ []) 1 2
    -- P1's chart beside itself; beside one whose block 0 leads to the last label at once; beside one with another label at block 0
    ∷ part_row (chart 1 3 (10 ∷ 0 ∷ 1 ∷ 10 ∷ 0 ∷ 2 ∷ 20 ∷ 0 ∷ 255 ∷ [])) (chart 1 3 (10 ∷ 0 ∷ 1 ∷ 10 ∷ 0 ∷ 2 ∷ 20 ∷ 0 ∷ 255 ∷ [])) None
    ∷ part_row (chart 1 3 (10 ∷ 0 ∷ 1 ∷ 10 ∷ 0 ∷ 2 ∷ 20 ∷ 0 ∷ 255 ∷ [])) (chart 1 2 (10 ∷ 0 ∷ 1 ∷ 20 ∷ 0 ∷ 255 ∷ [])) (Some (0 ∷ []))
    ∷ part_row (chart 1 3 (10 ∷ 0 ∷ 1 ∷ 10 ∷ 0 ∷ 2 ∷ 20 ∷ 0 ∷ 255 ∷ [])) (chart 1 1 (20 ∷ 0 ∷ 255 ∷ [])) (Some [])
    -- charts of one block: an action that is barred in one alone needs N1 + N2 - 1 actions
    ∷ part_row (chart 1 1 (10 ∷ 0 ∷ 0 ∷ [])) (chart 1 1 (10 ∷ 0 ∷ 255 ∷ [])) (Some (0 ∷ []))
    -- rings of two and three blocks whose labels agree for three entries and no longer: N1 + N2 - 2 actions
    ∷ part_row (chart 1 2 (10 ∷ 0 ∷ 1 ∷ 20 ∷ 0 ∷ 0 ∷ [])) (chart 1 3 (10 ∷ 0 ∷ 1 ∷ 20 ∷ 0 ∷ 2 ∷ 10 ∷ 0 ∷ 0 ∷ [])) (Some (0 ∷ 0 ∷ 0 ∷ []))
    -- charts that 0, 1 and 1, 1 part, and many longer sequences
    ∷ part_row (chart 2 2 (10 ∷ 0 ∷ 1 ∷ 1 ∷ 20 ∷ 0 ∷ 255 ∷ 0 ∷ [])) (chart 2 3 (10 ∷ 0 ∷ 1 ∷ 1 ∷ 20 ∷ 0 ∷ 255 ∷ 2 ∷ 30 ∷ 0 ∷ 255 ∷ 255 ∷ [])) (Some (0 ∷ 1 ∷ []))
    -- P1 as version 2: the same chart, and bounds of four bytes
    ∷ accepted_row wide_bytes (66 ∷ 67 ∷ 72 ∷ 1 ∷ 0 ∷ 1 ∷ 3 ∷ 10 ∷ 0 ∷ 1 ∷ 10 ∷ 0 ∷ 2 ∷ 20 ∷ 0 ∷ 255 ∷ [])
    ∷ boxes_row 4 mirror (0 ∷ 248 ∷ 255 ∷ 255 ∷ 255 ∷ 7 ∷ 0 ∷ 0 ∷ 0 ∷ [])
    -- there is no version 3, and each version has its own length
    ∷ refused_row (changed wide_bytes 3 (3 ∷ [])) 1 0
    ∷ refused_row (changed wide_bytes 3 (2 ∷ 1 ∷ [])) 1 0
    ∷ refused_row (changed wide_bytes 3 (1 ∷ [])) 3 53
    ∷ refused_row (changed bytes 3 (2 ∷ [])) 3 43
    -- 1,000,001 as start value, as low and as high; -1,000,001 as low; 16 as the low of 8..15
    ∷ refused_row (changed wide_bytes 9 (65 ∷ 66 ∷ 15 ∷ [])) 4 9
    ∷ refused_row (changed wide_bytes 16 (65 ∷ 66 ∷ 15 ∷ [])) 4 16
    ∷ refused_row (changed wide_bytes 40 (65 ∷ 66 ∷ 15 ∷ [])) 4 40
    ∷ refused_row (changed wide_bytes 16 (191 ∷ 189 ∷ 240 ∷ 255 ∷ [])) 4 16
    ∷ refused_row (changed wide_bytes 36 (16 ∷ [])) 4 40
    -- 1,000,000 as start value is in no region
    ∷ refused_row (changed wide_bytes 9 (64 ∷ 66 ∷ 15 ∷ [])) 7 8
    -- 200,000,001 as offset; 4,000,001 as offset, in version 1 and in version 2, where it leads out of all regions
    ∷ refused_row (changed wide_bytes 29 (1 ∷ 194 ∷ 235 ∷ 11 ∷ [])) 4 29
    ∷ refused_row (changed bytes 23 (1 ∷ 9 ∷ 61 ∷ [])) 4 23
    ∷ refused_row (changed wide_bytes 29 (1 ∷ 9 ∷ 61 ∷ [])) 8 24
    -- on a dial of 12, from 1 to 6 with the increments 8 and 3; from 0 to 9 with 3 and 1, where 3 and 0 would do too; none from 1 to 6 with 8 and 4; and
    -- 12 is no value of it
    ∷ counts_row 12 1 6 (8 ∷ 3 ∷ []) (1 ∷ 3 ∷ 0 ∷ 0 ∷ 0 ∷ 0 ∷ 0 ∷ 0 ∷ [])
    ∷ counts_row 12 0 9 (3 ∷ 1 ∷ []) (0 ∷ 9 ∷ 0 ∷ 0 ∷ 0 ∷ 0 ∷ 0 ∷ 0 ∷ [])
    ∷ counts_row 12 1 6 (8 ∷ 4 ∷ []) []
    ∷ counts_row 12 1 12 (8 ∷ 3 ∷ []) []
    ∷ []
