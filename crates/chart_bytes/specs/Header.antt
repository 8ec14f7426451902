-- The header of a chart (document 01, "Turned back"): refusals 1, 2 and 3. Definitions only.
use Rattle.std.specs.Prelude.{Bool, ◌&&◌, List, ℕ, ◌+◌, eqb, leb, length, get_or}
use Rattle.systems.specs.Search.{all}
use Rattle.answer_rules.specs.declared.Reason.TheVariants.{Header, Count, Length}
use Rattle.answer_rules.specs.Refusal.{Checked, at}
use Rattle.answer_rules.specs.Stages.{and_then, demand}
use Rattle.model.specs.Blocks.{chart_mark}
use Rattle.model.specs.Chart.{actions_of, blocks_of, record_at}

-- mark and version are right
unfoldable pub marked : List ℕ → Bool
marked c = all (λ k. eqb (get_or c k 0) (get_or chart_mark k 0)) 5

-- the byte of a target
unfoldable pub target_at : List ℕ → ℕ → ℕ → ℕ
target_at c i a = record_at c i + 2 + a

-- 1: shorter than the header, or wrong mark or version
unfoldable pub mark_check : List ℕ → Checked
mark_check c = demand (leb 7 (length c) && marked c) (at Header 0)

-- 2: a count outside its limits
unfoldable pub count_check : List ℕ → Checked
count_check c = and_then (demand (leb 1 (actions_of c) && leb (actions_of c) 8) (at Count 5)) (demand (leb 1 (blocks_of c) && leb (blocks_of c) 255) (at Count 6))

-- 3: a length that is not what the counts give
unfoldable pub length_check : List ℕ → Checked
length_check c = demand (eqb (length c) (record_at c (blocks_of c))) (at Length (length c))

-- The check of the header: 1, 2, 3.
unfoldable pub header_check : List ℕ → Checked
header_check c = and_then (mark_check c) (and_then (count_check c) (length_check c))
