-- What is refused, and in which order, on the bytes of two charts. A refusal changes nothing.
use Rattle.std.specs.Prelude.{List, ℕ, length}
use Rattle.separation_rules.specs.Separation.{Separation, evidence, pair_check, separated_by, left_by}

-- what a call answers for the charts c and d, and what the buffer then holds that held old before
abbrev pub answered : List ℕ → List ℕ → List ℕ → Separation
answered c d old = separated_by (pair_check c d (length old)) (evidence c d)

abbrev pub left : List ℕ → List ℕ → List ℕ → List ℕ
left c d old = left_by (pair_check c d (length old)) (evidence c d) old
