use mathlib.Core.Path.{◌≡◌}
use mathlib.Core.List.{List}
use Prim.Native.Nat.{ℕ, ◌+◌, ◌≤◌}
use lib.ListN.{length}
use Rattle.noted_words.specs.Words.{noted_word}
use Rattle.noted_words.proofs.word_length.Given as goal

abbrev pub invariant-loop-at : goal.invariant-loop-at
invariant-loop-at l = (l.steps + l.at ≤ l.k) × ((bs : List ℕ) → l.steps + length (noted_word l.parents bs l.at) ≡ length (noted_word l.parents bs l.k))

abbrev pub decreases-loop-at : goal.decreases-loop-at
decreases-loop-at l = l.at
