-- A buffer into which the word that is noted for an entry is written, from its end on.
use Rattle.std.specs.Prelude.{◌≡◌, List, ◌++◌, ℕ, ◌≤◌, length, take, drop}
use Rattle.noted_words.specs.Words.{noted_word}

-- the buffer once the elements of w from i on stand in it
unfoldable pub filled : List ℕ → List ℕ → ℕ → List ℕ
filled old w i = take i old ++ (drop i w ++ drop (length w) old)

-- On the way: the actions of the word from `left` on are written, and those before are the word of entry `at`.
pub record Writing (ps bs : List ℕ) (k : ℕ) (old : List ℕ) (at left : ℕ) (out : List ℕ) : Type 0 where
  pub within : at ≤ k
  pub before : left ≡ length (noted_word ps bs at)
  pub behind : noted_word ps bs k ≡ noted_word ps bs at ++ drop left (noted_word ps bs k)
  pub holds : out ≡ filled old (noted_word ps bs k) left
  pub same_length : length out ≡ length old
