-- What is written for the first word of a block.
use Rattle.std.specs.Prelude.{◌≡◌, List, ℕ, length}
use Rattle.exploration.specs.FirstWords.{Along}
use Rattle.systems.specs.System.{System}
use Rattle.answer_rules.specs.Run.{overwrite}

-- What is written for the word along the first namings: r is its length, and new what the buffer holds after it, where it held old before.
pub record Led (t : System ℕ) (k r : ℕ) (old new : List ℕ) : Type 0 where
  pub word : List ℕ
  pub along : Along t k word
  pub length_is : r ≡ length word
  pub left : new ≡ overwrite word old
